-- The reader accepts every legal container, and gives the rows that it tells.
-- Assumes nothing.
use Rattle.std.proofs.Common.{◌≡◌, ℕ, zero, suc, ◌+◌, ◌-◌, ◌^◌, ◌<◌, ◌≤◌, Bool, true, false, not, ◌&&◌, eqb, ltb, List, [], ◌∷◌, ◌++◌, length, get_or, drop, ℤ, pos, None, Ok, sym, refl, ap, ◌∙◌, subst, subst₂, arith, length-append, take_at, drop_at, le-ltb, eq-eqb, ne_eqb}
use Rattle.std.proofs.Math.Nat.{ne_of_gt}
use Rattle.std.proofs.lemmas.Bool.{and_left, and_right}
use Rattle.grammar.specs.declared.table.Spot.TheVariants.{Descriptions, Node, Reference, Place, Modes, Associated, Nowhere}
use Rattle.grammar.specs.declared.table.Spot.{Spot}
use Rattle.grammar.specs.declared.table.Fields.{Fields}
use Rattle.grammar.specs.declared.table.Fields.TheVariants.{Text}
use Rattle.grammar.specs.Format.{width, layout, kind_at, big, header, fixed, Fit}
use Rattle.grammar.specs.Grammar.{Row, Tail, TailLegal, tail_bytes, said, Parts, none, unknown, named, held, bytes_of, how_many, tell, PartsLegal, PassedOver, deeper, Tops, no_more, passed, described, tops_bytes, TopsLegal, tops_tell, Container, sent_as, Good, told, Tells}
use Rattle.grammar.specs.Reading.{Read, cut, tail, Reader, component, of_kind, parts, tops, reading, counted, sealed, miscounted, closed, is_text, is_count, least, off_globe}
use Rattle.grammar.proofs.Numbers.{length_big}
use Rattle.grammar.proofs.Cut.{pass, go_then, by_cases, cut_complete}
use Rattle.grammar.proofs.Tails.{tail_complete}
use Rattle.grammar.proofs.Lines.{counts_agree, text_closed, text_known}
use Rattle.grammar.proofs.Fixed.{no_count, fields_read}

frame_size : (s : Spot) (id : ℕ) (body rest : List ℕ) → length ((header s id (length body) ++ body) ++ rest) ≡ suc (width s) + (length body + length rest)
frame_size s id body rest =
    let a = length-append (header s id (length body) ++ body) rest in
    let b = length-append (big (width s) (length body)) body in
    let c = length_big (width s) (length body) in
    omega arith

none_counted : (b : Bool) (c : ℕ) → (b ≡ true → 0 ≡ c) → miscounted b c [] ≡ false
none_counted false c h = refl
none_counted true zero h = refl
none_counted true (suc c) h = let z = h refl in absurd (omega arith)

some_counted : (b : Bool) (c m x : ℕ) (xs : List ℕ) → (b ≡ true → suc m ≡ c) → miscounted b c (x ∷ xs) ≡ false
some_counted false c m x xs h = refl
some_counted true zero m x xs h = let z = h refl in absurd (omega arith)
some_counted true (suc c) m x xs h = refl

-- one component before the others
parts_step : (d f : ℕ) (s : Spot) (own c depth level n at id m : ℕ) (body rest : List ℕ) (rows more : List Row) → length body < 256 ^ width s
    → (counted s ≡ true → suc m ≡ c) → (sealed s && eqb (kind_at s id) 0) ≡ false
    → of_kind d (parts d f) (kind_at s id) depth level n at (at + suc (width s)) body ≡ Ok rows
    → parts d f s own (c - 1) depth level n (at + suc (width s) + length body) rest ≡ Ok more
    → parts d (suc f) s own c depth level n at ((header s id (length body) ++ body) ++ rest) ≡ Ok (rows ++ more)
parts_step d f s own c depth level n at id m body rest rows more small count seal one others =
    pass (miscounted (counted s) c ((header s id (length body) ++ body) ++ rest)) _ _ (some_counted (counted s) c m _ _ count)
    (go_then (cut (width s) level at ((header s id (length body) ++ body) ++ rest)) _ (cut_complete (width s) level at id body rest small)
    (pass (sealed s && eqb (kind_at s id) 0) _ _ seal
    (go_then (of_kind d (parts d f) (kind_at s id) depth level n at (at + suc (width s)) body) _ one
    (go_then (parts d f s own (c - 1) depth level n (at + suc (width s) + length body) rest) _ others refl))))

pub is_nowhere : (s : Spot) → closed s ≡ true → s ≡ Nowhere
is_nowhere Descriptions h = cc
is_nowhere Node h = cc
is_nowhere Reference h = cc
is_nowhere Place h = cc
is_nowhere Modes h = cc
is_nowhere Associated h = cc
is_nowhere Nowhere h = refl

closed_level : (s : Spot) (n : ℕ) → closed s ≡ true → deeper s n ≡ n
closed_level s n h = rw (is_nowhere s h)

is_open : (s : Spot) → PassedOver s → sealed s ≡ false
is_open Descriptions h = refl
is_open Node h = refl
is_open Reference h = refl
is_open Place h = refl
is_open Modes h = refl
is_open Associated h = absurd h
is_open Nowhere h = absurd h

-- nothing stands nowhere
none_nowhere : (n : ℕ) (p : Parts) → PartsLegal Nowhere n p → bytes_of Nowhere p ≡ []
none_nowhere n none h = refl
none_nowhere n (unknown id bs rest) h = absurd h.0
none_nowhere n (named k t tail rest) h = absurd (ne_of_gt (text_known k h.1) (sym h.0))
none_nowhere n (held k a b inner rest) h = let e : 0 ≡ k = h.0 in let l : 0 < k = h.1 in absurd (omega arith)

nothing_nowhere : (s : Spot) (n : ℕ) (p : Parts) → closed s ≡ true → PartsLegal s n p → bytes_of s p ≡ []
nothing_nowhere s n p c h =
    let e = is_nowhere s c in
    rw e (none_nowhere n p (rw e at h))

known : (d : ℕ) (read : Reader) (k depth level n at from : ℕ) (body : List ℕ) (r : Read (List Row)) → (k ≡ 0 → ⊥)
    → component d read (layout k).fields (layout k).inside k depth level n at from body ≡ r → of_kind d read k depth level n at from body ≡ r
known d read k depth level n at from body r z h = rw (ne_eqb k 0 z) h

component_text : (d : ℕ) (read : Reader) (inside : Spot) (k depth level n at from : ℕ) (t : List ℕ) (tl : Tail)
    → deeper inside n ≤ 8 → TailLegal false tl
    → component d read Text inside k depth level n at from ((length t ∷ t) ++ tail_bytes tl)
    ≡ Ok (record { depth = depth; kind = k; a = pos 0; b = pos 0; language = said d tl; text = t } ∷ [])
component_text d read inside k depth level n at from t tl deep legal =
    let m = length-append t (tail_bytes tl) in
    let r = tail_complete tl (suc (length ((length t ∷ t) ++ tail_bytes tl))) (suc level) None (from + suc (length t)) (omega arith) legal in
    pass (ltb 8 (deeper inside n)) _ _ (le-ltb 8 _ deep)
    (pass (ltb (length ((length t ∷ t) ++ tail_bytes tl)) (suc (length t))) _ _ (le-ltb _ _ (omega arith))
    (pass ((closed inside && false) && not (eqb (length ((length t ∷ t) ++ tail_bytes tl)) (suc (length t)))) _ _ (and_left _ _ (and_right (closed inside) false refl))
    (go_then (tail (suc (length ((length t ∷ t) ++ tail_bytes tl))) (suc level) None (from + suc (length t)) (drop (length t) (t ++ tail_bytes tl))) _ {x = r.0}
    (rw (drop_at t (tail_bytes tl) (length t) refl) r.1)
    (rw (take_at t (tail_bytes tl) (length t) refl, r.2 d)))))

-- a holder, whose parts are read by a reader that accepts them
component_held : (d : ℕ) (read : Reader) (f : Fields) (inside : Spot) (k depth level n at from : ℕ) (a b : ℤ) (m : ℕ) (rest : List ℕ) (inner : List Row)
    → deeper inside n ≤ 8 → Fit f a b m → (closed inside ≡ true → rest ≡ [])
    → ((c : ℕ) → (is_count f ≡ true → m ≡ c) → (here : ℕ) → read inside at c (suc depth) (suc level) (deeper inside n) here rest ≡ Ok inner)
    → component d read f inside k depth level n at from (fixed f a b m ++ rest)
    ≡ Ok (record { depth = depth; kind = k; a = a; b = b; language = 0; text = [] } ∷ inner)
component_held d read f inside k depth level n at from a b m rest inner deep fit end reads =
    let w = fields_read f a b m rest fit in
    let l = length-append (fixed f a b m) rest in
    let size = w.size in
    pass (ltb 8 (deeper inside n)) _ _ (le-ltb 8 _ deep)
    (pass (ltb (length (fixed f a b m ++ rest)) (least f (fixed f a b m ++ rest))) _ _ (le-ltb _ _ (omega arith))
    (pass ((closed inside && not (is_text f)) && not (eqb (length (fixed f a b m ++ rest)) (least f (fixed f a b m ++ rest)))) _ _
    (by_cases (closed inside)
    (λ q. and_right (closed inside && not (is_text f)) _ (ap not (eq-eqb _ _ (let z : length rest ≡ 0 = ap length (end q) in omega arith))))
    (λ q. and_left _ _ (and_left _ _ q)))
    (pass (off_globe f (fixed f a b m ++ rest)) _ _ w.on_globe
    (rw w.no_text
    (go_then (read inside at (get_or (fixed f a b m ++ rest) 0 0) (suc depth) (suc level) (deeper inside n) (from + least f (fixed f a b m ++ rest)) (drop (least f (fixed f a b m ++ rest)) (fixed f a b m ++ rest))) _ {x = inner}
    (rw (drop_at (fixed f a b m) rest (least f (fixed f a b m ++ rest)) (sym size)) (reads _ (λ c. sym (w.counts c)) _))
    (rw (w.first, w.second)))))))

-- both, by the identifier that they stand under
module _ (d : ℕ) (read : Reader) (s : Spot) (k depth level n at from : ℕ) (is-k : kind_at s (layout k).id ≡ k) where
  of_that_kind : (body : List ℕ) (rows : List Row) → (k ≡ 0 → ⊥) → component d read (layout k).fields (layout k).inside k depth level n at from body ≡ Ok rows
      → of_kind d read (kind_at s (layout k).id) depth level n at from body ≡ Ok rows
  of_that_kind body rows z h =
      subst (λ (j : ℕ). of_kind d read j depth level n at from body ≡ Ok rows) (sym is-k) (known d read k depth level n at from body (Ok rows) z h)

  named_complete : (t : List ℕ) (tl : Tail) → (layout k).fields ≡ Text → n ≤ 8 → TailLegal false tl
      → of_kind d read (kind_at s (layout k).id) depth level n at from ((length t ∷ t) ++ tail_bytes tl)
      ≡ Ok (record { depth = depth; kind = k; a = pos 0; b = pos 0; language = said d tl; text = t } ∷ [])
  named_complete t tl txt deep legal =
      let g = closed_level (layout k).inside n (text_closed k (ap is_text txt)) in
      let r = component_text d read (layout k).inside k depth level n at from t tl (omega arith) legal in
      of_that_kind ((length t ∷ t) ++ tail_bytes tl) _ (ne_of_gt (text_known k txt))
      (subst
      (λ (f : Fields). component d read f (layout k).inside k depth level n at from ((length t ∷ t) ++ tail_bytes tl)
      ≡ Ok (record { depth = depth; kind = k; a = pos 0; b = pos 0; language = said d tl; text = t } ∷ []))
      (sym txt) r)

pub parts_complete : (p : Parts) (d f : ℕ) (s : Spot) (own c depth level n at : ℕ) → length (bytes_of s p) < f → n ≤ 8 → PartsLegal s n p
    → (counted s ≡ true → how_many p ≡ c) → parts d f s own c depth level n at (bytes_of s p) ≡ Ok (tell d depth p)
parts_complete p d zero s own c depth level n at l deep h count = absurd (omega arith)
parts_complete none d (suc f) s own c depth level n at l deep h count =
    pass (miscounted (counted s) c []) _ _ (none_counted (counted s) c count) refl
parts_complete (unknown id bs rest) d (suc f) s own c depth level n at l deep h count =
    let z = frame_size s id bs (bytes_of s rest) in
    parts_step d f s own c depth level n at id (how_many rest) bs (bytes_of s rest) [] (tell d depth rest) h.4 count
    (and_left _ _ (is_open s h.0))
    (rw h.1)
    (parts_complete rest d f s own (c - 1) depth level n _ (omega arith) deep h.5 (λ q. let y = count q in omega arith))
parts_complete (named k t tl rest) d (suc f) s own c depth level n at l deep h count =
    let z = frame_size s (layout k).id ((length t ∷ t) ++ tail_bytes tl) (bytes_of s rest) in
    parts_step d f s own c depth level n at (layout k).id (how_many rest) ((length t ∷ t) ++ tail_bytes tl) (bytes_of s rest) _ (tell d depth rest) h.5 count
    (and_right (sealed s) _ (rw h.0 (ne_eqb k 0 (ne_of_gt (text_known k h.1)))))
    (named_complete d (parts d f) s k depth level n at (at + suc (width s)) h.0 t tl h.1 deep h.4)
    (parts_complete rest d f s own (c - 1) depth level n _ (omega arith) deep h.6 (λ q. let y = count q in omega arith))
parts_complete (held k a b inner rest) d (suc f) s own c depth level n at l deep h count =
    let body : List ℕ = fixed (layout k).fields a b (how_many inner) ++ bytes_of (layout k).inside inner in
    let z = frame_size s (layout k).id body (bytes_of s rest) in
    let y = length-append (fixed (layout k).fields a b (how_many inner)) (bytes_of (layout k).inside inner) in
    let pos : 0 < k = h.1 in
    let apart : k ≡ 0 → ⊥ = omega arith in
    parts_step d f s own c depth level n at (layout k).id (how_many rest) body (bytes_of s rest) _ (tell d depth rest) h.5 count
    (and_right (sealed s) _ (rw h.0 (ne_eqb k 0 apart)))
    (of_that_kind d (parts d f) s k depth level n at (at + suc (width s)) h.0 body _ apart
    (component_held d (parts d f) (layout k).fields (layout k).inside k depth level n at (at + suc (width s)) a b (how_many inner)
    (bytes_of (layout k).inside inner) (tell d (suc depth) inner) h.3 h.2
    (λ q. nothing_nowhere (layout k).inside (deeper (layout k).inside n) inner q h.4)
    (λ m e here. parts_complete inner d f (layout k).inside at m (suc depth) (suc level) (deeper (layout k).inside n) here (omega arith) h.3 h.4
    (λ q. e (sym (counts_agree k) ∙ q)))))
    (parts_complete rest d f s own (c - 1) depth level n _ (omega arith) deep h.6 (λ q. let y = count q in omega arith))

pub tops_complete : (t : Tops) (d f : ℕ) (seen : Bool) (at : ℕ) → length (tops_bytes t) < f → TopsLegal seen t → tops d f seen at (tops_bytes t) ≡ Ok (tops_tell d t)
tops_complete t d zero seen at l h = absurd (omega arith)
tops_complete no_more d (suc f) seen at l h = refl
tops_complete (passed id bs rest) d (suc f) seen at l h =
    let z = length-append bs (tops_bytes rest) in
    go_then (cut 2 0 at ((id ∷ big 2 (length bs) ++ bs) ++ tops_bytes rest)) _ (cut_complete 2 0 at id bs (tops_bytes rest) h.3)
    (rw (ne_eqb id 1 h.0) (tops_complete rest d f seen (at + 3 + length bs) (omega arith) h.4))
tops_complete (described p rest) d (suc f) seen at l h =
    let body : List ℕ = bytes_of Descriptions p in
    let z = length-append body (tops_bytes rest) in
    go_then (cut 2 0 at ((1 ∷ big 2 (length body) ++ body) ++ tops_bytes rest)) _ (cut_complete 2 0 at 1 body (tops_bytes rest) h.2)
    (pass seen _ _ h.0
    (go_then (parts d (suc (length body)) Descriptions at 0 0 1 0 (at + 3) body) _
    (parts_complete p d (suc (length body)) Descriptions at 0 0 1 0 (at + 3) (omega arith) (omega arith) h.1 no_count)
    (go_then (tops d f true (at + 3 + length body) (tops_bytes rest)) _ (tops_complete rest d f true (at + 3 + length body) (omega arith) h.3) refl)))

legal_read : (c : Container) → Good c → reading (sent_as c) ≡ Ok (told c)
legal_read c good =
    pass (ltb 65535 (length (sent_as c))) _ _ (le-ltb 65535 _ good.2)
    (tops_complete c.tops c.default (suc (length (tops_bytes c.tops))) false 1 (omega arith) good.1)

pub reading_complete : (bs : List ℕ) (rows : List Row) → Tells bs rows → reading bs ≡ Ok rows
reading_complete bs rows (c, good, spells, tells) =
    subst₂ (λ (b : List ℕ) (r : List Row). reading b ≡ Ok r) spells tells (legal_read c good)
