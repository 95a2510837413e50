-- What the reader accepts is a legal container, and the rows that it gives are those that the container tells.
-- Assumes nothing.
use Rattle.std.proofs.Common.{◌≡◌, ℕ, zero, suc, ◌+◌, ◌-◌, ◌^◌, ◌<◌, ◌≤◌, Bool, true, false, not, ◌&&◌, eqb, ltb, List, [], ◌∷◌, ◌++◌, length, get_or, take, drop, ℤ, None, Ok, sym, refl, ap, ◌∙◌, subst, ap₂, arith, take-append-drop, length-take-le, ltb-false, eqb-true}
use Rattle.std.proofs.Math.Bool.{and-true}
use Rattle.std.proofs.lemmas.Bool.{eqb-false, true≢false}
use Rattle.grammar.specs.declared.table.Spot.TheVariants.{Descriptions, Node, Reference, Place, Modes, Associated, Nowhere}
use Rattle.grammar.specs.declared.table.Spot.{Spot}
use Rattle.grammar.specs.declared.table.Fields.{Fields}
use Rattle.grammar.specs.declared.table.Fields.TheVariants.{Nothing, Code, Text, Globe, Floor, Count, Radius, Height}
use Rattle.grammar.specs.Format.{width, layout, kind_at, big, header, fixed}
use Rattle.grammar.specs.Grammar.{Row, Byte, Bytes, tail_bytes, Parts, none, unknown, named, held, bytes_of, how_many, tell, PartsLegal, PassedOver, deeper, Tops, no_more, passed, described, tops_bytes, TopsLegal, tops_tell, Tells}
use Rattle.grammar.specs.Reading.{cut, tail, Reader, name, component, of_kind, parts, tops, reading, counted, sealed, miscounted, closed, is_text, least, off_globe, first_number, second_number}
use Rattle.grammar.proofs.Numbers.{bytes_take, bytes_drop}
use Rattle.grammar.proofs.Cut.{err_ok, ok_ok, by_test, by_then, by_cases, cut_sound}
use Rattle.grammar.proofs.Tails.{tail_sound}
use Rattle.grammar.proofs.Lines.{kind_id, counts_agree}
use Rattle.grammar.proofs.Fixed.{fields_written}

-- a legal list of parts that these bytes are, and the rows that it tells
pub record Found (d : ℕ) (s : Spot) (n c depth : ℕ) (bs : List ℕ) (rows : List Row) : Type 0 where
  pub tree : Parts
  pub legal : PartsLegal s n tree
  pub spells : bytes_of s tree ≡ bs
  pub tells : tell d depth tree ≡ rows
  pub counts : counted s ≡ true → how_many tree ≡ c

abbrev pub SoundReader : ℕ → Reader → Type 0
SoundReader d read =
    (s : Spot) (own c depth level n at : ℕ) (bs : List ℕ) (rows : List Row) → Bytes bs → read s own c depth level n at bs ≡ Ok rows → Found d s n c depth bs rows

-- one component put before the others
pub record Put (d : ℕ) (s : Spot) (n depth id : ℕ) (body : List ℕ) (rows : List Row) : Type 0 where
  pub put : Parts → Parts
  pub legal : (p : Parts) → PartsLegal s n p → PartsLegal s n (put p)
  pub spells : (p : Parts) → bytes_of s (put p) ≡ ((id ∷ big (width s) (length body)) ++ body) ++ bytes_of s p
  pub tells : (p : Parts) → tell d depth (put p) ≡ rows ++ tell d depth p
  pub counts : (p : Parts) → how_many (put p) ≡ suc (how_many p)

passes : (s : Spot) → sealed s ≡ false → PassedOver s
passes Descriptions h = tt
passes Node h = tt
passes Reference h = tt
passes Place h = tt
passes Modes h = tt
passes Associated h = absurd (true≢false h)
passes Nowhere h = absurd (true≢false h)

pub text_of : (f : Fields) → is_text f ≡ true → f ≡ Text
text_of Nothing h = cc
text_of Code h = cc
text_of Text h = refl
text_of Globe h = cc
text_of Floor h = cc
text_of Count h = cc
text_of Radius h = cc
text_of Height h = cc

framed : (s : Spot) (id id' : ℕ) (body body' rest : List ℕ) → id' ≡ id → body' ≡ body
    → (header s id' (length body') ++ body') ++ rest ≡ ((id ∷ big (width s) (length body)) ++ body) ++ rest
framed s id id' body body' rest i e = rw (i, e)

text_whole : (x : ℕ) (xs more : List ℕ) → length (take x xs) ≡ x → more ≡ drop x xs → (length (take x xs) ∷ take x xs) ++ more ≡ x ∷ xs
text_whole x xs more m e = rw (m, e) (ap (λ (r : List ℕ). x ∷ r) (take-append-drop x xs))

-- a text's component
module _ (d : ℕ) (s : Spot) (k depth level n from id : ℕ) (is-k : kind_at s id ≡ k) (is-id : (layout k).id ≡ id) (txt : (layout k).fields ≡ Text) where
  name_sound : (body : List ℕ) (rows : List Row) → Bytes body → length body < 256 ^ width s → least Text body ≤ length body
      → name d k depth level from body ≡ Ok rows → Put d s n depth id body rows
  name_sound [] rows b small l h = absurd (omega arith)
  name_sound (x ∷ xs) rows b small l h =
      by_then (tail (suc (length (x ∷ xs))) (suc level) None (from + suc x) (drop x xs)) _ h λ t q h₁.
      let r = tail_sound (suc (length (x ∷ xs))) (suc level) None (from + suc x) (drop x xs) t (bytes_drop x xs b.1) q in
      let m = length-take-le x xs (omega arith) in
      let e : (length (take x xs) ∷ take x xs) ++ tail_bytes r.tree ≡ x ∷ xs = text_whole x xs (tail_bytes r.tree) m r.spells in
      record {
        put = λ p. named k (take x xs) r.tree p;
        legal = λ p h. (rw is-id is-k, txt, bytes_take x xs b.1, rw m b.0, r.legal, subst (λ (r : List ℕ). length r < 256 ^ width s) (sym e) small, h);
        spells = λ p. framed s id (layout k).id (x ∷ xs) ((length (take x xs) ∷ take x xs) ++ tail_bytes r.tree) (bytes_of s p) is-id e;
        tells = λ p. rw (← ok_ok h₁, r.tells d);
        counts = λ p. refl;
      }

-- any other known component
module _ (d : ℕ) (read : Reader) (sound : SoundReader d read) (s : Spot) (k depth level n at from id : ℕ) (is-k : kind_at s id ≡ k) (is-id : (layout k).id ≡ id) (known : 0 < k) where
  holder_sound : (body : List ℕ) (rows : List Row) → Bytes body → length body < 256 ^ width s → deeper (layout k).inside n ≤ 8
      → least (layout k).fields body ≤ length body → off_globe (layout k).fields body ≡ false → is_text (layout k).fields ≡ false
      → (inner : List Row)
      → record { depth = depth; kind = k; a = first_number (layout k).fields body; b = second_number (layout k).fields body; language = 0; text = [] } ∷ inner ≡ rows
      → Found d (layout k).inside (deeper (layout k).inside n) (get_or body 0 0) (suc depth) (drop (least (layout k).fields body) body) inner
      → Put d s n depth id body rows
  holder_sound body rows b small deep l globe q inner is-rows g =
      let w = fields_written (layout k).fields body (how_many g.tree) b q l globe (λ c. g.counts (counts_agree k ∙ c)) in
      let one : ℤ = first_number (layout k).fields body in
      let two : ℤ = second_number (layout k).fields body in
      let e : fixed (layout k).fields one two (how_many g.tree) ++ bytes_of (layout k).inside g.tree ≡ body =
      rw (w.same, g.spells) (take-append-drop (least (layout k).fields body) body) in
      record {
        put = λ p. held k one two g.tree p;
        legal = λ p h. (rw is-id is-k, known, w.fit, deep, g.legal, subst (λ (r : List ℕ). length r < 256 ^ width s) (sym e) small, h);
        spells = λ p. framed s id (layout k).id body _ (bytes_of s p) is-id e;
        tells = λ p. rw (← is-rows, g.tells);
        counts = λ p. refl;
      }

  component_sound : (body : List ℕ) (rows : List Row) → Bytes body → length body < 256 ^ width s
      → component d read (layout k).fields (layout k).inside k depth level n at from body ≡ Ok rows → Put d s n depth id body rows
  component_sound body rows b small h =
      by_test (ltb 8 (deeper (layout k).inside n)) _ _ h λ q₁ h₁.
      by_test (ltb (length body) (least (layout k).fields body)) _ _ h₁ λ q₂ h₂.
      by_test ((closed (layout k).inside && not (is_text (layout k).fields)) && not (eqb (length body) (least (layout k).fields body))) _ _ h₂ λ q₃ h₃.
      by_test (off_globe (layout k).fields body) _ _ h₃ λ q₄ h₄.
      by_cases (is_text (layout k).fields)
      (λ q. name_sound d s k depth level n from id is-k is-id (text_of _ q) body rows b small (rw (text_of _ q) at (ltb-false _ _ q₂)) (rw q at h₄))
      (λ q.
      by_then
      (read (layout k).inside at (get_or body 0 0) (suc depth) (suc level) (deeper (layout k).inside n) (from + least (layout k).fields body) (drop (least (layout k).fields body) body))
      _ (rw q at h₄) λ inner r h₅.
      holder_sound body rows b small (ltb-false 8 _ q₁) (ltb-false _ _ q₂) q₄ q inner (ok_ok h₅)
      (sound (layout k).inside at _ (suc depth) (suc level) (deeper (layout k).inside n) (from + least (layout k).fields body) _ inner
      (bytes_drop (least (layout k).fields body) body b) r))

-- the first component of those that are left
module _ (d : ℕ) (read : Reader) (sound : SoundReader d read) (s : Spot) (depth level n at from id : ℕ) where
  of_kind_sound : (body : List ℕ) (rows : List Row) → Byte id → Bytes body → length body < 256 ^ width s → (sealed s && eqb (kind_at s id) 0) ≡ false
      → of_kind d read (kind_at s id) depth level n at from body ≡ Ok rows → Put d s n depth id body rows
  of_kind_sound body rows i b small seal h =
      by_cases (eqb (kind_at s id) 0)
      (λ q.
      record {
        put = λ p. unknown id body p;
        legal = λ p l. (passes s (sym (and-true (sealed s)) ∙ rw q at seal), eqb-true (kind_at s id) 0 q, i, b, small, l);
        spells = λ p. refl;
        tells = λ p. rw (← ok_ok (rw q at h));
        counts = λ p. refl;
      })
      (λ q.
      let z = eqb-false (kind_at s id) 0 q in
      component_sound d read sound s (kind_at s id) depth level n at from id refl (kind_id s id z) (omega arith) body rows b small (rw q at h))

none_left : (b : Bool) (c : ℕ) → miscounted b c [] ≡ false → b ≡ true → 0 ≡ c
none_left true zero h q = refl
none_left true (suc c) h q = cc
none_left false c h q = cc

some_left : (b : Bool) (c x : ℕ) (xs : List ℕ) → miscounted b c (x ∷ xs) ≡ false → b ≡ true → suc (c - 1) ≡ c
some_left true zero x xs h q = cc
some_left true (suc c) x xs h q = omega arith
some_left false c x xs h q = cc

pub parts_sound : (d f : ℕ) → SoundReader d (parts d f)
parts_sound d zero s own c depth level n at bs rows b h = absurd (err_ok h)
parts_sound d (suc f) s own c depth level n at [] rows b h =
    by_test (miscounted (counted s) c []) _ _ h λ q h₁.
    record { tree = none; legal = tt; spells = refl; tells = ok_ok h₁; counts = none_left (counted s) c q }
parts_sound d (suc f) s own c depth level n at (x ∷ xs) rows b h =
    by_test (miscounted (counted s) c (x ∷ xs)) _ _ h λ q h₁.
    by_then (cut (width s) level at (x ∷ xs)) _ h₁ λ p e h₂.
    by_test (sealed s && eqb (kind_at s p.id) 0) _ _ h₂ λ q₂ h₃.
    by_then (of_kind d (parts d f) (kind_at s p.id) depth level n at (at + suc (width s)) p.body) _ h₃ λ first e₁ h₄.
    by_then (parts d f s own (c - 1) depth level n (at + suc (width s) + length p.body) p.rest) _ h₄ λ more e₂ h₅.
    let k = cut_sound (width s) level at (x ∷ xs) p b e in
    let u = of_kind_sound d (parts d f) (parts_sound d f) s depth level n at (at + suc (width s)) p.id p.body first k.id_byte k.body_bytes k.small q₂ e₁ in
    let r = parts_sound d f s own (c - 1) depth level n (at + suc (width s) + length p.body) p.rest more k.rest_bytes e₂ in
    record {
      tree = u.put r.tree;
      legal = u.legal r.tree r.legal;
      spells = u.spells r.tree ∙ ap (λ (t : List ℕ). ((p.id ∷ big (width s) (length p.body)) ++ p.body) ++ t) r.spells ∙ sym k.whole;
      tells = u.tells r.tree ∙ ap (λ (t : List Row). first ++ t) r.tells ∙ ok_ok h₅;
      counts = λ y. u.counts r.tree ∙ ap suc (r.counts y) ∙ some_left (counted s) c x xs q y;
    }

framed_top : (id id' : ℕ) (body rest body' rest' : List ℕ) → id ≡ id' → body ≡ body' → rest ≡ rest'
    → (id ∷ big 2 (length body) ++ body) ++ rest ≡ ((id' ∷ big 2 (length body')) ++ body') ++ rest'
framed_top id id' body rest body' rest' i e r = rw (i, e, r)

pub record Topped (d : ℕ) (seen : Bool) (bs : List ℕ) (rows : List Row) : Type 0 where
  pub tree : Tops
  pub legal : TopsLegal seen tree
  pub spells : tops_bytes tree ≡ bs
  pub tells : tops_tell d tree ≡ rows

pub tops_sound : (d f : ℕ) (seen : Bool) (at : ℕ) (bs : List ℕ) (rows : List Row) → Bytes bs → tops d f seen at bs ≡ Ok rows → Topped d seen bs rows
tops_sound d zero seen at bs rows b h = absurd (err_ok h)
tops_sound d (suc f) seen at [] rows b h = record { tree = no_more; legal = tt; spells = refl; tells = ok_ok h }
tops_sound d (suc f) seen at (x ∷ xs) rows b h =
    by_then (cut 2 0 at (x ∷ xs)) _ h λ p e h₁.
    let k = cut_sound 2 0 at (x ∷ xs) p b e in
    by_cases (eqb p.id 1)
    (λ q.
    by_test seen _ _ (rw q at h₁) λ q₂ h₂.
    by_then (parts d (suc (length p.body)) Descriptions at 0 0 1 0 (at + 3) p.body) _ h₂ λ first e₁ h₃.
    by_then (tops d f true (at + 3 + length p.body) p.rest) _ h₃ λ more e₂ h₄.
    let u = parts_sound d (suc (length p.body)) Descriptions at 0 0 1 0 (at + 3) p.body first k.body_bytes e₁ in
    let r = tops_sound d f true (at + 3 + length p.body) p.rest more k.rest_bytes e₂ in
    record {
      tree = described u.tree r.tree;
      legal = (q₂, u.legal, subst (λ (y : List ℕ). length y < 65536) (sym u.spells) k.small, r.legal);
      spells = framed_top 1 p.id _ _ p.body p.rest (sym (eqb-true p.id 1 q)) u.spells r.spells ∙ sym k.whole;
      tells = ap₂ (λ (y z : List Row). y ++ z) u.tells r.tells ∙ ok_ok h₄;
    })
    (λ q.
    let r = tops_sound d f seen (at + 3 + length p.body) p.rest rows k.rest_bytes (rw q at h₁) in
    record {
      tree = passed p.id p.body r.tree;
      legal = (eqb-false p.id 1 q, k.id_byte, k.body_bytes, k.small, r.legal);
      spells = framed_top p.id p.id p.body _ p.body p.rest refl refl r.spells ∙ sym k.whole;
      tells = r.tells;
    })

pub reading_sound : (bs : List ℕ) (rows : List Row) → Bytes bs → reading bs ≡ Ok rows → Tells bs rows
reading_sound [] rows b h = absurd (err_ok h)
reading_sound (d ∷ bs) rows b h =
    by_test (ltb 65535 (length (d ∷ bs))) _ _ h λ q h₁.
    let r = tops_sound d (suc (length bs)) false 1 bs rows b.1 h₁ in
    let l : length (d ∷ bs) ≤ 65535 = ltb-false 65535 (length (d ∷ bs)) q in (
      record { default = d; tops = r.tree },
      (b.0, r.legal, subst (λ (y : List ℕ). suc (length y) ≤ 65535) (sym r.spells) l),
      ap (λ (y : List ℕ). d ∷ y) r.spells,
      r.tells,
    )
