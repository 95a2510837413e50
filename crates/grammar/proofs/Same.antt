-- The reading by offset is the reading.
-- Assumes nothing.
use Rattle.std.proofs.Common.{◌≡◌, ℕ, zero, suc, ◌+◌, ◌-◌, ◌*◌, ◌<◌, ◌≤◌, Bool, true, false, not, ◌&&◌, ◌||◌, eqb, ltb, leb, List, [], ◌∷◌, length, get_or, take, drop, ℤ, pos, None, Ok, sym, refl, ap, ◌∙◌, subst, ap₂, arith, ltb-false, lt-ltb, eq-eqb, ne_eqb, eqb-true, leb-false, leb-true}
use Rattle.std.proofs.lemmas.Bool.{eqb-false, not-false, false≢true}
use lib.Seq.{slice, slice_empty, slice-cons, length-slice}
use Rattle.grammar.specs.declared.table.Spot.TheVariants.{Descriptions, Node, Reference, Place, Modes, Associated, Nowhere}
use Rattle.grammar.specs.declared.table.Spot.{Spot}
use Rattle.grammar.specs.declared.table.Fields.{Fields}
use Rattle.grammar.specs.declared.table.Fields.TheVariants.{Nothing, Code, Text, Globe, Floor, Count, Radius, Height}
use Rattle.grammar.specs.Format.{width, layout, kind_at}
use Rattle.grammar.specs.Grammar.{deeper}
use Rattle.grammar.specs.Reading.{if, then, signed, Spoken, heard, or_else, tail, name, of_kind, parts, tops, reading, counted, sealed, miscounted, empty, closed, is_text, is_count, least, off_globe, first_number, second_number, beyond}
use Rattle.grammar.specs.Offsets as O
use Rattle.grammar.proofs.Cut.{by_cases}
use Rattle.grammar.proofs.Lines.{counts_agree}
use Rattle.grammar.proofs.Sound.{text_of}
use Rattle.grammar.proofs.Slices.{same_test, same_fault, same_if, same_then, slice_drop, slice_take, slice_all, value_slice, cut_slice}

same_equal : (a b c d : ℕ) → (a ≡ b → c ≡ d) → (c ≡ d → a ≡ b) → eqb a b ≡ eqb c d
same_equal a b c d y n = by_cases (eqb a b) (λ q. q ∙ sym (eq-eqb c d (y (eqb-true a b q)))) (λ q. q ∙ sym (ne_eqb c d (λ e. eqb-false a b q (n e))))

module _ (bs : List ℕ) where
  slice_none : (i j : ℕ) → i ≡ j → slice i j bs ≡ []
  slice_none i j e = rw e (slice_empty j bs)

  slice_some : (i j : ℕ) → i < j → j ≤ length bs → empty (slice i j bs) ≡ false
  slice_some i j h l = rw (slice-cons i j bs 0 h l)

  getD_slice : (i j : ℕ) → i < j → j ≤ length bs → get_or (slice i j bs) 0 0 ≡ get_or bs i 0
  getD_slice i j h l = rw (slice-cons i j bs 0 h l)

  tail_same : (g f level : ℕ) (l : Spoken) (i j : ℕ) → i ≤ j → j ≤ length bs → j - i < g → j - i ≤ f
      → O.tail bs f level l i j ≡ tail g level l i (slice i j bs)
  tail_same zero f level l i j h k a b = absurd (omega arith)
  tail_same (suc g) zero level l i j h k a b = rw (slice_none i j (omega arith))
  tail_same (suc g) (suc f) level l i j h k a b =
      by_cases (leb j i)
      (λ q. let r = leb-true j i q in rw (q, slice_none i j (omega arith)))
      (λ q.
      let r = leb-false j i q in
      rw (q, slice_some i j r k)
      (cut_slice bs 1 level i j r k _ _ λ to x y.
      let n = length-slice (i + 2) to bs (omega arith) in
      let m : i + 2 + length (slice (i + 2) to bs) ≡ to = omega arith in
      same_if (not (eqb (get_or bs i 0) 0)) (not (eqb (get_or bs i 0) 0)) _ _ _ _ refl
      (λ _. rw m (tail_same g f level l to j (omega arith) k (omega arith) (omega arith)))
      (λ _. same_fault (heard l) (heard l) _ _ _ refl
      (λ _. same_fault (not (eqb to (i + 3))) (not (eqb (length (slice (i + 2) to bs)) 1)) _ _ _
      (ap not (same_equal to (i + 3) (length (slice (i + 2) to bs)) 1 (omega arith) (omega arith)))
      (λ p.
      let e : to ≡ i + 3 = eqb-true to (i + 3) (not-false _ p) in
      rw (getD_slice (i + 2) to (omega arith) (omega arith), ← e) (tail_same g f level _ to j (omega arith) k (omega arith) (omega arith)))))))

  signed_same : (n i j : ℕ) → i + n ≤ j → j ≤ length bs → O.signed bs i n ≡ signed n (slice i j bs)
  signed_same n i j h l = rw (value_slice bs n i j h l)

  -- the fixed fields in the slice from i to j
  module _ (i j : ℕ) (h : i ≤ j) (l : j ≤ length bs) where
    least_test : (f : Fields) → ltb j (i + O.least bs f i) ≡ ltb (length (slice i j bs)) (least f (slice i j bs))
    least_test f = go f
      where
        n : length (slice i j bs) ≡ j - i
        n = length-slice i j bs l

        by : (c : ℕ) → ltb j (i + c) ≡ ltb (length (slice i j bs)) c
        by c = same_test j (i + c) (length (slice i j bs)) c (λ y. omega (arith, n)) (λ y. omega (arith, n))

        go : (f : Fields) → ltb j (i + O.least bs f i) ≡ ltb (length (slice i j bs)) (least f (slice i j bs))
        go Nothing = by 0
        go Code = by 1
        go Text =
            by_cases (leb j i)
            (λ q. let r = leb-true j i q in lt-ltb j _ (omega arith) ∙ sym (lt-ltb (length (slice i j bs)) _ (omega (arith, n))))
            (λ q.
            let r = leb-false j i q in
            let e : 1 + get_or bs i 0 ≡ suc (get_or bs i 0) = omega arith in
            rw (getD_slice i j r l, e) (by (suc (get_or bs i 0))))
        go Globe = by 8
        go Floor = by 1
        go Count = by 1
        go Radius = by 2
        go Height = by 3

    least_same : (f : Fields) → i + O.least bs f i ≤ j → O.least bs f i ≡ least f (slice i j bs)
    least_same Nothing k = refl
    least_same Code k = refl
    least_same Text k = rw (getD_slice i j (omega arith) l) (omega arith)
    least_same Globe k = refl
    least_same Floor k = refl
    least_same Count k = refl
    least_same Radius k = refl
    least_same Height k = refl

    first_same : (f : Fields) → i + O.least bs f i ≤ j → O.first_number bs f i ≡ first_number f (slice i j bs)
    first_same Nothing k = refl
    first_same Code k = ap pos (value_slice bs 1 i j k l)
    first_same Text k = refl
    first_same Globe k = signed_same 4 i j (omega arith) l
    first_same Floor k = signed_same 1 i j k l
    first_same Count k = refl
    first_same Radius k = ap pos (value_slice bs 2 i j k l)
    first_same Height k = ap pos (value_slice bs 1 i j (omega arith) l)

    second_same : (f : Fields) → i + O.least bs f i ≤ j → O.second_number bs f i ≡ second_number f (slice i j bs)
    second_same Nothing k = refl
    second_same Code k = refl
    second_same Text k = refl
    second_same Globe k = rw (slice_drop bs 4 i j) (signed_same 4 (i + 4) j (omega arith) l)
    second_same Floor k = refl
    second_same Count k = refl
    second_same Radius k = refl
    second_same Height k = rw (slice_drop bs 1 i j) (signed_same 2 (i + 1) j (omega arith) l)

    globe_same : (f : Fields) → i + O.least bs f i ≤ j → O.off_globe bs f i ≡ off_globe f (slice i j bs)
    globe_same Nothing k = refl
    globe_same Code k = refl
    globe_same Text k = refl
    globe_same Globe k =
        ap₂ (λ (x y : ℤ). beyond 18000000 x || beyond 9000000 y) (first_same Globe k) (second_same Globe k)
    globe_same Floor k = refl
    globe_same Count k = refl
    globe_same Radius k = refl
    globe_same Height k = refl

  -- a text's component
  name_same : (d f k depth level i j : ℕ) → i ≤ j → j ≤ length bs → j - i ≤ f → i + O.least bs Text i ≤ j
      → then (O.tail bs f (suc level) None (i + O.least bs Text i) j)
      (λ l. Ok (record { depth = depth; kind = k; a = pos 0; b = pos 0; language = or_else d l; text = take (get_or bs i 0) (drop (suc i) bs) } ∷ []))
      ≡ name d k depth level i (slice i j bs)
  name_same d f k depth level i j h l m a =
      let e : i + (1 + get_or bs i 0) ≡ i + suc (get_or bs i 0) = omega arith in
      let n = length-slice i j bs l in
      let x : ℕ = get_or bs i 0 in
      let first : take x (drop (suc i) bs) ≡ slice (suc i) (suc i + x) bs =
      ap (take x) (sym (slice_all bs (suc i))) ∙ slice_take bs x (suc i) (length bs) (omega arith) (omega arith) in
      let e₂ : i + 1 ≡ suc i = omega arith in
      let second : take x (drop 1 (slice i j bs)) ≡ slice (suc i) (suc i + x) bs =
      ap (take x) (slice_drop bs 1 i j ∙ ap (λ (y : ℕ). slice y j bs) e₂) ∙ slice_take bs x (suc i) j (omega arith) l in
      rw (getD_slice i j (omega arith) l, e, first, second, slice_drop bs (suc x) i j)
      (same_then (O.tail bs f (suc level) None (i + suc x) j) (tail (suc (length (slice i j bs))) (suc level) None (i + suc x) (slice (i + suc x) j bs)) _ _
      (tail_same (suc (length (slice i j bs))) f (suc level) None (i + suc x) j (omega arith) l (omega arith) (omega arith))
      (λ t q. refl))

closed_of : (s : Spot) → counted s ≡ false → sealed s ≡ true → closed s ≡ true
closed_of Descriptions c h = h
closed_of Node c h = h
closed_of Reference c h = h
closed_of Place c h = h
closed_of Modes c h = h
closed_of Associated c h = sym c
closed_of Nowhere c h = refl

pub associated_of : (s : Spot) → counted s ≡ true → s ≡ Associated
associated_of Descriptions h = cc
associated_of Node h = cc
associated_of Reference h = cc
associated_of Place h = cc
associated_of Modes h = cc
associated_of Associated h = refl
associated_of Nowhere h = cc

pub count_of : (f : Fields) → is_count f ≡ true → f ≡ Count
count_of Nothing h = cc
count_of Code h = cc
count_of Text h = cc
count_of Globe h = cc
count_of Floor h = cc
count_of Count h = refl
count_of Radius h = cc
count_of Height h = cc

pub width_some : (s : Spot) → 1 ≤ width s
width_some Descriptions = omega arith
width_some Node = omega arith
width_some Reference = omega arith
width_some Place = omega arith
width_some Modes = omega arith
width_some Associated = omega arith
width_some Nowhere = omega arith

-- the two readers agree on the parts in at most so many bytes
record Same (bs : List ℕ) (d g : ℕ) : Type 0 where
  plain : (f : ℕ) (s : Spot) (own c depth level n i j : ℕ) → i ≤ j → j ≤ length bs → j - i < g → j - i ≤ f → counted s ≡ false → (sealed s ≡ true → i ≡ j)
      → O.parts bs d f s depth level n i j ≡ parts d g s own c depth level n i (slice i j bs)
  counting : (f own c depth level n i j : ℕ) → i ≤ j → j ≤ length bs → j - i < g → j - i < f
      → O.nodes bs d f c depth level n own i j ≡ parts d g Associated own c depth level n i (slice i j bs)

module _ (bs : List ℕ) (d g : ℕ) (same : Same bs d g) where
  -- what stands in a holder that is no text
  inner_same : (f depth level n at i j : ℕ) (fs : Fields) (inside : Spot) → counted inside ≡ is_count fs → i ≤ j → j ≤ length bs → j - i < g → j - i ≤ f
      → i + O.least bs fs i ≤ j → (closed inside ≡ true → j ≡ i + O.least bs fs i)
      → if (is_count fs)
      (λ _. O.nodes bs d f (get_or bs i 0) depth level n at (i + 1) j)
      (λ _. O.parts bs d f inside depth level (deeper inside n) (i + O.least bs fs i) j)
      ≡ parts d g inside at (get_or (slice i j bs) 0 0) depth level (deeper inside n) (i + least fs (slice i j bs)) (drop (least fs (slice i j bs)) (slice i j bs))
  inner_same f depth level n at i j fs inside agree h l a b k e =
      rw (← least_same bs i j h l fs k, slice_drop bs (O.least bs fs i) i j)
      (by_cases (is_count fs)
      (λ q.
      let c = count_of fs q in
      let k' : i + 1 ≤ j = subst (λ (y : Fields). i + O.least bs y i ≤ j) c k in
      rw (c, associated_of inside (agree ∙ q), getD_slice bs i j (omega arith) l)
      (same.counting f at (get_or bs i 0) depth level n (i + 1) j k' l (omega arith) (omega arith)))
      (λ q.
      rw q
      (same.plain f inside at _ depth level (deeper inside n) (i + O.least bs fs i) j k l (omega arith) (omega arith) (agree ∙ q)
      (λ z. sym (e (closed_of inside (agree ∙ q) z))))))

  component_same : (f k depth level n at i j : ℕ) → i ≤ j → j ≤ length bs → j - i < g → j - i ≤ f
      → O.component bs d (suc f) k depth level n at i j ≡ of_kind d (parts d g) k depth level n at i (slice i j bs)
  component_same f k depth level n at i j h l a b =
      let fs : Fields = (layout k).fields in
      let m = length-slice i j bs l in
      same_if (eqb k 0) (eqb k 0) _ _ _ _ refl (λ _. refl)
      (λ _. same_fault (ltb 8 (deeper (layout k).inside n)) (ltb 8 (deeper (layout k).inside n)) _ _ _ refl
      (λ _. same_fault (ltb j (i + O.least bs fs i)) (ltb (length (slice i j bs)) (least fs (slice i j bs))) _ _ _ (least_test bs i j h l fs)
      (λ q.
      let y = ltb-false j (i + O.least bs fs i) q in
      let z = least_same bs i j h l fs y in
      let e : eqb j (i + O.least bs fs i) ≡ eqb (length (slice i j bs)) (least fs (slice i j bs)) =
      same_equal j (i + O.least bs fs i) (length (slice i j bs)) (least fs (slice i j bs)) (omega arith) (omega arith) in
      same_fault ((closed (layout k).inside && not (is_text fs)) && not (eqb j (i + O.least bs fs i)))
      ((closed (layout k).inside && not (is_text fs)) && not (eqb (length (slice i j bs)) (least fs (slice i j bs)))) _ _ _ (rw e)
      (λ p. same_fault (O.off_globe bs fs i) (off_globe fs (slice i j bs)) _ _ _ (globe_same bs i j h l fs y)
      (λ _. same_if (is_text fs) (is_text fs) _ _ _ _ refl
      (λ t. name_same bs d f k depth level i j h l b (subst (λ (x : Fields). i + O.least bs x i ≤ j) (text_of fs t) y))
      (λ t.
      rw (← first_same bs i j h l fs y, ← second_same bs i j h l fs y)
      (same_then
      (if (is_count fs)
      (λ _. O.nodes bs d f (get_or bs i 0) (suc depth) (suc level) n at (i + 1) j)
      (λ _. O.parts bs d f (layout k).inside (suc depth) (suc level) (deeper (layout k).inside n) (i + O.least bs fs i) j))
      (parts d g (layout k).inside at (get_or (slice i j bs) 0 0) (suc depth) (suc level) (deeper (layout k).inside n)
      (i + least fs (slice i j bs)) (drop (least fs (slice i j bs)) (slice i j bs))) _ _
      (inner_same f (suc depth) (suc level) n at i j fs (layout k).inside (counts_agree k) h l a b y
      (λ c. eqb-true j (i + O.least bs fs i) (not-false _ (rw (c, t) at p))))
      (λ rows _. refl))))))))

  component_same' : (f k depth level n at i j : ℕ) → i ≤ j → j ≤ length bs → j - i < g → j - i < f
      → O.component bs d f k depth level n at i j ≡ of_kind d (parts d g) k depth level n at i (slice i j bs)
  component_same' zero k depth level n at i j h l a b = absurd (omega arith)
  component_same' (suc f) k depth level n at i j h l a b = component_same f k depth level n at i j h l a (omega arith)

miscounted_some : (bs : List ℕ) (c i j : ℕ) → i < j → j ≤ length bs → miscounted true (suc c) (slice i j bs) ≡ false
miscounted_some bs c i j h l = rw (slice-cons i j bs 0 h l)

node_test : (x : ℕ) → not (eqb x 2) ≡ eqb (kind_at Associated x) 0
node_test x = by_cases (eqb x 2) (λ q. rw (q, kind_at)) (λ q. rw (q, kind_at))

pub node_kind : (x : ℕ) → not (eqb x 2) ≡ false → kind_at Associated x ≡ 1
node_kind x h = rw (not-false (eqb x 2) h, kind_at)

module _ (bs : List ℕ) (d g : ℕ) (same : Same bs d g) where
  plain_step : (f : ℕ) (s : Spot) (own c depth level n i j : ℕ) → i ≤ j → j ≤ length bs → j - i < suc g → j - i ≤ f → counted s ≡ false → (sealed s ≡ true → i ≡ j)
      → O.parts bs d f s depth level n i j ≡ parts d (suc g) s own c depth level n i (slice i j bs)
  plain_step zero s own c depth level n i j h l a b cnt e = rw (cnt, slice_none bs i j (omega arith))
  plain_step (suc f) s own c depth level n i j h l a b cnt e =
      by_cases (leb j i)
      (λ q. let r = leb-true j i q in rw (q, cnt, slice_none bs i j (omega arith)))
      (λ q.
      let r = leb-false j i q in
      let open-spot : sealed s ≡ false = by_cases (sealed s) (λ z. let y = e z in absurd (omega arith)) (λ z. z) in
      rw (q, cnt, slice_some bs i j r l, open-spot)
      (cut_slice bs (width s) level i j r l _ _ λ to x y.
      let v = width_some s in
      let m = length-slice (i + suc (width s)) to bs (omega arith) in
      let e : i + suc (width s) + length (slice (i + suc (width s)) to bs) ≡ to = omega arith in
      same_then (O.component bs d f (kind_at s (get_or bs i 0)) depth level n i (i + suc (width s)) to)
      (of_kind d (parts d g) (kind_at s (get_or bs i 0)) depth level n i (i + suc (width s)) (slice (i + suc (width s)) to bs)) _ _
      (component_same' bs d g same f (kind_at s (get_or bs i 0)) depth level n i (i + suc (width s)) to (omega arith) (omega arith) (omega arith) (omega arith))
      (λ rows _.
      same_then (O.parts bs d f s depth level n to j)
      (parts d g s own (c - 1) depth level n (i + suc (width s) + length (slice (i + suc (width s)) to bs)) (slice to j bs)) _ _
      (rw e (same.plain f s own (c - 1) depth level n to j (omega arith) l (omega arith) (omega arith) cnt (λ z. absurd (false≢true (sym open-spot ∙ z)))))
      (λ more _. refl))))

  counting_step : (f own c depth level n i j : ℕ) → i ≤ j → j ≤ length bs → j - i < suc g → j - i < f
      → O.nodes bs d f c depth level n own i j ≡ parts d (suc g) Associated own c depth level n i (slice i j bs)
  counting_step zero own c depth level n i j h l a b = absurd (omega arith)
  counting_step (suc f) own zero depth level n i j h l a b =
      by_cases (eqb i j)
      (λ q. rw (q, slice_none bs i j (eqb-true i j q)))
      (λ q. let r = eqb-false i j q in rw (q, slice-cons i j bs 0 (omega arith) l))
  counting_step (suc f) own (suc c) depth level n i j h l a b =
      rw (ne_eqb (suc c) 0 (omega arith))
      (by_cases (leb j i)
      (λ q. let r = leb-true j i q in rw (q, slice_none bs i j (omega arith)))
      (λ q.
      let r = leb-false j i q in
      rw (q, miscounted_some bs c i j r l)
      (cut_slice bs 2 level i j r l _ _ λ to x y.
      let m = length-slice (i + 3) to bs (omega arith) in
      let e : i + 3 + length (slice (i + 3) to bs) ≡ to = omega arith in
      same_fault (not (eqb (get_or bs i 0) 2)) (eqb (kind_at Associated (get_or bs i 0)) 0) _ _ _ (node_test (get_or bs i 0))
      (λ p.
      same_then (O.component bs d f 1 depth level n i (i + 3) to)
      (of_kind d (parts d g) (kind_at Associated (get_or bs i 0)) depth level n i (i + 3) (slice (i + 3) to bs)) _ _
      (subst (λ (k : ℕ). O.component bs d f 1 depth level n i (i + 3) to ≡ of_kind d (parts d g) k depth level n i (i + 3) (slice (i + 3) to bs)) (sym (node_kind (get_or bs i 0) p))
      (component_same' bs d g same f 1 depth level n i (i + 3) to (omega arith) (omega arith) (omega arith) (omega arith)))
      (λ rows _.
      same_then (O.nodes bs d f (suc c - 1) depth level n own to j)
      (parts d g Associated own (suc c - 1) depth level n (i + 3 + length (slice (i + 3) to bs)) (slice to j bs)) _ _
      (rw e (same.counting f own (suc c - 1) depth level n to j (omega arith) l (omega arith) (omega arith)))
      (λ more _. refl))))))

all_same : (bs : List ℕ) (d g : ℕ) → Same bs d g
all_same bs d zero =
    record {
      plain = λ f s own c depth level n i j h l a. absurd (omega arith);
      counting = λ f own c depth level n i j h l a. absurd (omega arith);
    }
all_same bs d (suc g) = record { plain = plain_step bs d g (all_same bs d g); counting = counting_step bs d g (all_same bs d g) }

-- More turns than are needed change nothing.
module _ (bs : List ℕ) (d f g : ℕ) (i j : ℕ) (h : i ≤ j) (l : j ≤ length bs) where
  pub tail_turns : (level : ℕ) (t : Spoken) → j - i ≤ f → j - i ≤ g → O.tail bs f level t i j ≡ O.tail bs g level t i j
  tail_turns level t a b =
      tail_same bs (suc (j - i)) f level t i j h l (omega arith) a ∙ sym (tail_same bs (suc (j - i)) g level t i j h l (omega arith) b)

  pub parts_turns : (s : Spot) (depth level n : ℕ) → j - i ≤ f → j - i ≤ g → counted s ≡ false → (sealed s ≡ true → i ≡ j)
      → O.parts bs d f s depth level n i j ≡ O.parts bs d g s depth level n i j
  parts_turns s depth level n a b c e =
      (all_same bs d (suc (j - i))).plain f s 0 0 depth level n i j h l (omega arith) a c e
      ∙ sym ((all_same bs d (suc (j - i))).plain g s 0 0 depth level n i j h l (omega arith) b c e)

  pub nodes_turns : (own c depth level n : ℕ) → j - i < f → j - i < g → O.nodes bs d f c depth level n own i j ≡ O.nodes bs d g c depth level n own i j
  nodes_turns own c depth level n a b =
      (all_same bs d (suc (j - i))).counting f own c depth level n i j h l (omega arith) a
      ∙ sym ((all_same bs d (suc (j - i))).counting g own c depth level n i j h l (omega arith) b)

  pub component_turns : (k depth level n at : ℕ) → j - i < f → j - i < g → O.component bs d f k depth level n at i j ≡ O.component bs d g k depth level n at i j
  component_turns k depth level n at a b =
      let same = all_same bs d (suc (j - i)) in
      component_same' bs d (suc (j - i)) same f k depth level n at i j h l (omega arith) a
      ∙ sym (component_same' bs d (suc (j - i)) same g k depth level n at i j h l (omega arith) b)

pub tops_same : (bs : List ℕ) (d g f : ℕ) (seen : Bool) (i : ℕ) → i ≤ length bs → length bs - i < g → length bs - i ≤ f
    → O.tops bs d f seen i ≡ tops d g seen i (slice i (length bs) bs)
tops_same bs d zero f seen i h a b = absurd (omega arith)
tops_same bs d (suc g) zero seen i h a b = rw (slice_none bs i (length bs) (omega arith))
tops_same bs d (suc g) (suc f) seen i h a b =
    by_cases (leb (length bs) i)
    (λ q. let r = leb-true (length bs) i q in rw (q, slice_none bs i (length bs) (omega arith)))
    (λ q.
    let r = leb-false (length bs) i q in
    rw (q, slice_some bs i (length bs) r (omega arith))
    (cut_slice bs 2 0 i (length bs) r (omega arith) _ _ λ to x y.
    let m = length-slice (i + 3) to bs y in
    let e : i + 3 + length (slice (i + 3) to bs) ≡ to = omega arith in
    same_if (not (eqb (get_or bs i 0) 1)) (not (eqb (get_or bs i 0) 1)) _ _ _ _ refl
    (λ _. rw e (tops_same bs d g f seen to y (omega arith) (omega arith)))
    (λ _. same_fault seen seen _ _ _ refl
    (λ _.
    same_then (O.parts bs d (2 * length bs) Descriptions 0 1 0 (i + 3) to)
    (parts d (suc (length (slice (i + 3) to bs))) Descriptions i 0 0 1 0 (i + 3) (slice (i + 3) to bs)) _ _
    ((all_same bs d (suc (length (slice (i + 3) to bs)))).plain (2 * length bs) Descriptions i 0 0 1 0 (i + 3) to x y (omega arith) (omega arith) refl (λ z. absurd (false≢true z)))
    (λ rows _.
    same_then (O.tops bs d f true to) (tops d g true (i + 3 + length (slice (i + 3) to bs)) (slice to (length bs) bs)) _ _
    (rw e (tops_same bs d g f true to y (omega arith) (omega arith)))
    (λ more _. refl))))))

pub reading_same : (bs : List ℕ) → O.reading bs ≡ reading bs
reading_same [] = refl
reading_same (x ∷ xs) =
    same_fault (ltb 65535 (length (x ∷ xs))) (ltb 65535 (length (x ∷ xs))) _ _ _ refl
    (λ _.
    rw (ne_eqb (length (x ∷ xs)) 0 (omega arith))
    (tops_same (x ∷ xs) x (suc (length xs)) (suc (length xs)) false 1 (omega arith) (omega arith) (omega arith)
    ∙ ap (λ (r : List ℕ). tops x (suc (length xs)) false 1 r) (slice_all (x ∷ xs) 1)))
