-- Fields read from a part of the bytes tell what they tell by offset.
-- Assumes nothing.
use Rattle.std.proofs.Common.{◌≡◌, ℕ, suc, ◌+◌, ◌-◌, ◌*◌, ◌≤◌, Bool, true, false, cond, not, ◌&&◌, ◌||◌, ltb, List, length, get_or, take, drop, ℤ, pos, negsuc, Some, None, Option, sym, refl, ap, ◌∙◌, add-zero, arith, length-drop, length-take-le, take_all, w32, to_z, ltb-false, ltb-true, le-ltb, lt-ltb, eq-eqb}
use mir.Val.{sel}
use Rattle.std.specs.Bool.{then_some}
use Rattle.std.proofs.lemmas.List.{drop-take}
use Rattle.std.proofs.lemmas.Bool.Decides.{nat_tests as ways}
use Rattle.grammar.specs.declared.table.Fields.{Fields}
use Rattle.grammar.specs.declared.table.Fields.TheVariants.{Nothing, Code, Text, Globe, Floor, Count, Radius, Height}
use Rattle.grammar.specs.Format.{fixed_bytes, ranges}
use Rattle.grammar.specs.Reading.{if, number, signed, beyond, first_number, second_number, off_globe}
use Rattle.grammar.specs.Offsets as O
use Rattle.grammar.proofs.Cut.{by_cases}
use Rattle.grammar.proofs.Slices.{slice_drop, value_slice}
use Rattle.fields.specs.Lay.{Lay}
use Rattle.fields.specs.Shape.{Shape, extent, fitting, unlaid, lay_of, globe_shape}
use Rattle.fields.specs.Told.{read_at, tells, told_at, numbers_at}
use Rattle.fields.specs.Laws.{Faithful}

-- the n bytes at `at`
module _ (bs : List ℕ) (at n : ℕ) (h : at + n ≤ length bs) where
  number_in : (d k : ℕ) → d + k ≤ n → number k (drop d (take n (drop at bs))) ≡ O.value bs (at + d) k
  number_in d k l =
      ap (λ (p : List ℕ). number k (drop d p)) (sym (drop-take at n bs))
      ∙ ap (number k) (slice_drop bs d at (at + n))
      ∙ sym (value_slice bs k (at + d) (at + n) (omega arith) h)

  signed_in : (d k : ℕ) → d + k ≤ n → signed k (drop d (take n (drop at bs))) ≡ O.signed bs (at + d) k
  signed_in d k l = rw (number_in d k l)

  number_first : (k : ℕ) → k ≤ n → number k (take n (drop at bs)) ≡ O.value bs at k
  number_first k l = number_in 0 k (omega arith) ∙ ap (λ (i : ℕ). O.value bs i k) (add-zero at)

  signed_first : (k : ℕ) → k ≤ n → signed k (take n (drop at bs)) ≡ O.signed bs at k
  signed_first k l = rw (number_first k l)

-- the fields whose bytes stand at `at`
module _ (bs : List ℕ) (at : ℕ) where
  first_in : (f : Fields) → at + fixed_bytes f ≤ length bs → first_number f (take (fixed_bytes f) (drop at bs)) ≡ O.first_number bs f at
  first_in Nothing h = refl
  first_in Code h = ap pos (number_first bs at 1 h 1 (omega arith))
  first_in Text h = refl
  first_in Globe h = signed_first bs at 8 h 4 (omega arith)
  first_in Floor h = signed_first bs at 1 h 1 (omega arith)
  first_in Count h = refl
  first_in Radius h = ap pos (number_first bs at 2 h 2 (omega arith))
  first_in Height h = ap pos (number_first bs at 3 h 1 (omega arith))

  second_in : (f : Fields) → at + fixed_bytes f ≤ length bs → second_number f (take (fixed_bytes f) (drop at bs)) ≡ O.second_number bs f at
  second_in Nothing h = refl
  second_in Code h = refl
  second_in Text h = refl
  second_in Globe h = signed_in bs at 8 h 4 4 (omega arith)
  second_in Floor h = refl
  second_in Count h = refl
  second_in Radius h = refl
  second_in Height h = signed_in bs at 3 h 1 2 (omega arith)

  off_in : (f : Fields) → at + fixed_bytes f ≤ length bs → off_globe f (take (fixed_bytes f) (drop at bs)) ≡ O.off_globe bs f at
  off_in Nothing h = refl
  off_in Code h = refl
  off_in Text h = refl
  off_in Globe h = rw (signed_first bs at 8 h 4 (omega arith), signed_in bs at 8 h 4 4 (omega arith))
  off_in Floor h = refl
  off_in Count h = refl
  off_in Radius h = refl
  off_in Height h = refl

module _ {V : Type 0} (s : Shape V) (honest : Faithful s) where
  -- a value read at an offset tells the numbers there
  told_same : (bs : List ℕ) (at : ℕ) → told_at s bs at ≡ numbers_at s.fields bs at
  told_same bs at =
      by_cases (ltb (length bs) (at + extent s))
      (λ q. rw q)
      (λ q.
      let h = ltb-false (length bs) (at + extent s) q in
      let p : List ℕ = take (extent s) (drop at bs) in
      let d = length-drop at bs in
      let l : length p ≡ extent s = length-take-le (extent s) (drop at bs) (omega arith) in
      rw (q, eq-eqb (length p) (extent s) l, off_in bs at s.fields h)
      (by_cases (O.off_globe bs s.fields at)
      (λ o. rw o)
      (λ o. rw (o, ← honest.first p, ← honest.second p, first_in bs at s.fields h, second_in bs at s.fields h))))

  -- so do those of what was read, if it told any
  pub told_numbers : (l : Lay V) → l ≡ lay_of s → (bs : List ℕ) (at : ℕ) {o : Option V} {r : Option (ℤ × ℤ)} → o ≡ read_at l.reads l.size bs at → r ≡ tells s o → r ≡ numbers_at s.fields bs at
  told_numbers l t bs at e q = q ∙ ap (tells s) (e ∙ ap (λ (k : Lay V). read_at k.reads k.size bs at) t) ∙ told_same bs at

-- a number's bits read as signed, where half of the numbers of its width are negative
pub halved : (half m : ℕ) → sel (ltb m half) (pos m) (negsuc (half * 2 - suc m)) ≡ if (ltb (m * 2) (half * 2)) (λ _. pos m) (λ _. negsuc (half * 2 - suc m))
halved half m =
    by_cases (ltb m half)
    (λ q. let h = ltb-true m half q in rw (q, lt-ltb (m * 2) (half * 2) (omega arith)))
    (λ q. let h = ltb-false m half q in rw (q, le-ltb (m * 2) (half * 2) (omega arith)))

-- on the globe is not beyond it
ranges_beyond : (m : ℕ) (z : ℤ) → ranges m m z ≡ not (beyond m z)
ranges_beyond m (pos x) = grind (arith, ways)
ranges_beyond m (negsuc x) = grind (arith, ways)

fits_globe : (a b : Bool) → (not a && not b && true) ≡ not (a || b)
fits_globe true b = refl
fits_globe false true = refl
fits_globe false false = refl

then_is : {A : Type 0} (b : Bool) (x : A) → then_some b x ≡ cond b (Some x) None
then_is true x = refl
then_is false x = refl

-- the eight bytes of a place
module _ (bs : List ℕ) (l : length bs ≡ 8) where
  -- one of its two numbers, from its four bytes as the code joins them
  four_at : (i : ℕ) (z : ℤ)
      → z ≡ to_z w32 (get_or bs i 0 * 16777216 + get_or bs (suc i) 0 * 65536 + get_or bs (suc (suc i)) 0 * 256 + get_or bs (suc (suc (suc i))) 0)
      → O.signed bs i 4 ≡ z
  four_at i z e = sym (halved 2147483648 (O.value bs i 4)) ∙ ap (to_z w32) (omega arith) ∙ sym e

  -- the numbers that the code makes of the bytes, if they are on the globe, are the place
  pub globe_read : (x y : ℤ)
      → x ≡ to_z w32 (get_or bs 0 0 * 16777216 + get_or bs 1 0 * 65536 + get_or bs 2 0 * 256 + get_or bs 3 0)
      → y ≡ to_z w32 (get_or bs 4 0 * 16777216 + get_or bs 5 0 * 65536 + get_or bs 6 0 * 256 + get_or bs 7 0)
      → then_some (fitting globe_shape (x, y)) (x, y) ≡ unlaid globe_shape bs
  globe_read x y ex ey =
      let h : 0 + fixed_bytes Globe ≤ length bs = omega arith in
      let w = take_all 8 bs (omega arith) in
      let e₁ : signed 4 bs ≡ x = ap (first_number Globe) (sym w) ∙ first_in bs 0 Globe h ∙ four_at 0 x ex in
      let e₂ : signed 4 (drop 4 bs) ≡ y = ap (second_number Globe) (sym w) ∙ second_in bs 0 Globe h ∙ four_at 4 y ey in
      then_is (fitting globe_shape (x, y)) (x, y)
      ∙ rw (eq-eqb (length bs) 8 l, e₁, e₂, ranges_beyond 18000000 x, ranges_beyond 9000000 y, fits_globe (beyond 18000000 x) (beyond 9000000 y))
