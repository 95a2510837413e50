-- A component cut off a slice, by offsets.
-- Assumes nothing.
use Rattle.std.proofs.Common.{◌≡◌, ℕ, zero, suc, ◌+◌, ◌<◌, ◌≤◌, Bool, true, false, ltb, List, ◌∷◌, length, get_or, take, drop, Ok, Err, sym, refl, ap, ◌∙◌, arith, length-take-le, take_all, drop-drop, ltb-false, ltb-true, le-ltb, lt-ltb}
use lib.Seq.{slice, slice_empty, slice-cons, length-slice}
use Rattle.grammar.specs.declared.fault.ReadFault.{ReadFault}
use Rattle.grammar.specs.Reading.{Read, if, then, cut, Piece, number}
use Rattle.grammar.specs.Offsets.{ends, value as value_at}
use Rattle.grammar.proofs.Cut.{by_cases}

-- two tests that agree
pub same_test : (a b c d : ℕ) → (a < b → c < d) → (b ≤ a → d ≤ c) → ltb a b ≡ ltb c d
same_test a b c d y n = by_cases (ltb a b) (λ q. q ∙ sym (lt-ltb c d (y (ltb-true a b q)))) (λ q. q ∙ sym (le-ltb c d (n (ltb-false a b q))))

pub same_fault : {X : Type 0} (b c : Bool) (e : ReadFault) (x y : Unit {0} → Read X) → b ≡ c → (b ≡ false → x tt ≡ y tt) → if b (λ _. Err e) x ≡ if c (λ _. Err e) y
same_fault true c e x y q h = rw (← q)
same_fault false c e x y q h = rw (← q) (h refl)

pub same_if : {X : Type 0} (b c : Bool) (u v x y : Unit {0} → Read X) → b ≡ c → (b ≡ true → u tt ≡ v tt) → (b ≡ false → x tt ≡ y tt) → if b u x ≡ if c v y
same_if true c u v x y q g h = rw (← q) (g refl)
same_if false c u v x y q g h = rw (← q) (h refl)

pub same_then : {X Y : Type 0} (r s : Read X) (f g : X → Read Y) → r ≡ s → ((x : X) → r ≡ Ok x → f x ≡ g x) → then r f ≡ then s g
same_then (Ok x) s f g q h = rw (← q) (h x refl)
same_then (Err e) s f g q h = rw (← q)

module _ (bs : List ℕ) where
  pub slice_drop : (m i j : ℕ) → drop m (slice i j bs) ≡ slice (i + m) j bs
  slice_drop m i j = drop-drop m i (take j bs)

  pub slice_take : (m i j : ℕ) → i + m ≤ j → j ≤ length bs → take m (slice i j bs) ≡ slice i (i + m) bs
  slice_take zero i j h l = sym (slice_empty i bs) ∙ ap (λ (k : ℕ). slice i k bs) (omega arith)
  slice_take (suc m) i j h l =
      let e : suc i + m ≡ i + suc m = omega arith in
      rw (slice-cons i j bs 0 (omega arith) l)
      (ap (λ (r : List ℕ). get_or bs i 0 ∷ r) (slice_take m (suc i) j (omega arith) l)
      ∙ ap (λ (k : ℕ). get_or bs i 0 ∷ slice (suc i) k bs) e
      ∙ sym (slice-cons i (i + suc m) bs 0 (omega arith) (omega arith)))

  pub slice_all : (i : ℕ) → slice i (length bs) bs ≡ drop i bs
  slice_all i = ap (drop i) (take_all (length bs) bs (omega arith))

  pub value_slice : (n i j : ℕ) → i + n ≤ j → j ≤ length bs → value_at bs i n ≡ number n (slice i j bs)
  value_slice zero i j h l = refl
  value_slice (suc n) i j h l =
      let m = length-slice (suc i) j bs l in
      let k : length (take n (slice (suc i) j bs)) ≡ n = length-take-le n (slice (suc i) j bs) (omega arith) in
      rw (slice-cons i j bs 0 (omega arith) l, k, value_slice n (suc i) j (omega arith) l)

  -- a component is cut off a slice where its end keeps to the slice's
  pub cut_slice : {Y : Type 0} (w level i j : ℕ) → i < j → j ≤ length bs → (f : ℕ → Read Y) (g : Piece → Read Y)
      → ((to : ℕ) → i + suc w ≤ to → to ≤ j → f to ≡ g (record { id = get_or bs i 0; body = slice (i + suc w) to bs; rest = slice to j bs }))
      → then (ends bs w level i j) f ≡ then (cut w level i (slice i j bs)) g
  cut_slice w level i j h l f g k =
      let n = length-slice (suc i) j bs l in
      let n' = length-slice (i + suc w) j bs l in
      let e : suc i + w ≡ i + suc w = omega arith in
      let e₁ : drop w (slice (suc i) j bs) ≡ slice (i + suc w) j bs = slice_drop w (suc i) j ∙ ap (λ (m : ℕ). slice m j bs) e in
      rw (slice-cons i j bs 0 h l)
      (by_cases (ltb j (i + suc w))
      (λ q.
      let r = ltb-true j (i + suc w) q in
      rw (q, lt-ltb (length (slice (suc i) j bs)) w (omega arith)))
      (λ q.
      let r = ltb-false j (i + suc w) q in
      let v : ℕ = value_at bs (suc i) w in
      let e₂ : number w (slice (suc i) j bs) ≡ v = sym (value_slice w (suc i) j (omega arith) l) in
      rw (q, le-ltb (length (slice (suc i) j bs)) w (omega arith), e₁, e₂)
      (by_cases (ltb j (i + suc w + v))
      (λ p.
      let t = ltb-true j (i + suc w + v) p in
      rw (p, lt-ltb (length (slice (i + suc w) j bs)) v (omega arith)))
      (λ p.
      let t = ltb-false j (i + suc w + v) p in
      rw (p, le-ltb (length (slice (i + suc w) j bs)) v (omega arith), slice_take v (i + suc w) j (omega arith) l, slice_drop v (i + suc w) j)
      (k (i + suc w + v) (omega arith) (omega arith))))))
