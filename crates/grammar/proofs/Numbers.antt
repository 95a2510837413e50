-- Numbers written in bytes read back, and bytes read as a number are written back.
-- Assumes nothing.
use Rattle.std.proofs.Common.{◌≡◌, ℕ, zero, suc, ◌+◌, ◌-◌, ◌*◌, ◌/◌, ◌%◌, ◌^◌, ◌<◌, ◌≤◌, Bool, true, false, ltb, List, [], ◌∷◌, ◌++◌, length, take, drop, ℤ, pos, negsuc, sym, refl, ap, ◌∙◌, ap₂, mod-eq_of_lt, mul_assoc, mul_comm, pow-suc, arith, length-take-le, take_at, ltb-false, ltb-true, le-ltb, lt-ltb}
use native.Mathlib.Nat.{mod-one, mul-add-div_right, mul-add-mod_self_right}
use lib.Arith.{mod-mul, digits_div, digits_lt}
use Rattle.grammar.specs.Format.{big, twos, Between}
use Rattle.grammar.specs.Grammar.{Bytes}
use Rattle.grammar.specs.Reading.{value, number, signed}

pub pow_positive : (n : ℕ) → 0 < 256 ^ n
pow_positive zero = omega arith
pow_positive (suc n) = let h = pow_positive n in rw pow-suc (omega arith)

pub length_big : (n x : ℕ) → length (big n x) ≡ n
length_big zero x = refl
length_big (suc n) x = ap suc (length_big n x)

value_mod : (n x : ℕ) → value (big n x) ≡ x % 256 ^ n
value_mod zero x = sym (mod-one x)
value_mod (suc n) x =
    rw (length_big n x, value_mod n x, pow-suc, mul_comm (256 ^ n) 256) (sym (mod-mul x (omega arith) (pow_positive n)))

pub value_big : (n x : ℕ) → x < 256 ^ n → value (big n x) ≡ x
value_big n x h = value_mod n x ∙ mod-eq_of_lt h

pub value_lt : (xs : List ℕ) → Bytes xs → value xs < 256 ^ length xs
value_lt [] h = omega arith
value_lt (x ∷ xs) h = rw (pow-suc, mul_comm (256 ^ length xs) 256) (digits_lt h.0 (value_lt xs h.1))

big_above : (n k x : ℕ) → big n (k * 256 ^ n + x) ≡ big n x
big_above zero k x = refl
big_above (suc n) k x =
    let e : k * 256 ^ suc n ≡ k * 256 * 256 ^ n = rw pow-suc (ap (λ (y : ℕ). k * y) (mul_comm (256 ^ n) 256) ∙ sym (mul_assoc k 256 (256 ^ n))) in
    rw e
    (ap₂ (λ (y : ℕ) (ys : List ℕ). y ∷ ys)
    (ap (λ (y : ℕ). y % 256) (mul-add-div_right (pow_positive n) (k * 256) x) ∙ mul-add-mod_self_right k 256 (x / 256 ^ n))
    (big_above n (k * 256) x))

pub big_value : (xs : List ℕ) → Bytes xs → big (length xs) (value xs) ≡ xs
big_value [] h = refl
big_value (x ∷ xs) h =
    ap₂ (λ (y : ℕ) (ys : List ℕ). y ∷ ys)
    (ap (λ (y : ℕ). y % 256) (digits_div x (value_lt xs h.1)) ∙ mod-eq_of_lt h.0)
    (big_above (length xs) x (value xs) ∙ big_value xs h.1)

pub number_big : (n x : ℕ) (rest : List ℕ) → x < 256 ^ n → number n (big n x ++ rest) ≡ x
number_big n x rest h = ap value (take_at (big n x) rest n (length_big n x)) ∙ value_big n x h

pub bytes_take : (n : ℕ) (xs : List ℕ) → Bytes xs → Bytes (take n xs)
bytes_take zero xs h = tt
bytes_take (suc n) [] h = tt
bytes_take (suc n) (x ∷ xs) h = (h.0, bytes_take n xs h.1)

pub bytes_drop : (n : ℕ) (xs : List ℕ) → Bytes xs → Bytes (drop n xs)
bytes_drop zero xs h = h
bytes_drop (suc n) [] h = tt
bytes_drop (suc n) (x ∷ xs) h = bytes_drop n xs h.1

-- the first n of enough bytes
module _ (n : ℕ) (xs : List ℕ) (b : Bytes xs) (h : n ≤ length xs) where
  pub number_lt : number n xs < 256 ^ n
  number_lt = rw (length-take-le n xs h) at (value_lt (take n xs) (bytes_take n xs b))

  pub big_number : big n (number n xs) ≡ take n xs
  big_number = rw (length-take-le n xs h) at (big_value (take n xs) (bytes_take n xs b))

pub twos_length : (n : ℕ) (z : ℤ) → length (twos n z) ≡ n
twos_length n (pos x) = length_big n x
twos_length n (negsuc x) = length_big n (256 ^ n - suc x)

-- signed numbers, where half of the numbers of n bytes are negative
module _ (n half : ℕ) (e : 256 ^ n ≡ half * 2) where
  pub length_twos : (z : ℤ) → length (twos n z) ≡ n
  length_twos z = twos_length n z

  pub signed_twos : (z : ℤ) (rest : List ℕ) → Between half (half - 1) z → 0 < half → signed n (twos n z ++ rest) ≡ z
  signed_twos (pos x) rest h k =
      rw (number_big n x rest (omega arith), lt-ltb (x * 2) (256 ^ n) (omega arith))
  signed_twos (negsuc x) rest h k =
      rw (number_big n (256 ^ n - suc x) rest (omega arith), le-ltb ((256 ^ n - suc x) * 2) (256 ^ n) (omega arith))
      (ap negsuc (omega arith))

  pub twos_signed : (xs : List ℕ) → Bytes xs → n ≤ length xs → twos n (signed n xs) ≡ take n xs
  twos_signed xs b h = go (ltb (number n xs * 2) (256 ^ n)) refl
    where
      go : (t : Bool) → ltb (number n xs * 2) (256 ^ n) ≡ t → twos n (signed n xs) ≡ take n xs
      go true q = rw q (big_number n xs b h)
      go false q =
          let l = number_lt n xs b h in
          let k : 256 ^ n - suc (256 ^ n - suc (number n xs)) ≡ number n xs = omega arith in
          rw (q, k) (big_number n xs b h)

  pub signed_between : (xs : List ℕ) → Bytes xs → n ≤ length xs → Between half (half - 1) (signed n xs)
  signed_between xs b h = go (ltb (number n xs * 2) (256 ^ n)) refl
    where
      go : (t : Bool) → ltb (number n xs * 2) (256 ^ n) ≡ t → Between half (half - 1) (signed n xs)
      go true q = let l = ltb-true (number n xs * 2) (256 ^ n) q in rw q (omega arith)
      go false q =
          let l = ltb-false (number n xs * 2) (256 ^ n) q in
          let k = number_lt n xs b h in
          rw q (omega arith)
