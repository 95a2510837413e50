-- A number read byte by byte, the highest first.
-- Assumes nothing.
use Rattle.std.proofs.Common.{◌≡◌, ℕ, zero, suc, ◌+◌, ◌-◌, ◌*◌, ◌^◌, ◌<◌, List, get_or, sym, ap, ◌∙◌, add_assoc, mul_assoc, mul_comm, add-mul, pow-suc, arith}
use Rattle.grammar.specs.Offsets.{value}

-- one byte more of a number whose first bytes are n
pub digit : (bs : List ℕ) (at m n : ℕ) → n * 256 ^ suc m + value bs at (suc m) ≡ (n * 256 + get_or bs at 0) * 256 ^ m + value bs (at + 1) m
digit bs at m n =
    let e : at + 1 ≡ suc at = omega arith in
    let p : n * 256 ^ suc m ≡ n * 256 * 256 ^ m = rw pow-suc (ap (λ (y : ℕ). n * y) (mul_comm (256 ^ m) 256) ∙ sym (mul_assoc n 256 (256 ^ m))) in
    rw (e, p, add-mul (n * 256) (get_or bs at 0) (256 ^ m)) (sym (add_assoc (n * 256 * 256 ^ m) (get_or bs at 0 * 256 ^ m) (value bs (suc at) m)))

pub digit_more : (bs : List ℕ) (at w i n v : ℕ) → i < w → n * 256 ^ (w - i) + value bs (at + i) (w - i) ≡ v
    → (n * 256 + get_or bs (at + i) 0) * 256 ^ (w - (i + 1)) + value bs (at + (i + 1)) (w - (i + 1)) ≡ v
digit_more bs at w i n v h k =
    let e : w - i ≡ suc (w - (i + 1)) = omega arith in
    let a : at + (i + 1) ≡ at + i + 1 = omega arith in
    rw a (sym (digit bs (at + i) (w - (i + 1)) n) ∙ rw e at k)

-- a number of few bytes leaves room for another
pub few : (i n : ℕ) → i < 7 → n < 256 ^ i → n < 2 ^ 48
few zero n h k = omega arith
few (suc zero) n h k = omega arith
few (suc (suc zero)) n h k = omega arith
few (suc (suc (suc zero))) n h k = omega arith
few (suc (suc (suc (suc zero)))) n h k = omega arith
few (suc (suc (suc (suc (suc zero))))) n h k = omega arith
few (suc (suc (suc (suc (suc (suc zero)))))) n h k = omega arith
few (suc (suc (suc (suc (suc (suc (suc i))))))) n h k = absurd (omega arith)

pub wider : (i n b : ℕ) → n < 256 ^ i → b < 256 → n * 256 + b < 256 ^ (i + 1)
wider i n b h k =
    let e : i + 1 ≡ suc i = omega arith in
    rw (e, pow-suc, mul_comm (256 ^ i) 256) (omega arith)
