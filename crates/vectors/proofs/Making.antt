-- The rows of a location that the tests make.
use Rattle.std.proofs.Common.{◌≡◌, ℕ, zero, suc, ◌<◌, Bool, true, false, not, nat_eq, ltb, List, [], ◌∷◌, length, replicate, Some, sym, refl, ap, ◌∙◌, arith, ltb-false, ltb-true}
use lib.ListN.{length-replicate}
use Rattle.std.specs.Bool.{then_some}
use Rattle.std.specs.List.{slice_get}
use Rattle.std.proofs.lemmas.Option.{slice_get_past}
use Rattle.location.specs.Answers.{any_row, head_text}
use Rattle.vectors.specs.declared.made.Line.{Line}
use Rattle.vectors.specs.Made.{told_lines}

pub any_told : (xs : List Line) (b : Bool) → b ≡ nat_eq (length xs) 0 → not b ≡ any_row (told_lines xs)
any_told [] b e = ap not e
any_told (l ∷ ls) b e = grind arith

filled : (n i x : ℕ) → i < n → slice_get (replicate n x) i ≡ Some x
filled zero i x h = absurd (omega arith)
filled (suc n) zero x h = refl
filled (suc n) (suc i) x h = filled n i x (omega arith)

-- a byte of a text that is one byte, so often
filled_at : (n i x : ℕ) (b : Bool) → ltb i n ≡ b → then_some b x ≡ slice_get (replicate n x) i
filled_at n i x true e = sym (filled n i x (ltb-true i n e))
filled_at n i x false e = sym (slice_get_past (replicate n x) i (rw length-replicate (ltb-false i n e)))

pub byte_told : (xs : List Line) (l : Line) (i n : ℕ) → Some l ≡ slice_get xs 0 → n ≡ l.row.length
    → then_some (ltb i n) l.fill ≡ slice_get (head_text (told_lines xs)) i
byte_told [] l i n e h = let z : ◌≡◌ {A = ℕ} 0 1 = cc in absurd (omega arith)
byte_told (x ∷ xs) l i n e h =
    let first : l ≡ x = cc in
    ap (λ (k : ℕ). then_some (ltb i k) l.fill) h ∙ ap (λ (y : Line). then_some (ltb i y.row.length) y.fill) first
    ∙ filled_at x.row.length i x.fill (ltb i x.row.length) refl
