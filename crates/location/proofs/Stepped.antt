-- The rows that an iterator over a location has left are the items that come of it.
-- Assumes nothing.
use Rattle.std.proofs.Common.{◌≡◌, ◌∷◌, [], Some, None, length, map, refl}
use Rattle.std.proofs.lemmas.Iterator.{YieldsList}
use Rattle.std.proofs.lemmas.Iterator.Consumers.{YieldsList-from_shown}
use Rattle.grammar.specs.Grammar.{Rows as Column}
use Rattle.location.specs.declared.Row.{Row}
use Rattle.location.specs.declared.steps.Rows.{Rows}
use Rattle.location.specs.Answers.{seen, head_row}
use Rattle.location.specs.Steps.{rest_of, rows_left, TakesRow}

no_row : (xs : Column) → None ≡ head_row xs → length (map seen xs) ≡ 0
no_row [] e = refl
no_row (x ∷ xs) e = cc

one_row : (xs ys : Column) (r : Row) → Some r ≡ head_row xs → ys ≡ rest_of xs → map seen xs ≡ r ∷ map seen ys
one_row [] ys r e q = cc
one_row (x ∷ xs) ys r e q = cc

pub rows_yield : {L M : Type 0} (rows : L → M → Column) (s : Rows L M) → YieldsList (TakesRow rows) (λ r. r) s (map seen (rows_left rows s))
rows_yield rows s =
    YieldsList-from_shown (TakesRow rows) (λ r. r) (λ t. map seen (rows_left rows t)) (λ t u h. no_row (rows_left rows t) h.0)
    (λ t r u h. one_row (rows_left rows t) (rows_left rows u) r h.0 h.1) s
