-- What the iterators over the rows of a location give.
use Rattle.std.specs.Prelude.{◌≡◌, [], ◌∷◌, Option, IfSome, option_map}
use Rattle.grammar.specs.Grammar.{Rows as Column}
use Rattle.location.specs.declared.Row.{Row}
use Rattle.location.specs.declared.steps.Step.{Step}
use Rattle.location.specs.declared.steps.Steps.{Steps}
use Rattle.location.specs.declared.steps.Rows.{Rows}
use Rattle.location.specs.Answers.{head_row}

-- the rows after the first
abbrev pub rest_of : Column → Column
rest_of [] = []
rest_of (x ∷ xs) = xs

-- the rows that are to come, where `rows` are those from a mark on
abbrev pub steps_left : {L M : Type 0} → (rows : L → M → Column) → Steps L M → Column
steps_left rows s = rows s.below.now s.at

abbrev pub rows_left : {L M : Type 0} → (rows : L → M → Column) → Rows L M → Column
rows_left rows s = steps_left rows s.steps

-- the step of the first row of xs: its mark has all of them, and its rest those after it
abbrev pub StepAt : {M : Type 0} → (M → Column) → Column → Step M → Type 0
StepAt f xs p = (f p.mark ≡ xs) × (f p.rest ≡ rest_of xs)

-- a call gave the step of the first row that was to come, if there was one, and goes on with the rest of the same location
abbrev pub TakesStep : {L M : Type 0} → (rows : L → M → Column) → Steps L M → Option (Step M) → Steps L M → Type 0
TakesStep rows s r t =
    (option_map (λ p. p.row) r ≡ head_row (steps_left rows s))
    × IfSome r (StepAt (rows s.below.now) (steps_left rows s))
    × (steps_left rows t ≡ rest_of (steps_left rows s))
    × (t.below.now ≡ s.below.now)

-- a call gave the first row that was to come, if there was one, and goes on with the rest
abbrev pub TakesRow : {L M : Type 0} → (rows : L → M → Column) → Rows L M → Option Row → Rows L M → Type 0
TakesRow rows s r t = (r ≡ head_row (rows_left rows s)) × (rows_left rows t ≡ rest_of (rows_left rows s))
