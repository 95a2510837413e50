-- What the calls of a location answer at a mark, by the list of rows from there on.
use Rattle.std.specs.Prelude.{◌≡◌, ℕ, Bool, true, false, List, [], ◌∷◌, ◌++◌, length, drop, Some, None, Option}
use Rattle.grammar.specs.Grammar.{Rows, Row as Told}
use Rattle.location.specs.declared.Row.{Row}

abbrev pub any_row : Rows → Bool
any_row [] = false
any_row (x ∷ xs) = true

-- a row as code sees it: of the text only the length
abbrev pub seen : Told → Row
seen x = record { depth = x.depth; kind = x.kind; a = x.a; b = x.b; language = x.language; length = length x.text }

abbrev pub head_row : Rows → Option Row
head_row [] = None
head_row (x ∷ xs) = Some (seen x)

-- the text of the first row, and none where there is no row
abbrev pub head_text : Rows → List ℕ
head_text [] = []
head_text (x ∷ xs) = x.text

-- bytes in place of the first of others
abbrev pub laid_over : List ℕ → List ℕ → List ℕ
laid_over xs ys = xs ++ drop (length xs) ys

-- no mark where there is no row; else one whose list is the rest
abbrev pub Next : {M : Type 0} → (M → Rows) → Rows → Option M → Type 0
Next f [] None = Unit {0}
Next f [] (Some n) = ⊥
Next f (x ∷ xs) None = ⊥
Next f (x ∷ xs) (Some n) = f n ≡ xs
