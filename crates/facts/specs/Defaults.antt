-- Which default languages are open to choice, by the long names.
use Rattle.std.specs.Prelude.{◌≡◌, ℕ, ◌≤◌, List, [], ◌∷◌, length}
use Rattle.grammar.specs.Grammar.{Row}
use Rattle.grammar.specs.Sending.{Stands}
use Rattle.grammar.specs.Choice.{length_under}

-- every reference name of 252 bytes and more is in the language d
abbrev pub LongNamesIn : ℕ → List Row → Type 0
LongNamesIn d [] = Unit {0}
LongNamesIn d (r ∷ rs) = (r.kind ≡ 27 → 252 ≤ length r.text → r.language ≡ d) × LongNamesIn d rs

-- of rows that some default serves, any default serves exactly when the long names are in it and the whole is within its limit
abbrev pub OpenByLongNames : Type 0
OpenByLongNames =
    (rows : List Row) (e d : ℕ) → Stands rows e
    → (Stands rows d → LongNamesIn d rows × (length_under d rows ≤ 65535))
    × (LongNamesIn d rows → length_under d rows ≤ 65535 → Stands rows d)
