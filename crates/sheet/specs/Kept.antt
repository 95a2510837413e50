-- What a draft holds, and what its calls leave.
use Rattle.std.specs.Prelude.{◌≡◌, ℕ, List, [], length, Ok, Err}
use Rattle.grammar.specs.Grammar.{Rows}
use Rattle.grammar.specs.Reading.{reading}
use Rattle.grammar.specs.Sheet.{Verdict}
use Rattle.sheet.specs.declared.kept.Draft.{Draft}
use Rattle.sheet.specs.Held.{held}
use Rattle.sheet.specs.Open.{kinds_open}

abbrev pub rows_held : Draft → Rows
rows_held d = held d.store

-- the kinds of the open rows, the innermost first
abbrev pub rows_open : Draft → List ℕ
rows_open d = kinds_open d.opened

abbrev pub size_of : Draft → ℕ
size_of d = length d.store.buffer.now

-- a refusal leaves every field, and every byte of the buffer, as it was
abbrev pub Unchanged : Draft → Draft → Type 0
Unchanged was is = (is.store ≡ was.store) × (is.opened ≡ was.opened)

-- after an accepted call these rows are held and open
abbrev pub Holds : Draft → Rows → List ℕ → Draft → Verdict → Type 0
Holds was rows ks is (Ok u) = (rows_held is ≡ rows) × (rows_open is ≡ ks)
Holds was rows ks is (Err f) = Unchanged was is

-- after an accepted load the rows that the bytes tell are held, and nothing is open
abbrev pub Loads : Draft → List ℕ → Draft → Verdict → Type 0
Loads was bytes is (Ok u) = (reading bytes ≡ Ok (rows_held is)) × (rows_open is ≡ [])
Loads was bytes is (Err f) = Unchanged was is
