-- The rows that a store holds.
use Rattle.std.specs.Prelude.{◌≡◌, take, Ok, Err}
use Rattle.grammar.specs.Grammar.{Rows}
use Rattle.grammar.specs.Sheet.{Verdict}
use Rattle.sheet.specs.declared.store.Store.{Store}
use Rattle.sheet.specs.Records.{rows_in}

abbrev pub held : Store → Rows
held s = rows_in s.count (take s.used s.buffer.now)

-- rows that are taken in place of all others are what is held then; a refusal leaves the store and its buffer as they were
abbrev pub Replaced : Store → Rows → Store → Verdict → Type 0
Replaced was rows is (Ok u) = held is ≡ rows
Replaced was rows is (Err f) = is ≡ was
