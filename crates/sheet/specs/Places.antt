-- The rows from a place among records on.
use Rattle.std.specs.Prelude.{◌≡◌, ℕ, ◌<◌, ◌≤◌, List, length, take, drop}
use Rattle.grammar.specs.Grammar.{Rows}
use Rattle.sheet.specs.declared.place.Place.{Place}
use Rattle.sheet.specs.declared.store.Store.{Store}
use Rattle.sheet.specs.Records.{record_size, first_row, rows_in}

-- every place has rows: those of the whole records from its offset on, as many as it says at most
abbrev pub rows_at : List ℕ → Place → Rows
rows_at bs p = rows_in p.left (drop p.at bs)

-- the records of a store
abbrev pub records_of : Store → List ℕ
records_of s = take s.used s.buffer.now

-- the whole record at a place: its bytes before its text, and its text
abbrev pub IsRecord : List ℕ → Place → (head text : List ℕ) → Type 0
IsRecord bs p head text =
    (0 < p.left)
    × (record_size (drop p.at bs) ≤ length (drop p.at bs))
    × (head ≡ take 12 (drop p.at bs))
    × (text ≡ (first_row (drop p.at bs)).text)
