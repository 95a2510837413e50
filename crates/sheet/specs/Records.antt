-- Rows as records of bytes, one behind the other.
use Rattle.std.specs.Prelude.{ℕ, zero, suc, ◌+◌, Bool, true, false, cond, List, [], ◌∷◌, ◌++◌, length, take, drop, Some, None, Option, nat_le, nat_lt, slice_index}
use Rattle.grammar.specs.Format.{twos}
use Rattle.grammar.specs.Grammar.{Rows, Row as Told}
use Rattle.grammar.specs.Reading.{signed}
use Rattle.grammar.specs.Sheet.{cost, most_rows}
use Rattle.location.specs.declared.Row.{Row}
use Rattle.location.specs.Answers.{seen}

-- the bytes that rows take, if a sheet can hold so many
abbrev pub measured : Rows → Option ℕ
measured rs = cond (nat_lt most_rows (length rs)) None (Some (cost rs))

-- the row that code sees, with its text
abbrev pub with_text : Row → List ℕ → Told
with_text r text = record { depth = r.depth; kind = r.kind; a = r.a; b = r.b; language = r.language; text = text }

-- the twelve bytes before a text
abbrev pub head_of : Row → List ℕ
head_of r = r.depth ∷ r.kind ∷ (twos 4 r.a ++ (twos 4 r.b ++ (r.language ∷ r.length ∷ [])))

-- a row's record
abbrev pub encoded : Told → List ℕ
encoded r = head_of (seen r) ++ r.text

-- how many bytes the record takes that the bytes begin with
abbrev pub record_size : List ℕ → ℕ
record_size bs = 12 + slice_index bs 11

-- all of that record is there
abbrev pub is_whole : List ℕ → Bool
is_whole bs = nat_le (record_size bs) (length bs)

-- the row of that record
abbrev pub first_row : List ℕ → Told
first_row bs =
    record {
      depth = slice_index bs 0;
      kind = slice_index bs 1;
      a = signed 4 (drop 2 bs);
      b = signed 4 (drop 6 bs);
      language = slice_index bs 10;
      text = take (slice_index bs 11) (drop 12 bs);
    }

-- the rows of the first n records, up to the first that is not whole
unfoldable pub rows_in : ℕ → List ℕ → Rows
rows_in zero bs = []
rows_in (suc n) bs = elim (is_whole bs) [ true ↦ first_row bs ∷ rows_in n (drop (record_size bs) bs) | false ↦ [] ]
