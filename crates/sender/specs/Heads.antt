-- What is written of the first of some rows, and how long it is by what code sees of the row.
use Rattle.std.specs.Prelude.{ℕ, suc, ◌+◌, Bool, true, false, cond, List, [], ◌∷◌, Some, None, Option, ◌==◌, nat_lt}
use Rattle.std.specs.List.{sum_by}
use Rattle.grammar.specs.Format.{layout}
use Rattle.grammar.specs.Grammar.{Rows}
use Rattle.grammar.specs.Reading.{if, is_text}
use Rattle.grammar.specs.Flat.{front, row_bytes}
use Rattle.location.specs.declared.Row.{Row}
use Rattle.location.specs.Answers.{seen}
use Rattle.sender.specs.declared.look.Inside.{Inside}
use Rattle.sender.specs.Writable.{RowWritable}

-- the front of the first row's component, and the whole of it up to its parts
abbrev pub front_at : ℕ → Rows → ℕ → List ℕ
front_at d [] n = []
front_at d (r ∷ rs) n = front d r n

abbrev pub head_bytes : ℕ → Rows → List ℕ
head_bytes d [] = []
head_bytes d (r ∷ rs) = row_bytes d r rs

abbrev pub HeadWritable : ℕ → Rows → Type 0
HeadWritable d [] = Unit {0}
HeadWritable d (r ∷ rs) = RowWritable d r rs

-- the bytes of a language part
abbrev pub language_long : ℕ → ℕ → ℕ
language_long d l = if (l == d) (λ _. 0) (λ _. 3)

-- the bytes of a row's front, and of its component without its parts
abbrev pub front_long : ℕ → Row → ℕ
front_long d x = if (is_text (layout x.kind).fields) (λ _. suc x.length + language_long d x.language) (λ _. (layout x.kind).fixed)

abbrev pub own_long : ℕ → Row → ℕ
own_long d x = suc (layout x.kind).width + front_long d x

-- how many parts a kind of fields says to hold, of n that it does hold
abbrev pub counted_in : Bool → ℕ → ℕ
counted_in true n = n
counted_in false n = 0

-- a number, if a byte can say it
abbrev pub as_byte : ℕ → Option ℕ
as_byte n = cond (nat_lt n 256) (Some n) None

-- the rows deeper than m, before the first that is not, by what code sees of them
abbrev pub inside_rows : ℕ → Rows → List Row
inside_rows m [] = []
inside_rows m (x ∷ xs) = cond (nat_lt m x.depth) (seen x ∷ inside_rows m xs) []

-- their bytes
abbrev pub inside_long : ℕ → ℕ → Rows → ℕ
inside_long d m rows = sum_by (own_long d) (inside_rows m rows)

-- how many of them stand right in the row
abbrev pub right_in : ℕ → List Row → ℕ
right_in m [] = 0
right_in m (r ∷ rs) = cond (r.depth == m + 1) 1 0 + right_in m rs

-- those that are to come, where `rows` are the rows from a mark on
abbrev pub inside_left : {L M : Type 0} → (rows : L → M → Rows) → Inside L M → List Row
inside_left rows s = inside_rows s.depth (rows s.l.now s.at)
