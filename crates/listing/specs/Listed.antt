-- The text that says what bytes are: a container's rows, a line each, or the refusal.
use Rattle.std.specs.Prelude.{ℕ, ◌+◌, ◌-◌, ◌/◌, ◌%◌, ◌^◌, min, cond, List, [], ◌∷◌, ◌++◌, length, ℤ, Ok, Err, codes, decimal, nat_lt}
use Rattle.std.specs.Fmt.{signed_decimal}
use Rattle.grammar.specs.declared.fault.ReadFault.{ReadFault}
use Rattle.grammar.specs.Faults.{number_of, place_of, level_of}
use Rattle.grammar.specs.Grammar.{Row, Rows}
use Rattle.grammar.specs.Reading.{Read, reading}

abbrev pub newline : List ℕ
newline = 10 ∷ []

-- the upper-case hexadecimal digit of a number below 16
abbrev pub hex_digit : ℕ → ℕ
hex_digit d = cond (nat_lt d 10) (48 + d) (55 + d)

abbrev pub hex : ℕ → List ℕ
hex b = hex_digit (b / 16) ∷ hex_digit (b % 16) ∷ []

abbrev pub hexes : List ℕ → List ℕ
hexes [] = []
hexes (b ∷ bs) = hex b ++ hexes bs

-- a text's bytes, or a dash where it has none
abbrev pub text_line : List ℕ → List ℕ
text_line [] = codes "-"
text_line (b ∷ bs) = hexes (b ∷ bs)

-- a row's numbers, each with a blank after it, and what follows them
abbrev pub numbers_line : ℕ → ℕ → ℤ → ℤ → ℕ → List ℕ → List ℕ
numbers_line depth kind a b language rest =
    decimal depth ++ (codes " " ++ (decimal kind ++ (codes " " ++ (signed_decimal a ++ (codes " " ++ (signed_decimal b ++ (codes " " ++ (decimal language ++ (codes " " ++ rest)))))))))

abbrev pub line : Row → List ℕ
line x = numbers_line x.depth x.kind x.a x.b x.language (text_line x.text ++ newline)

-- the line of the first row, where a row is there
abbrev pub first_line : Rows → List ℕ
first_line [] = []
first_line (x ∷ xs) = line x

abbrev pub lines : Rows → List ℕ
lines [] = []
lines (x ∷ xs) = line x ++ lines xs

-- how many rows, as far as 64 bits count
abbrev pub row_count : Rows → ℕ
row_count rows = min (length rows) (2 ^ 64 - 1)

abbrev pub listed : Rows → List ℕ
listed rows = (codes "ROWS " ++ (decimal (row_count rows) ++ newline)) ++ lines rows

-- the number of a refusal, its place and its level
abbrev pub no_line : ℕ → ℕ → ℕ → List ℕ
no_line number place level = codes "NO " ++ (decimal number ++ (codes " " ++ (decimal place ++ (codes " " ++ (decimal level ++ newline)))))

abbrev pub refused : ReadFault → List ℕ
refused f = no_line (number_of f) (place_of f) (level_of f)

-- what is said of the rows that were read, or why none were
abbrev pub answered_by : (Rows → List ℕ) → Read Rows → List ℕ
answered_by say (Ok rows) = say rows
answered_by say (Err f) = refused f

-- what bytes are
abbrev pub shown : List ℕ → List ℕ
shown bytes = answered_by listed (reading bytes)
