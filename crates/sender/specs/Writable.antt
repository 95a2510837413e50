-- Rows that can be written one by one: each row's numbers fit its fields, and what stands inside it fits its length and its count.
use Rattle.std.specs.Prelude.{◌≡◌, ℕ, ◌+◌, ◌^◌, ◌<◌, ◌≤◌, true, false, [], ◌∷◌, length}
use Rattle.grammar.specs.Format.{layout, fits}
use Rattle.grammar.specs.Grammar.{Row, Rows}
use Rattle.grammar.specs.Reading.{is_text, is_count}
use Rattle.grammar.specs.Flat.{front, inside_size, held_count}

-- a row can be written under the default d, where these rows follow
abbrev pub RowWritable : ℕ → Row → Rows → Type 0
RowWritable d r rs =
    (is_text (layout r.kind).fields ≡ false → fits (layout r.kind).fields r.a r.b ≡ true)
    × (length (front d r 0) + inside_size d r.depth rs < 256 ^ (layout r.kind).width)
    × (is_count (layout r.kind).fields ≡ true → held_count r.depth rs < 256)
    × (inside_size d r.depth rs ≤ 65535)

abbrev pub Writable : ℕ → Rows → Type 0
Writable d [] = Unit {0}
Writable d (r ∷ rs) = RowWritable d r rs × Writable d rs
