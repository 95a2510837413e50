-- The choice of the default language, by what one look over the rows finds.
use Rattle.std.specs.Prelude.{◌≡◌, ℕ, suc, ◌+◌, ◌-◌, ◌*◌, ◌^◌, ◌<◌, Bool, true, false, not, ◌&&◌, ◌||◌, List, [], ◌∷◌, length, ◌==◌, nat_le}
use Rattle.grammar.specs.Format.{layout, width, fixed_bytes}
use Rattle.grammar.specs.Grammar.{Row, Byte, Bytes}
use Rattle.grammar.specs.Reading.{if, is_text}
use Rattle.grammar.specs.Admits.{admits, top_level}
use Rattle.grammar.specs.Sending.{texts_in, frame, stands}

-- a row of text that fits its component's length in no way
abbrev pub over : Row → Bool
over r = is_text (layout r.kind).fields && nat_le (256 ^ width (layout r.kind).holder) (length r.text + 1)

-- a row of text that fits without a language part only
abbrev pub tight : Row → Bool
tight r = is_text (layout r.kind).fields && nat_le (256 ^ width (layout r.kind).holder) (length r.text + 4)

abbrev pub any_over : List Row → Bool
any_over [] = false
any_over (r ∷ rs) = over r || any_over rs

-- every text that fits without a language part only is in the language d
abbrev pub suits : ℕ → List Row → Bool
suits d [] = true
suits d (r ∷ rs) = (not (tight r) || r.language == d) && suits d rs

-- the bytes of all components of the rows, without any language part
abbrev pub bare_size : Row → ℕ
bare_size r = suc (width (layout r.kind).holder) + if (is_text (layout r.kind).fields) (λ _. length r.text + 1) (λ _. fixed_bytes (layout r.kind).fields)

abbrev pub base_size : List Row → ℕ
base_size [] = 0
base_size (r ∷ rs) = bare_size r + base_size rs

-- how many rows of text there are
abbrev pub texts : List Row → ℕ
texts [] = 0
texts (r ∷ rs) = if (is_text (layout r.kind).fields) (λ _. suc (texts rs)) (λ _. texts rs)

-- rows as a location gives them: a text is bytes, at most 255, and a language is a byte
abbrev pub ByteRows : List Row → Type 0
ByteRows [] = Unit {0}
ByteRows (r ∷ rs) = (Byte r.language × Bytes r.text × (length r.text < 256)) × ByteRows rs

-- the length under the default d
abbrev pub length_under : ℕ → List Row → ℕ
length_under d rows = frame rows + base_size rows + 3 * (texts rows - texts_in d rows)

-- a default stands exactly when the rows have a tree, each text fits, and the whole its limit
abbrev pub StandsBy : Type 0
StandsBy =
    (rows : List Row) (d : ℕ) → ByteRows rows
    → stands rows d ≡ ((admits top_level rows && not (any_over rows)) && (suits d rows && nat_le (length_under d rows) 65535))
