-- What a call adds: the kinds that it has, whether it fits its kind, and its row.
use Rattle.std.specs.Prelude.{ℕ, Bool, List, [], length, ℤ, pos, nat_le}
use Rattle.grammar.specs.Format.{layout, fits, longest}
use Rattle.grammar.specs.Grammar.{Row}
use Rattle.grammar.specs.Sheet.{is_opened, is_numbered, is_named}
use Rattle.sheet.specs.declared.part.Part.{Part}
use Rattle.sheet.specs.declared.part.Part.TheVariants.{Holder, Numbers, Name}

abbrev pub has_kind : Part → ℕ → Bool
has_kind (Holder a b) k = is_opened k
has_kind (Numbers a b) k = is_numbered k
has_kind (Name l t) k = is_named k

abbrev pub fits_kind : Part → ℕ → Bool
fits_kind (Holder a b) k = fits (layout k).fields a b
fits_kind (Numbers a b) k = fits (layout k).fields a b
fits_kind (Name l t) k = nat_le (length t.now) (longest k)

abbrev first_of : Part → ℤ
first_of (Holder a b) = a
first_of (Numbers a b) = a
first_of (Name l t) = pos 0

abbrev second_of : Part → ℤ
second_of (Holder a b) = b
second_of (Numbers a b) = b
second_of (Name l t) = pos 0

abbrev language_of : Part → ℕ
language_of (Holder a b) = 0
language_of (Numbers a b) = 0
language_of (Name l t) = l

abbrev pub text_of : Part → List ℕ
text_of (Holder a b) = []
text_of (Numbers a b) = []
text_of (Name l t) = t.now

-- what the call does not give is 0 or empty
abbrev pub row_of : (deep kind : ℕ) → Part → Row
row_of n k p = record { depth = n; kind = k; a = first_of p; b = second_of p; language = language_of p; text = text_of p }
