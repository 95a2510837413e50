-- The bytes of fixed fields.
-- Assumes nothing.
use Rattle.std.proofs.Common.{◌≡◌, ℕ, false, length, ℤ, sym, refl, ◌∙◌, arith}
use Rattle.grammar.specs.declared.table.Fields.{Fields}
use Rattle.grammar.specs.declared.table.Fields.TheVariants.{Nothing, Code, Text, Globe, Floor, Count, Radius, Height}
use Rattle.grammar.specs.Format.{fixed, fixed_bytes}
use Rattle.grammar.specs.Reading.{is_text}
use Rattle.grammar.specs.Sending.{fields_size}
use Rattle.grammar.proofs.Sizes.{fields_size_is}

-- the bytes of the fields are as many as the table says
pub fields_long : (f : Fields) (a b : ℤ) (n : ℕ) → is_text f ≡ false → fixed_bytes f ≡ length (fixed f a b n)
fields_long f a b n h = go f h ∙ sym (fields_size_is f a b n)
  where
    go : (f : Fields) → is_text f ≡ false → fixed_bytes f ≡ fields_size f
    go Nothing h = refl
    go Code h = refl
    go Text h = let z : ◌≡◌ {A = ℕ} 0 1 = cc in absurd (omega arith)
    go Globe h = refl
    go Floor h = refl
    go Count h = refl
    go Radius h = refl
    go Height h = refl
