-- A number in four bytes, the lowest first: fields that the grammar does not know, and none of its own take four bytes.
-- Assumes nothing.
use Rattle.std.specs.Prelude.{◌≡◌, ℕ, ◌+◌, ◌*◌, ◌/◌, ◌%◌, ◌<◌, true, List, [], ◌∷◌, length, cond, Some, None, nat_eq, slice_index, refl}
use Rattle.std.proofs.Common.{ap, arith}
use borrow.Author.Tests.{eqb-true}
use Rattle.std.proofs.lemmas.Option.{cond_some}
use Rattle.grammar.specs.Grammar.{Bytes}
use Rattle.fields.specs.Lay.{Lay, Lawful}

-- the number that four bytes make
abbrev joined : List ℕ → ℕ
joined bs = slice_index bs 0 + slice_index bs 1 * 256 + slice_index bs 2 * 65536 + slice_index bs 3 * 16777216

-- its bytes
abbrev parted : ℕ → List ℕ
parted n = n % 256 ∷ n / 256 % 256 ∷ n / 65536 % 256 ∷ n / 16777216 ∷ []

abbrev pub little : Lay ℕ
little = record { valid = λ n. true; size = 4; written = parted; reads = λ bs. cond (nat_eq (length bs) 4) (Some (joined bs)) None }

-- four bytes are those of their number
parted_joined : (bs : List ℕ) (n : ℕ) → Bytes bs → length bs ≡ 4 → joined bs ≡ n → parted n ≡ bs
parted_joined [] n b l e = absurd (omega (arith, l))
parted_joined (w ∷ []) n b l e = absurd (omega (arith, l))
parted_joined (w ∷ x ∷ []) n b l e = absurd (omega (arith, l))
parted_joined (w ∷ x ∷ y ∷ []) n b l e = absurd (omega (arith, l))
parted_joined (w ∷ x ∷ y ∷ z ∷ []) n b l e =
    let b₀ : w < 256 = b.0 in
    let b₁ : x < 256 = b.1.0 in
    let b₂ : y < 256 = b.1.1.0 in
    let e₀ : n % 256 ≡ w = omega (arith, b₀, e) in
    let e₁ : n / 256 % 256 ≡ x = omega (arith, b₀, b₁, e) in
    let e₂ : n / 65536 % 256 ≡ y = omega (arith, b₀, b₁, b₂, e) in
    let e₃ : n / 16777216 ≡ z = omega (arith, b₀, b₁, b₂, e) in
    λ i. e₀ i ∷ e₁ i ∷ e₂ i ∷ e₃ i ∷ []
parted_joined (w ∷ x ∷ y ∷ z ∷ q ∷ qs) n b l e = absurd (omega (arith, l))

pub lawful_little : Lawful little
lawful_little =
    record {
      back = λ n _. ap Some (omega arith);
      only =
          λ bs n b e.
          let got = cond_some (nat_eq (length bs) 4) (joined bs) n e in
          parted_joined bs n b (eqb-true (length bs) 4 got.0) got.1;
      good = λ bs n b e. refl;
      long = λ n. refl;
    }
