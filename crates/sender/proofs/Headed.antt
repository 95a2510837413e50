-- The bytes of the first of some rows, as they are written piece by piece.
-- Assumes nothing.
use Rattle.std.proofs.Common.{◌≡◌, ℕ, zero, suc, ◌+◌, ◌^◌, ◌<◌, ◌≤◌, Bool, true, false, List, [], ◌∷◌, ◌++◌, length, Some, None, sym, refl, ap, ◌∙◌, subst, arith, length-append}
use Rattle.grammar.specs.Format.{layout, fixed, fits, big}
use Rattle.grammar.specs.Grammar.{Rows, Row as Told}
use Rattle.grammar.specs.Reading.{if, is_text, is_count}
use Rattle.grammar.specs.Flat.{language_part, front, inside_size, held_count, row_bytes, flat}
use Rattle.grammar.proofs.Flattened.{row_length}
use Rattle.location.specs.declared.Row.{Row}
use Rattle.location.specs.Answers.{seen, head_row}
use Rattle.location.specs.Steps.{rest_of}
use Rattle.sender.specs.Heads.{front_at, head_bytes, HeadWritable, front_long, inside_long, counted_in, as_byte}
use Rattle.sender.specs.Writable.{Writable}
use Rattle.sender.proofs.Spliced.{width_few}
use Rattle.sender.proofs.Looked.{seen_is, no_row, front_long_is, own_long_is, front_counted, inside_is, byte_said}

-- the front by what is seen of the row
front_fields : (b : Bool) (d : ℕ) (r : Told) (n : ℕ) → b ≡ false
    → if {X = List ℕ} b (λ _. (length r.text ∷ r.text) ++ language_part d r.language) (λ _. fixed (layout r.kind).fields r.a r.b n)
    ≡ fixed (layout r.kind).fields r.a r.b n
front_fields true d r n e = let z : ◌≡◌ {A = ℕ} 0 1 = cc in absurd (omega arith)
front_fields false d r n e = refl

pub front_held : (d : ℕ) (xs : Rows) (row : Row) (n : ℕ) → head_row xs ≡ Some row → is_text (layout row.kind).fields ≡ false
    → front_at d xs n ≡ fixed (layout row.kind).fields row.a row.b n
front_held d [] row n e t = absurd (no_row row (sym e))
front_held d (x ∷ xs) row n e t =
    let s = seen_is row x (sym e) in
    subst (λ (w : Row). is_text (layout w.kind).fields ≡ false → front d x n ≡ fixed (layout w.kind).fields w.a w.b n) (sym s)
    (λ u. front_fields (is_text (layout x.kind).fields) d x n u) t

-- the widths are so few that every length is below 65536
pow_few : (w : ℕ) → w ≤ 2 → 256 ^ w ≤ 65536
pow_few zero h = omega arith
pow_few (suc zero) h = omega arith
pow_few (suc (suc zero)) h = omega arith
pow_few (suc (suc (suc w))) h = absurd (omega arith)

-- what is known of the first of xs, seen as `row`, with ys after it, where it can be written
pub record Headed (d : ℕ) (xs ys : Rows) (row : Row) : Type 0 where
  pub inside : inside_long d row.depth ys ≤ 65535
  pub held : as_byte (counted_in (is_count (layout row.kind).fields) (held_count row.depth ys))
      ≡ Some (counted_in (is_count (layout row.kind).fields) (held_count row.depth ys))
  pub header : front_long d row + inside_long d row.depth ys < 256 ^ (layout row.kind).width
  pub small : front_long d row + inside_long d row.depth ys < 65536
  pub good : is_text (layout row.kind).fields ≡ false → fits (layout row.kind).fields row.a row.b ≡ true
  pub size : length (head_bytes d xs) ≡ suc (layout row.kind).width + front_long d row
  pub front_size : (n : ℕ) → length (front_at d xs n) ≡ front_long d row
  pub bytes : head_bytes d xs
      ≡ ((layout row.kind).id ∷ big (layout row.kind).width (front_long d row + inside_long d row.depth ys))
      ++ front_at d xs (counted_in (is_count (layout row.kind).fields) (held_count row.depth ys))

pub headed : (d : ℕ) (xs ys : Rows) (row : Row) → head_row xs ≡ Some row → ys ≡ rest_of xs → HeadWritable d xs → Headed d xs ys row
headed d [] ys row e f g = absurd (no_row row (sym e))
headed d (x ∷ xs) ys row e f g =
    let l : front_long d (seen x) + inside_long d x.depth xs ≡ length (front d x 0) + inside_size d x.depth xs =
    λ i. front_long_is d x 0 i + inside_is d x.depth xs i in
    let h : front_long d (seen x) + inside_long d x.depth xs < 256 ^ (layout x.kind).width =
    subst (λ (n : ℕ). n < 256 ^ (layout x.kind).width) (sym l) g.1 in
    let p = pow_few (layout x.kind).width (width_few x.kind).1 in
    let s = inside_is d x.depth xs in
    subst (λ (w : Row). Headed d (x ∷ xs) ys w) (sym (seen_is row x (sym e)))
    (subst (λ (zs : Rows). Headed d (x ∷ xs) zs (seen x)) (sym f)
    (record {
      inside = omega (arith, g.3);
      held = byte_said (is_count (layout x.kind).fields) (held_count x.depth xs) g.2;
      header = h;
      small = omega arith;
      good = g.0;
      size = row_length d x xs ∙ sym (own_long_is d x);
      front_size = λ n. sym (front_long_is d x n);
      bytes =
          λ i. ((layout x.kind).id ∷ big (layout x.kind).width (sym l i))
          ++ sym (front_counted d x (held_count x.depth xs)) i;
    }))

-- a mark of a location that is lent
pub lent_rows : {S M : Type 0} (f : S → M → Rows) (s t : S) (m : M) (xs : Rows) → s ≡ t → f s m ≡ xs → f t m ≡ xs
lent_rows {S = S} f s t m xs e h = subst (λ (u : S). f u m ≡ xs) e h

-- one row after the other
pub rest_writable : (d : ℕ) (xs ys : Rows) → ys ≡ rest_of xs → Writable d xs → Writable d ys
rest_writable d [] ys e w = subst (Writable d) (sym e) tt
rest_writable d (x ∷ xs) ys e w = subst (Writable d) (sym e) w.1

pub flat_turn : (d : ℕ) (xs ys : Rows) → ys ≡ rest_of xs → flat d xs ≡ head_bytes d xs ++ flat d ys
flat_turn d [] ys e = sym (ap (flat d) e)
flat_turn d (x ∷ xs) ys e = ap (λ (zs : Rows). row_bytes d x xs ++ flat d zs) (sym e)

pub flat_turn_long : (d : ℕ) (xs ys : Rows) → ys ≡ rest_of xs → length (flat d xs) ≡ length (head_bytes d xs) + length (flat d ys)
flat_turn_long d xs ys e = ap length (flat_turn d xs ys e) ∙ length-append (head_bytes d xs) (flat d ys)

pub flat_none : (d : ℕ) (xs : Rows) → None ≡ head_row xs → flat d xs ≡ []
flat_none d [] e = refl
flat_none d (x ∷ xs) e = absurd (no_row (seen x) (sym e))
