-- The sizes and counts by what code sees of the rows.
-- Assumes nothing.
use Rattle.std.proofs.Common.{◌≡◌, ℕ, suc, ◌+◌, ◌<◌, ◌≤◌, Bool, true, false, cond, eqb, ltb, List, [], ◌∷◌, ◌++◌, length, Some, None, Option, refl, ap, ◌∙◌, arith, length-append, lt-ltb, le-ltb, eq-eqb, add-one}
use Rattle.std.specs.List.{sum_by}
use Rattle.std.specs.Option.{unwrap_or}
use Rattle.std.proofs.lemmas.List.Sums.{sum_by-cons}
use Rattle.grammar.specs.declared.table.Fields.{Fields}
use Rattle.grammar.specs.declared.table.Fields.TheVariants.{Nothing, Code, Text, Globe, Floor, Count, Radius, Height}
use Rattle.grammar.specs.Format.{layout, width, fixed, fixed_bytes}
use Rattle.grammar.specs.Grammar.{Rows, Row as Told}
use Rattle.grammar.specs.Reading.{if, is_text, is_count}
use Rattle.grammar.specs.Flat.{language_part, front, own_size, inside_size, held_count}
use Rattle.grammar.specs.Choice.{bare_size}
use Rattle.grammar.proofs.Lines.{fixed_by_fields}
use Rattle.grammar.proofs.Flattened.{column_width}
use Rattle.location.specs.declared.Row.{Row}
use Rattle.location.specs.Answers.{seen, head_row, head_text}
use Rattle.sender.proofs.Laid.{fields_long}
use Rattle.sender.specs.Heads.{language_long, front_long, own_long, counted_in, as_byte, inside_rows, inside_long, right_in}
use Rattle.sender.proofs.Spliced.{width_few}

-- the row at a mark is what is seen of the first
pub seen_is : (row : Row) (x : Told) → Some row ≡ Some (seen x) → row ≡ seen x
seen_is row x e = cc

pub no_row : (row : Row) → ◌≡◌ {A = Option Row} (Some row) None → ⊥
no_row row e = let z : ◌≡◌ {A = ℕ} 0 1 = cc in omega arith

-- of the text there the length is seen
pub text_long : (xs : Rows) (row : Row) → Some row ≡ head_row xs → row.length ≡ length (head_text xs)
text_long [] row e = absurd (no_row row e)
text_long (x ∷ xs) row e = ap (λ (r : Row). r.length) (seen_is row x e)

-- the front's length
abbrev front_by : Bool → ℕ → Told → ℕ → List ℕ
front_by b d r n =
    if b (λ _. (length r.text ∷ r.text) ++ language_part d r.language) (λ _. fixed (layout r.kind).fields r.a r.b n)

abbrev long_by : Bool → ℕ → Told → ℕ
long_by b d r = if b (λ _. suc (length r.text) + language_long d r.language) (λ _. (layout r.kind).fixed)

language_part_long : (d l : ℕ) → language_long d l ≡ length (language_part d l)
language_part_long d l = go (eqb l d)
  where
    go : (b : Bool) → if {X = ℕ} b (λ _. 0) (λ _. 3) ≡ length (if {X = List ℕ} b (λ _. []) (λ _. 0 ∷ 1 ∷ l ∷ []))
    go true = refl
    go false = refl

long_is : (b : Bool) (d : ℕ) (r : Told) (n : ℕ) → is_text (layout r.kind).fields ≡ b → long_by b d r ≡ length (front_by b d r n)
long_is true d r n e = omega (arith, length-append (length r.text ∷ r.text) (language_part d r.language), language_part_long d r.language)
long_is false d r n e = fixed_by_fields r.kind ∙ fields_long (layout r.kind).fields r.a r.b n e

pub front_long_is : (d : ℕ) (r : Told) (n : ℕ) → front_long d (seen r) ≡ length (front d r n)
front_long_is d r n = long_is (is_text (layout r.kind).fields) d r n refl

pub own_long_is : (d : ℕ) (r : Told) → own_long d (seen r) ≡ own_size d r
own_long_is d r = ap (λ (n : ℕ). suc (layout r.kind).width + n) (front_long_is d r 0)

bytes_small : (f : Fields) → fixed_bytes f ≤ 8
bytes_small Nothing = omega arith
bytes_small Code = omega arith
bytes_small Text = omega arith
bytes_small Globe = omega arith
bytes_small Floor = omega arith
bytes_small Count = omega arith
bytes_small Radius = omega arith
bytes_small Height = omega arith

-- the bytes without a language part, as if the text were in the default
pub own_bare : (r : Told) → own_long r.language (seen r) ≡ bare_size r
own_bare r = go (is_text (layout r.kind).fields) (eq-eqb r.language r.language refl)
  where
    go : (b : Bool) → eqb r.language r.language ≡ true
        → suc (layout r.kind).width
        + if {X = ℕ} b (λ _. suc (length r.text) + if {X = ℕ} (eqb r.language r.language) (λ _. 0) (λ _. 3)) (λ _. (layout r.kind).fixed)
        ≡ suc (width (layout r.kind).holder) + if {X = ℕ} b (λ _. length r.text + 1) (λ _. fixed_bytes (layout r.kind).fields)
    go true q = rw q (let w = column_width r.kind in omega arith)
    go false q = let w = column_width r.kind in let f = fixed_by_fields r.kind in omega arith

-- a component without its parts is small
pub own_small : (d : ℕ) (r : Row) → r.length < 256 → own_long d r ≤ 515
own_small d r h = go (is_text (layout r.kind).fields) (eqb r.language d)
  where
    go : (b c : Bool)
        → suc (layout r.kind).width + if {X = ℕ} b (λ _. suc r.length + if {X = ℕ} c (λ _. 0) (λ _. 3)) (λ _. (layout r.kind).fixed) ≤ 515
    go true true = let w = width_few r.kind in omega (arith, w.1)
    go true false = let w = width_few r.kind in omega (arith, w.1)
    go false c =
        let w = width_few r.kind in
        let f = fixed_by_fields r.kind in
        let m = bytes_small (layout r.kind).fields in
        omega (arith, w.1)

-- the rows inside another, by what code sees of them
pub inside_is : (d m : ℕ) (xs : Rows) → inside_long d m xs ≡ inside_size d m xs
inside_is d m [] = refl
inside_is d m (x ∷ xs) = go (ltb m x.depth) (inside_is d m xs)
  where
    go : (b : Bool) → inside_long d m xs ≡ inside_size d m xs
        → sum_by (own_long d) (cond b (seen x ∷ inside_rows m xs) []) ≡ if {X = ℕ} b (λ _. own_size d x + inside_size d m xs) (λ _. 0)
    go true h = sum_by-cons (own_long d) (seen x) (inside_rows m xs) ∙ (λ i. own_long_is d x i + h i)
    go false h = refl

pub held_is : (m : ℕ) (xs : Rows) → right_in m (inside_rows m xs) ≡ held_count m xs
held_is m [] = refl
held_is m (x ∷ xs) = go (ltb m x.depth) (held_is m xs)
  where
    one : (c : Bool) → right_in m (inside_rows m xs) ≡ held_count m xs
        → cond c 1 0 + right_in m (inside_rows m xs) ≡ if {X = ℕ} c (λ _. suc (held_count m xs)) (λ _. held_count m xs)
    one true h = omega arith
    one false h = omega arith

    go : (b : Bool) → right_in m (inside_rows m xs) ≡ held_count m xs
        → right_in m (cond b (seen x ∷ inside_rows m xs) [])
        ≡ if {X = ℕ} b (λ _. if {X = ℕ} (eqb x.depth (suc m)) (λ _. suc (held_count m xs)) (λ _. held_count m xs)) (λ _. 0)
    go true h = rw (add-one m) (one (eqb x.depth (suc m)) h)
    go false h = refl

-- a number that a byte can say
pub byte_said : (b : Bool) (n : ℕ) → (b ≡ true → n < 256) → as_byte (counted_in b n) ≡ Some (counted_in b n)
byte_said true n h = rw (lt-ltb n 256 (h refl)) refl
byte_said false n h = refl

pub said : (n k : ℕ) → k ≡ n → k < 256 → Some k ≡ as_byte n
said n k e h = rw (lt-ltb n 256 (omega arith)) (ap Some e)

pub unsaid : (n : ℕ) → 256 ≤ n → None ≡ as_byte n
unsaid n h = rw (le-ltb n 256 h) refl

pub held_said : {o : Option ℕ} {n k : ℕ} → o ≡ Some n → k ≡ unwrap_or o 0 → k ≡ n
held_said e w = w ∙ ap (λ (p : Option ℕ). unwrap_or p 0) e

-- a front does not depend on how many parts are held, unless its fields count them
pub front_counted : (d : ℕ) (r : Told) (n : ℕ) → front d r (counted_in (is_count (layout r.kind).fields) n) ≡ front d r n
front_counted d r n = go (layout r.kind).fields
  where
    go : (f : Fields)
        → if {X = List ℕ} (is_text f) (λ _. (length r.text ∷ r.text) ++ language_part d r.language) (λ _. fixed f r.a r.b (counted_in (is_count f) n))
        ≡ if {X = List ℕ} (is_text f) (λ _. (length r.text ∷ r.text) ++ language_part d r.language) (λ _. fixed f r.a r.b n)
    go Nothing = refl
    go Code = refl
    go Text = refl
    go Globe = refl
    go Floor = refl
    go Count = refl
    go Radius = refl
    go Height = refl
