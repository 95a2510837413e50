-- The laws of fixed fields, once for every shape: a value written is read back, and bytes read are written back.
-- Assumes nothing.
use Rattle.std.specs.Prelude.{◌≡◌, ℕ, ◌<◌, true, false, not, List, [], ◌∷◌, length, ℤ, Some, ◌==◌, nat_lt, slice_index, refl}
use Rattle.std.proofs.Common.{sym, ◌∙◌, ap, subst, append-nil, arith, length-append, take_all}
use borrow.Author.Tests.{ltb-true, lt-ltb, eqb-true, eq-eqb, not-true, clash}
use Rattle.std.proofs.lemmas.Bool.{and_parts, and_from}
use Rattle.std.proofs.lemmas.Option.{cond_some}
use Rattle.grammar.specs.declared.table.Fields.{Fields}
use Rattle.grammar.specs.declared.table.Fields.TheVariants.{Nothing, Code, Text, Globe, Floor, Count, Radius, Height}
use Rattle.grammar.specs.Format.{big, twos, fixed, fixed_bytes, fits, natural}
use Rattle.grammar.specs.Grammar.{Bytes}
use Rattle.grammar.specs.Reading.{is_text, is_count, least, first_number, second_number, off_globe}
use Rattle.grammar.proofs.Numbers.{length_twos}
use Rattle.grammar.proofs.Fixed.{Writes, Reads, fields_written, fields_read, no_count}
use Rattle.fields.specs.Lay.{Lawful}
use Rattle.fields.specs.Shape.{Shape, fitting, laid, readable, unlaid, lay_of, code_shape, floor_shape, radius_shape, height_shape, globe_shape, count_shape}
use Rattle.fields.specs.Fit.{fit_is, fits_from}

-- fields other than a text always take as many bytes
least_is : (f : Fields) (bs : List ℕ) → is_text f ≡ false → least f bs ≡ fixed_bytes f
least_is Nothing bs t = refl
least_is Code bs t = refl
least_is Text bs t = absurd (clash (sym t))
least_is Globe bs t = refl
least_is Floor bs t = refl
least_is Count bs t = refl
least_is Radius bs t = refl
least_is Height bs t = refl

-- and are written in as many
length_fixed : (f : Fields) (a b : ℤ) (n : ℕ) → is_text f ≡ false → length (fixed f a b n) ≡ fixed_bytes f
length_fixed Nothing a b n t = refl
length_fixed Code a b n t = refl
length_fixed Text a b n t = absurd (clash (sym t))
length_fixed Globe a b n t =
    let k = length_twos 4 2147483648 refl a in
    let l = length_twos 4 2147483648 refl b in
    length-append (twos 4 a) (twos 4 b) ∙ omega arith
length_fixed Floor a b n t = length_twos 1 128 refl a
length_fixed Count a b n t = refl
length_fixed Radius a b n t = refl
length_fixed Height a b n t = let l = length_twos 2 32768 refl b in length-append (big 1 (natural a)) (twos 2 b) ∙ omega arith

-- A value is what its bytes tell and count, and nothing else.
pub record Faithful {V : Type 0} (s : Shape V) : Type 0 where
  pub no_text : is_text s.fields ≡ false
  -- what the bytes tell and count is what their value does
  pub first : (bs : List ℕ) → first_number s.fields bs ≡ s.first (s.value bs)
  pub second : (bs : List ℕ) → second_number s.fields bs ≡ s.second (s.value bs)
  pub counts : (bs : List ℕ) → is_count s.fields ≡ true → s.parts (s.value bs) ≡ slice_index bs 0
  pub few : (bs : List ℕ) → Bytes bs → s.parts (s.value bs) < 256
  -- bytes that tell and count what a value does have that value
  pub whole : (bs : List ℕ) (v : V) → first_number s.fields bs ≡ s.first v → second_number s.fields bs ≡ s.second v
      → (is_count s.fields ≡ true → slice_index bs 0 ≡ s.parts v)
      → s.value bs ≡ v

module _ {V : Type 0} (s : Shape V) (honest : Faithful s) where
  -- every value takes as many bytes
  pub long : (v : V) → length (laid s v) ≡ fixed_bytes s.fields
  long v = length_fixed s.fields (s.first v) (s.second v) (s.parts v) honest.no_text

  -- a value that may be written is read back
  pub back : (v : V) → fitting s v ≡ true → unlaid s (laid s v) ≡ Some v
  back v h =
      let p = and_parts (fits s.fields (s.first v) (s.second v)) (nat_lt (s.parts v) 256) h in
      let k = fit_is s.fields (s.first v) (s.second v) (s.parts v) p.0 (ltb-true (s.parts v) 256 p.1) in
      let r = subst (λ (bs : List ℕ). Reads s.fields (s.first v) (s.second v) (s.parts v) bs) (append-nil (laid s v))
      (fields_read s.fields (s.first v) (s.second v) (s.parts v) [] k) in
      rw (eq-eqb (length (laid s v)) (fixed_bytes s.fields) (long v), r.on_globe)
      (ap Some (honest.whole (laid s v) v r.first r.second r.counts))

  -- bytes that were read
  module _ (bs : List ℕ) (v : V) (small : Bytes bs) (h : unlaid s bs ≡ Some v) where
    got : (readable s bs ≡ true) × (s.value bs ≡ v)
    got = cond_some (readable s bs) (s.value bs) v h

    parts : ((length bs == fixed_bytes s.fields) ≡ true) × (not (off_globe s.fields bs) ≡ true)
    parts = and_parts _ _ got.0

    size : length bs ≡ fixed_bytes s.fields
    size = eqb-true (length bs) (fixed_bytes s.fields) parts.0

    writes : Writes s.fields bs (s.parts (s.value bs))
    writes =
        let l = least_is s.fields bs honest.no_text in
        fields_written s.fields bs (s.parts (s.value bs)) small honest.no_text (omega (arith, size)) (not-true _ parts.1) (honest.counts bs)

    -- the bytes are those of the value
    pub only : laid s v ≡ bs
    only =
        let l = least_is s.fields bs honest.no_text in
        ap (laid s) (sym got.1)
        ∙ (rw (← honest.first bs, ← honest.second bs) writes.same)
        ∙ take_all (least s.fields bs) bs (omega (arith, size))

    -- the value may be written
    pub good : fitting s v ≡ true
    good =
        ap (fitting s) (sym got.1)
        ∙ and_from _ _ (rw (← honest.first bs, ← honest.second bs) (fits_from _ _ _ _ writes.fit)) (lt-ltb (s.parts (s.value bs)) 256 (honest.few bs small))

  -- the values lie in bytes lawfully
  pub lawful_of : Lawful (lay_of s)
  lawful_of = record { back = back; only = only; good = good; long = long }

-- the first of some bytes, or 0
first_small : (bs : List ℕ) → Bytes bs → slice_index bs 0 < 256
first_small [] h = omega arith
first_small (x ∷ xs) h = h.0

-- a shape that counts no parts
uncounted : {V : Type 0} (s : Shape V) → is_text s.fields ≡ false → is_count s.fields ≡ false → ((v : V) → s.parts v ≡ 0)
    → ((bs : List ℕ) → first_number s.fields bs ≡ s.first (s.value bs))
    → ((bs : List ℕ) → second_number s.fields bs ≡ s.second (s.value bs))
    → ((bs : List ℕ) (v : V) → first_number s.fields bs ≡ s.first v → second_number s.fields bs ≡ s.second v → s.value bs ≡ v)
    → Faithful s
uncounted s t c none first second whole =
    record {
      no_text = t;
      first = first;
      second = second;
      counts = λ bs h. no_count (sym c ∙ h);
      few = λ bs h. let z = none (s.value bs) in omega arith;
      whole = λ bs v a b _. whole bs v a b;
    }

pub faithful_code : Faithful code_shape
faithful_code = uncounted code_shape refl refl (λ v. refl) (λ bs. refl) (λ bs. refl) (λ bs v a b. ap natural a)

pub faithful_radius : Faithful radius_shape
faithful_radius = uncounted radius_shape refl refl (λ v. refl) (λ bs. refl) (λ bs. refl) (λ bs v a b. ap natural a)

pub faithful_floor : Faithful floor_shape
faithful_floor = uncounted floor_shape refl refl (λ v. refl) (λ bs. refl) (λ bs. refl) (λ bs v a b. a)

pub faithful_height : Faithful height_shape
faithful_height = uncounted height_shape refl refl (λ v. refl) (λ bs. refl) (λ bs. refl) (λ bs v a b i. (natural (a i), b i))

pub faithful_globe : Faithful globe_shape
faithful_globe = uncounted globe_shape refl refl (λ v. refl) (λ bs. refl) (λ bs. refl) (λ bs v a b i. (a i, b i))

pub faithful_count : Faithful count_shape
faithful_count =
    record {
      no_text = refl;
      first = λ bs. refl;
      second = λ bs. refl;
      counts = λ bs _. refl;
      few = first_small;
      whole = λ bs v a b c. c refl;
    }
