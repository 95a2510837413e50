-- The tests of the fixed fields, one by one.
-- Assumes nothing.
use Rattle.std.proofs.Common.{◌≡◌, ℕ, ◌+◌, ◌<◌, ◌≤◌, Bool, true, false, not, ◌&&◌, ltb, List, length, ℤ, is_some, Some, None, Option, sym, refl, ap, ◌∙◌, arith, ltb-false, ltb-true, le-ltb, lt-ltb, eq-eqb, ne_eqb}
use Rattle.grammar.specs.Format.{layout, fixed_bytes}
use Rattle.grammar.specs.Reading.{is_text}
use Rattle.grammar.specs.Offsets as O
use Rattle.grammar.specs.Checks.{room_for}
use Rattle.grammar.proofs.Cut.{by_cases}
use Rattle.grammar.proofs.Sound.{text_of}
use Rattle.grammar.proofs.Lines.{least_fixed, least_text, fixed_by_fields}
use Rattle.fields.specs.Told.{numbers_at}
use Rattle.reader.specs.Fielded.{fields_end}

module _ (bs : List ℕ) (k : ℕ) where
  -- a kind's fields take at least what its line says
  pub least_over : (i : ℕ) → (layout k).fixed ≤ O.least bs (layout k).fields i
  least_over i =
      by_cases (is_text (layout k).fields)
      (λ t. let e = least_text bs k i t in omega arith)
      (λ t. let e = least_fixed bs k i t in omega arith)

  -- a text has one byte for its length
  pub text_fixed : is_text (layout k).fields ≡ true → (layout k).fixed ≡ 1
  text_fixed t = fixed_by_fields k ∙ ap fixed_bytes (text_of (layout k).fields t)

  module _ (from to : ℕ) where
    pub room_none : to < from + O.least bs (layout k).fields from → None ≡ room_for bs (layout k).fields from to
    room_none h = rw (lt-ltb to (from + O.least bs (layout k).fields from) h)

    pub room_enough : (size : ℕ) → size ≡ O.least bs (layout k).fields from → from + size ≤ to → Some size ≡ room_for bs (layout k).fields from to
    room_enough size e h =
        let l : from + O.least bs (layout k).fields from ≤ to = omega arith in
        rw (le-ltb to (from + O.least bs (layout k).fields from) l) (ap Some e)

    pub room_some : (size : ℕ) → Some size ≡ room_for bs (layout k).fields from to → (size ≡ O.least bs (layout k).fields from) × (from + size ≤ to)
    room_some size h =
        by_cases (ltb to (from + O.least bs (layout k).fields from))
        (λ q. let z : ◌≡◌ {A = Option ℕ} (Some size) None = rw q at h in let y : ◌≡◌ {A = ℕ} 0 1 = cc in absurd (omega arith))
        (λ q.
        let z : ◌≡◌ {A = Option ℕ} (Some size) (Some (O.least bs (layout k).fields from)) = rw q at h in
        let e : size ≡ O.least bs (layout k).fields from = cc in
        let l = ltb-false to (from + O.least bs (layout k).fields from) q in
        (e, omega arith))

    pub room_short : None ≡ room_for bs (layout k).fields from to → to < from + O.least bs (layout k).fields from
    room_short h =
        by_cases (ltb to (from + O.least bs (layout k).fields from))
        (λ q. ltb-true to (from + O.least bs (layout k).fields from) q)
        (λ q. let z : ◌≡◌ {A = Option ℕ} None (Some (O.least bs (layout k).fields from)) = rw q at h in let y : ◌≡◌ {A = ℕ} 0 1 = cc in absurd (omega arith))

    -- numbers are told where they are on the globe
    pub on_globe : from + O.least bs (layout k).fields from ≤ to → to ≤ length bs → (o : Option (ℤ × ℤ)) → o ≡ numbers_at (layout k).fields bs from
        → (b : Bool) → is_some o ≡ b → O.off_globe bs (layout k).fields from ≡ not b
    on_globe fit within o e b y =
        let f = fixed_by_fields k in
        let l = least_over from in
        let short : ltb (length bs) (from + fixed_bytes (layout k).fields) ≡ false = le-ltb _ _ (omega arith) in
        by_cases (O.off_globe bs (layout k).fields from)
        (λ g. let z : is_some o ≡ false = rw (short, g) at (ap is_some e) in g ∙ ap not (sym z ∙ y))
        (λ g. let z : is_some o ≡ true = rw (short, g) at (ap is_some e) in g ∙ ap not (sym z ∙ y))

    pub end_short : to < from + O.least bs (layout k).fields from → None ≡ fields_end bs (layout k) from to
    end_short h = rw (lt-ltb to (from + O.least bs (layout k).fields from) h)

    -- they fit
    module _ (fit : from + O.least bs (layout k).fields from ≤ to) where
      pub end_over : O.ends_there (layout k) ≡ true → (from + O.least bs (layout k).fields from ≡ to → ⊥) → None ≡ fields_end bs (layout k) from to
      end_over e h =
          rw (le-ltb to (from + O.least bs (layout k).fields from) fit, e, ne_eqb to (from + O.least bs (layout k).fields from) (λ q. h (sym q)))

      pub end_fills : from + O.least bs (layout k).fields from ≡ to → Some (from + O.least bs (layout k).fields from) ≡ fields_end bs (layout k) from to
      end_fills h =
          rw (le-ltb to (from + O.least bs (layout k).fields from) fit, eq-eqb to (from + O.least bs (layout k).fields from) (sym h), none (O.ends_there (layout k)))
        where
          none : (b : Bool) → (b && false) ≡ false
          none true = refl
          none false = refl

      pub end_open : O.ends_there (layout k) ≡ false → Some (from + O.least bs (layout k).fields from) ≡ fields_end bs (layout k) from to
      end_open e = rw (le-ltb to (from + O.least bs (layout k).fields from) fit, e)
