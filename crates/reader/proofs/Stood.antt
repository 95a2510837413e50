-- What stands at a place, test by test.
-- Assumes nothing.
use Rattle.std.proofs.Common.{◌≡◌, ℕ, suc, ◌+◌, ◌<◌, ◌≤◌, Bool, true, false, eqb, ltb, leb, List, length, get_or, Option, Some, None, Ok, Err, sym, refl, ap, ◌∙◌, subst, arith, ltb-false, ltb-true, le-ltb, lt-ltb, ne_eqb, eqb-true, le-leb}
use borrow.Author.Tests.{lt-leb, eqb-false}
use Rattle.std.specs.Option.{option_map}
use Rattle.std.specs.Result.{result_ok}
use Rattle.grammar.specs.declared.fault.ReadFault.{ReadFault}
use Rattle.grammar.specs.declared.table.Spot.{Spot}
use Rattle.grammar.specs.Format.{width, layout, kind_at}
use Rattle.grammar.specs.Reading.{Read, Spoken, if}
use Rattle.grammar.specs.Offsets as O
use Rattle.grammar.specs.Checks.{tail_of}
use Rattle.grammar.specs.Walk.{read_or}
use Rattle.grammar.proofs.Steps.{tail_done}
use Rattle.grammar.proofs.Walked.{first_way, other_way}
use Rattle.reader.specs.declared.standings.Component.{Component}
use Rattle.reader.specs.declared.standings.Standing.{Standing}
use Rattle.reader.specs.declared.standings.Standing.TheVariants.{Known, Unknown}
use Rattle.reader.specs.Stands.{known_at, stands_at, language_in}

-- the two ways of a test, and of a reading, where what is to show speaks of it
by_test : (b : Bool) (P : Bool → Type 0) → (b ≡ true → P true) → (b ≡ false → P false) → P b
by_test true P y n = y refl
by_test false P y n = n refl

by_read : {X : Type 0} (r : Read X) (P : Read X → Type 0) → ((x : X) → r ≡ Ok x → P (Ok x)) → ((e : ReadFault) → r ≡ Err e → P (Err e)) → P r
by_read (Ok x) P y n = y x refl
by_read (Err e) P y n = n e refl

-- what was read, from its value where the fault is dropped
pub ok_none : {X : Type 0} (r : Read X) → result_ok r ≡ None → (e : ReadFault) × (r ≡ Err e)
ok_none (Ok x) q = let y : ◌≡◌ {A = ℕ} 0 1 = cc in absurd (omega arith)
ok_none (Err e) q = (e, refl)

pub ok_some : {X : Type 0} (r : Read X) (x : X) → result_ok r ≡ Some x → r ≡ Ok x
ok_some (Ok y) x q = let e : y ≡ x = cc in ap Ok e
ok_some (Err e) x q = let y : ◌≡◌ {A = ℕ} 0 1 = cc in absurd (omega arith)

module _ (bs : List ℕ) (s : Spot) (at end : ℕ) where
  pub stand_forged : length bs < end → None ≡ stands_at bs s at end
  unfolding stands_at
  stand_forged h = sym (first_way (ltb (length bs) end) _ _ (lt-ltb _ _ h) refl)

  module _ (h : end ≤ length bs) where
    pub stand_done : end ≤ at → None ≡ stands_at bs s at end
    unfolding stands_at
    stand_done k = sym (other_way (ltb (length bs) end) _ _ (le-ltb _ _ h) (first_way (leb end at) _ _ (le-leb _ _ k) refl))

    module _ (k : at < end) where
      stood : stands_at bs s at end
          ≡ read_or (O.ends bs (width s) 0 at end) None
          (λ to. if (eqb (kind_at s (get_or bs at 0)) 0) (λ _. Some (Unknown to)) (λ _. option_map Known (known_at bs (kind_at s (get_or bs at 0)) (at + suc (width s)) to)))
      unfolding stands_at
      stood = other_way (ltb (length bs) end) _ _ (le-ltb _ _ h) (other_way (leb end at) _ _ (lt-leb _ _ k) refl)

      pub stand_past : (e : ReadFault) → O.ends bs (width s) 0 at end ≡ Err e → None ≡ stands_at bs s at end
      stand_past e q = sym (stood ∙ rw q)

      pub stand_unknown : (to : ℕ) → O.ends bs (width s) 0 at end ≡ Ok to → kind_at s (get_or bs at 0) ≡ 0 → Some (Unknown to) ≡ stands_at bs s at end
      stand_unknown to q z = sym (stood ∙ rw (q, z))

      pub stand_known : (to kind from : ℕ) → O.ends bs (width s) 0 at end ≡ Ok to → kind_at s (get_or bs at 0) ≡ kind → 0 < kind → from ≡ at + suc (width s)
          → option_map Known (known_at bs kind from to) ≡ stands_at bs s at end
      stand_known to kind from q z p f =
          sym (stood ∙ rw (q, z) (other_way (eqb kind 0) _ _ (ne_eqb kind 0 (omega arith)) (ap (λ (x : ℕ). option_map Known (known_at bs kind x to)) (sym f))))

      -- whatever holds on each way holds of what stands there
      pub stand_each : (P : Option Standing → Type 0) → ((e : ReadFault) → O.ends bs (width s) 0 at end ≡ Err e → P None)
          → ((to : ℕ) → O.ends bs (width s) 0 at end ≡ Ok to → kind_at s (get_or bs at 0) ≡ 0 → P (Some (Unknown to)))
          → ((to : ℕ) → O.ends bs (width s) 0 at end ≡ Ok to → 0 < kind_at s (get_or bs at 0) → P (option_map Known (known_at bs (kind_at s (get_or bs at 0)) (at + suc (width s)) to)))
          → P (stands_at bs s at end)
      stand_each P past unknown known =
          subst P (sym stood)
          (by_read (O.ends bs (width s) 0 at end)
          (λ r. P (read_or r None (λ to. if (eqb (kind_at s (get_or bs at 0)) 0) (λ _. Some (Unknown to)) (λ _. option_map Known (known_at bs (kind_at s (get_or bs at 0)) (at + suc (width s)) to)))))
          (λ to q.
          by_test (eqb (kind_at s (get_or bs at 0)) 0) (λ b. P (if b (λ _. Some (Unknown to)) (λ _. option_map Known (known_at bs (kind_at s (get_or bs at 0)) (at + suc (width s)) to))))
          (λ z. unknown to q (eqb-true (kind_at s (get_or bs at 0)) 0 z))
          (λ z. let ne = eqb-false (kind_at s (get_or bs at 0)) 0 z in known to q (omega arith)))
          past)

-- the same of a known component, of kind k, whose data go from `from` to `to`
pub known_each : (bs : List ℕ) (k from to : ℕ) (P : Option Component → Type 0) → (to < from + O.least bs (layout k).fields from → P None)
    → (from + O.least bs (layout k).fields from ≤ to → O.off_globe bs (layout k).fields from ≡ true → P None)
    → (from + O.least bs (layout k).fields from ≤ to → O.off_globe bs (layout k).fields from ≡ false
    → P (Some (record { kind = k; from = from; inside = from + O.least bs (layout k).fields from; stop = to })))
    → P (known_at bs k from to)
known_each bs k from to P short off on =
    by_test (ltb to (from + O.least bs (layout k).fields from))
    (λ b. P (if b (λ _. None) (λ _. if (O.off_globe bs (layout k).fields from) (λ _. None)
    (λ _. Some (record { kind = k; from = from; inside = from + O.least bs (layout k).fields from; stop = to })))))
    (λ q. short (ltb-true to (from + O.least bs (layout k).fields from) q))
    (λ q.
    let h = ltb-false to (from + O.least bs (layout k).fields from) q in
    by_test (O.off_globe bs (layout k).fields from)
    (λ b. P (if b (λ _. None) (λ _. Some (record { kind = k; from = from; inside = from + O.least bs (layout k).fields from; stop = to }))))
    (off h) (on h))

module _ (bs : List ℕ) (from to : ℕ) where
  pub language_past : length bs < to → None ≡ language_in bs from to
  unfolding language_in
  language_past h = sym (first_way (ltb (length bs) to) _ _ (lt-ltb _ _ h) refl)

  pub language_here : to ≤ length bs → language_in bs from to ≡ read_or (tail_of bs 0 None from to) None (λ l. l)
  unfolding language_in
  language_here h = other_way (ltb (length bs) to) _ _ (le-ltb _ _ h) refl

  pub language_none : to ≤ length bs → to ≤ from → None ≡ language_in bs from to
  language_none h k = sym (language_here h ∙ ap (λ (r : Read Spoken). read_or r None (λ l. l)) (tail_done bs 0 from to None k))
