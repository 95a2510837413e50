-- One step of each count of specs/Checks, for every way that a check can go.
-- Assumes nothing.
use Rattle.std.proofs.Common.{◌≡◌, ℕ, suc, ◌+◌, ◌-◌, ◌*◌, ◌<◌, ◌≤◌, Bool, true, false, not, ◌&&◌, eqb, ltb, List, [], ◌∷◌, ◌++◌, length, get_or, Some, None, Ok, Err, sym, refl, ap, ◌∙◌, subst, ap₂, arith, length-append, ltb-false, le-ltb, lt-ltb, eq-eqb, ne_eqb, eqb-true, le-leb}
use Rattle.std.proofs.lemmas.Bool.{lt-leb, not-false, both_ways, false≢true}
use Rattle.grammar.specs.declared.fault.ReadFault.{ReadFault}
use Rattle.grammar.specs.declared.fault.ReadFault.TheVariants.{TooLong, Empty, WrongSize, SecondDescriptions, SecondLanguage, Miscounted, TooDeep}
use Rattle.grammar.specs.declared.table.Spot.{Spot}
use Rattle.grammar.specs.declared.table.Spot.TheVariants.{Descriptions, Node, Reference, Place, Modes, Associated, Nowhere}
use Rattle.grammar.specs.declared.table.Fields.{Fields}
use Rattle.grammar.specs.declared.table.Fields.TheVariants.{Text}
use Rattle.grammar.specs.Format.{width, layout, kind_at}
use Rattle.grammar.specs.Grammar.{Row, Rows, deeper}
use Rattle.grammar.specs.Reading.{Read, then, if, Spoken, heard, is_text, is_count, closed, counted, sealed, reading}
use Rattle.grammar.specs.Offsets as O
use Rattle.grammar.specs.Checks.{many, plus, tail_of, parts_of, nodes_of, component_of, tops_of, fields_of, data_of, leafy}
use Rattle.grammar.proofs.Cut.{by_cases, by_then, by_test, go_then, err_ok, ok_ok}
use Rattle.grammar.proofs.Complete.{is_nowhere}
use Rattle.grammar.proofs.Lines.{counts_agree, text_closed}
use Rattle.grammar.proofs.Sound.{text_of}
use Rattle.grammar.proofs.Same.{count_of, associated_of, tops_same, reading_same, tail_turns, parts_turns, nodes_turns, component_turns}

-- what a header's end obeys
pub ends_within : (bs : List ℕ) (w level at end to : ℕ) → O.ends bs w level at end ≡ Ok to → (at + suc w ≤ to) × (to ≤ end)
ends_within bs w level at end to h =
    by_cases (ltb end (at + suc w))
    (λ q. absurd (err_ok (rw q at h)))
    (λ q.
    by_cases (ltb end (at + suc w + O.value bs (suc at) w))
    (λ r. absurd (err_ok (rw (q, r) at h)))
    (λ r.
    let e : at + suc w + O.value bs (suc at) w ≡ to = ok_ok (rw (q, r) at h) in
    let l = ltb-false end (at + suc w + O.value bs (suc at) w) r in
    (omega arith, omega arith)))

-- counting what two readings tell one after the other
many_both : (r : Read Rows) (q : Read Rows) → many (then r (λ x. then q (λ y. Ok (x ++ y)))) ≡ then (many r) (λ m. plus m (many q))
many_both (Ok x) (Ok y) = ap Ok (length-append x y)
many_both (Ok x) (Err e) = refl
many_both (Err e) q = refl

-- a row and those inside it
many_one : (r : Read Rows) (row : Row) → many (then r (λ x. Ok (row ∷ x))) ≡ plus 1 (many r)
many_one (Ok x) row = ap Ok (omega arith)
many_one (Err e) row = refl

many_text : (r : Read Spoken) (row : Spoken → Row) → many (then r (λ l. Ok (row l ∷ []))) ≡ then r (λ _. Ok 1)
many_text (Ok x) row = refl
many_text (Err e) row = refl

module _ (bs : List ℕ) (level at end : ℕ) where
  pub tail_done : (l : Spoken) → end ≤ at → tail_of bs level l at end ≡ Ok l
  unfolding tail_of
  tail_done l h = rw (le-leb end at h)

  module _ (l : Spoken) (h : at < end) (within : end ≤ length bs) where
    pub tail_past : (e : ReadFault) → O.ends bs 1 level at end ≡ Err e → tail_of bs level l at end ≡ Err e
    unfolding tail_of
    tail_past e q = rw (lt-leb end at h, q)

    module _ (to : ℕ) (q : O.ends bs 1 level at end ≡ Ok to) where
      more : (t : Spoken) → O.tail bs (end - at) level t to end ≡ O.tail bs (suc (end - to)) level t to end
      more t = let w = ends_within bs 1 level at end to q in tail_turns bs 0 (end - at) (suc (end - to)) to end (omega arith) within level t (omega arith) (omega arith)

      pub tail_other : (get_or bs at 0 ≡ 0 → ⊥) → tail_of bs level l at end ≡ tail_of bs level l to end
      unfolding tail_of
      tail_other n = rw (lt-leb end at h, q, ne_eqb (get_or bs at 0) 0 n) (more l)

      pub tail_second : get_or bs at 0 ≡ 0 → heard l ≡ true → tail_of bs level l at end ≡ Err (SecondLanguage at level)
      unfolding tail_of
      tail_second n y = rw (lt-leb end at h, q, eq-eqb (get_or bs at 0) 0 n, y)

      pub tail_size : get_or bs at 0 ≡ 0 → heard l ≡ false → (to ≡ at + 3 → ⊥) → tail_of bs level l at end ≡ Err (WrongSize at level)
      unfolding tail_of
      tail_size n y s = rw (lt-leb end at h, q, eq-eqb (get_or bs at 0) 0 n, y, ne_eqb to (at + 3) s)

      pub tail_language : get_or bs at 0 ≡ 0 → heard l ≡ false → to ≡ at + 3 → tail_of bs level l at end ≡ tail_of bs level (Some (get_or bs (at + 2) 0)) to end
      unfolding tail_of
      tail_language n y s = rw (lt-leb end at h, q, eq-eqb (get_or bs at 0) 0 n, y, eq-eqb to (at + 3) s) (more (Some (get_or bs (at + 2) 0)))

-- the parts of a holder
module _ (bs : List ℕ) (s : Spot) (level n at end : ℕ) where
  pub parts_done : end ≤ at → parts_of bs s level n at end ≡ Ok 0
  unfolding parts_of
  parts_done h = rw (le-leb end at h)

  module _ (h : at < end) (within : end ≤ length bs) (c : counted s ≡ false) (o : sealed s ≡ false) where
    pub parts_past : (e : ReadFault) → O.ends bs (width s) level at end ≡ Err e → parts_of bs s level n at end ≡ Err e
    unfolding parts_of
    parts_past e q = rw (lt-leb end at h, q)

    pub parts_part : (to : ℕ) → O.ends bs (width s) level at end ≡ Ok to
        → parts_of bs s level n at end
        ≡ then (component_of bs (kind_at s (get_or bs at 0)) level n at (at + suc (width s)) to) (λ m. plus m (parts_of bs s level n to end))
    unfolding parts_of component_of
    parts_part to q =
        let w = ends_within bs (width s) level at end to q in
        let d : ℕ = get_or bs 0 0 in
        let k : ℕ = kind_at s (get_or bs at 0) in
        let x = component_turns bs d (end - at) (suc (to - (at + suc (width s)))) (at + suc (width s)) to (omega arith) (omega arith) k (level - 1) level n at (omega arith) (omega arith) in
        let y = parts_turns bs d (end - at) (suc (end - to)) to end (omega arith) within s (level - 1) level n (omega arith) (omega arith) c (λ z. absurd (both_ways _ o z)) in
        rw (lt-leb end at h, q, x, y)
        (many_both (O.component bs d (suc (to - (at + suc (width s)))) k (level - 1) level n at (at + suc (width s)) to) (O.parts bs d (suc (end - to)) s (level - 1) level n to end))

-- the nodes of associated modes
module _ (bs : List ℕ) (level n own at end : ℕ) where
  pub nodes_done : at ≡ end → nodes_of bs 0 level n own at end ≡ Ok 0
  unfolding nodes_of
  nodes_done h = rw (eq-eqb at end h)

  pub nodes_over : (at ≡ end → ⊥) → nodes_of bs 0 level n own at end ≡ Err (Miscounted own (level - 1))
  unfolding nodes_of
  nodes_over h = rw (ne_eqb at end h)

  module _ (c : ℕ) (some : 0 < c) where
    pub nodes_few : end ≤ at → nodes_of bs c level n own at end ≡ Err (Miscounted own (level - 1))
    unfolding nodes_of
    nodes_few h = rw (ne_eqb c 0 (omega arith), le-leb end at h)

    module _ (h : at < end) (within : end ≤ length bs) where
      pub nodes_past : (e : ReadFault) → O.ends bs 2 level at end ≡ Err e → nodes_of bs c level n own at end ≡ Err e
      unfolding nodes_of
      nodes_past e q = rw (ne_eqb c 0 (omega arith), lt-leb end at h, q)

      module _ (to : ℕ) (q : O.ends bs 2 level at end ≡ Ok to) where
        pub nodes_other : (get_or bs at 0 ≡ 2 → ⊥) → nodes_of bs c level n own at end ≡ Err (Miscounted own (level - 1))
        unfolding nodes_of
        nodes_other i = rw (ne_eqb c 0 (omega arith), lt-leb end at h, q, ne_eqb (get_or bs at 0) 2 i)

        pub nodes_node : get_or bs at 0 ≡ 2
            → nodes_of bs c level n own at end ≡ then (component_of bs 1 level n at (at + 3) to) (λ m. plus m (nodes_of bs (c - 1) level n own to end))
        unfolding nodes_of component_of
        nodes_node i =
            let w = ends_within bs 2 level at end to q in
            let d : ℕ = get_or bs 0 0 in
            let x = component_turns bs d (end - at) (suc (to - (at + 3))) (at + 3) to (omega arith) (omega arith) 1 (level - 1) level n at (omega arith) (omega arith) in
            let y = nodes_turns bs d (end - at) (suc (end - to)) to end (omega arith) within own (c - 1) (level - 1) level n (omega arith) (omega arith) in
            rw (ne_eqb c 0 (omega arith), lt-leb end at h, q, eq-eqb (get_or bs at 0) 2 i, x, y)
            (many_both (O.component bs d (suc (to - (at + 3))) 1 (level - 1) level n at (at + 3) to) (O.nodes bs d (suc (end - to)) (c - 1) (level - 1) level n own to end))

-- the tests of the fields come first, and what is counted after them starts from where the fields end
after_fields : (p q r : Bool) (e₁ e₂ e₃ : ReadFault) (v : ℕ) (u : Unit {0} → Read Rows) (w : ℕ → Read ℕ)
    → (p ≡ false → q ≡ false → r ≡ false → many (u tt) ≡ w v)
    → many (if p (λ _. Err e₁) (λ _. if q (λ _. Err e₂) (λ _. if r (λ _. Err e₃) u)))
    ≡ then (if p (λ _. Err e₁) (λ _. if q (λ _. Err e₂) (λ _. if r (λ _. Err e₃) (λ _. Ok v)))) w
after_fields true q r e₁ e₂ e₃ v u w h = refl
after_fields false true r e₁ e₂ e₃ v u w h = refl
after_fields false false true e₁ e₂ e₃ v u w h = refl
after_fields false false false e₁ e₂ e₃ v u w h = h refl refl refl

closed_parts : (s : Spot) → closed s ≡ false → counted s ≡ false → sealed s ≡ false
closed_parts Descriptions h k = refl
closed_parts Node h k = refl
closed_parts Reference h k = refl
closed_parts Place h k = refl
closed_parts Modes h k = refl
closed_parts Associated h k = k
closed_parts Nowhere h k = h

then_const : (r : Read Spoken) (to : ℕ) (w : ℕ → Read ℕ) (x : Read ℕ) → x ≡ w to → then r (λ _. x) ≡ then (then r (λ _. Ok to)) w
then_const (Ok l) to w x e = e
then_const (Err f) to w x e = refl

-- a text's own components end its data, and the data of others go on where the fields end
module _ (to : ℕ) (w : ℕ → Read ℕ) where
  text_way : Ok 1 ≡ w to → (b : Bool) → b ≡ true → (r : Read ℕ) (t : ℕ → Read Spoken)
      → then r (λ a. then (t a) (λ _. Ok 1)) ≡ then (then r (λ a. if b (λ _. then (t a) (λ _. Ok to)) (λ _. Ok a))) w
  text_way e true q (Ok a) t = then_const (t a) to w (Ok 1) e
  text_way e true q (Err f) t = refl
  text_way e false q r t = cc

  other_way : (b : Bool) → b ≡ false → (r : Read ℕ) (t : ℕ → Read Spoken)
      → then r w ≡ then (then r (λ a. if b (λ _. then (t a) (λ _. Ok to)) (λ _. Ok a))) w
  other_way true q r t = cc
  other_way false q (Ok a) t = refl
  other_way false q (Err f) t = refl

-- a known component
module _ (bs : List ℕ) (k level n at from to : ℕ) (known : k ≡ 0 → ⊥) (some : 1 ≤ level) (h : from ≤ to) (within : to ≤ length bs) where
  pub component_deep : 8 < deeper (layout k).inside n → component_of bs k level n at from to ≡ Err (TooDeep at level)
  unfolding component_of
  component_deep d = rw (ne_eqb k 0 known, lt-ltb 8 (deeper (layout k).inside n) d)

  module _ (fit : deeper (layout k).inside n ≤ 8) where
    -- whose parts are counted nodes
    pub component_count : is_count (layout k).fields ≡ true
        → component_of bs k level n at from to ≡ then (fields_of bs (layout k) level at from to) (λ a. plus 1 (nodes_of bs (get_or bs from 0) (suc level) n at a to))
    unfolding component_of nodes_of
    component_count c =
        let f = count_of (layout k).fields c in
        let text : is_text (layout k).fields ≡ false = ap is_text f in
        let deep : suc (level - 1) ≡ suc level - 1 = omega arith in
        rw (ne_eqb k 0 known, le-ltb 8 (deeper (layout k).inside n) fit)
        (after_fields (ltb to (from + O.least bs (layout k).fields from)) (O.ends_there (layout k) && not (eqb to (from + O.least bs (layout k).fields from))) (O.off_globe bs (layout k).fields from) _ _ _ _ _ _ λ p q r.
        let l = ltb-false to (from + O.least bs (layout k).fields from) p in
        let one : from + O.least bs (layout k).fields from ≡ from + 1 = ap (λ (x : Fields). from + O.least bs x from) f in
        let t = nodes_turns bs (get_or bs 0 0) (to - from) (suc (to - (from + 1))) (from + 1) to (omega arith) within at (get_or bs from 0) (suc (level - 1)) (suc level) n (omega arith) (omega arith) in
        rw (text, c, one, t, deep) (many_one _ _))

    -- whose parts stand at a spot of their own
    pub component_held : is_count (layout k).fields ≡ false → is_text (layout k).fields ≡ false
        → component_of bs k level n at from to
        ≡ then (fields_of bs (layout k) level at from to) (λ a. plus 1 (parts_of bs (layout k).inside (suc level) (deeper (layout k).inside n) a to))
    unfolding component_of parts_of
    component_held c text =
        let deep : suc (level - 1) ≡ suc level - 1 = omega arith in
        let free : counted (layout k).inside ≡ false = counts_agree k ∙ c in
        rw (ne_eqb k 0 known, le-ltb 8 (deeper (layout k).inside n) fit)
        (after_fields (ltb to (from + O.least bs (layout k).fields from)) (O.ends_there (layout k) && not (eqb to (from + O.least bs (layout k).fields from))) (O.off_globe bs (layout k).fields from) _ _ _ _ _ _ λ p q r.
        let l = ltb-false to (from + O.least bs (layout k).fields from) p in
        let a : ℕ = from + O.least bs (layout k).fields from in
        let t = parts_turns bs (get_or bs 0 0) (to - from) (suc (to - a)) a to (omega arith) within (layout k).inside (suc (level - 1)) (suc level) (deeper (layout k).inside n) (omega arith) (omega arith) free
        (λ z. by_cases (closed (layout k).inside)
        (λ y. sym (eqb-true to a (not-false _ (rw (y, text) at q))))
        (λ y. absurd (both_ways _ (closed_parts (layout k).inside y free) z))) in
        rw (text, c, t, deep) (many_one _ _))

    -- a text
    pub component_text : is_text (layout k).fields ≡ true
        → component_of bs k level n at from to ≡ then (fields_of bs (layout k) level at from to) (λ a. then (tail_of bs (suc level) None a to) (λ _. Ok 1))
    unfolding component_of tail_of
    component_text text =
        rw (ne_eqb k 0 known, le-ltb 8 (deeper (layout k).inside n) fit)
        (after_fields (ltb to (from + O.least bs (layout k).fields from)) (O.ends_there (layout k) && not (eqb to (from + O.least bs (layout k).fields from))) (O.off_globe bs (layout k).fields from) _ _ _ _ _ _ λ p q r.
        let l = ltb-false to (from + O.least bs (layout k).fields from) p in
        let a : ℕ = from + O.least bs (layout k).fields from in
        let e : from + O.least bs Text from ≡ a = ap (λ (x : Fields). from + O.least bs x from) (sym (text_of (layout k).fields text)) in
        let t = tail_turns bs 0 (to - from) (suc (to - a)) a to (omega arith) within (suc level) None (omega arith) (omega arith) in
        rw (text, e, t) (many_text _ _))

    -- a component that holds no nodes of its own, in one form
    pub component_flat : is_count (layout k).fields ≡ false
        → component_of bs k level n at from to
        ≡ then (data_of bs (layout k) level at from to) (λ a. plus 1 (parts_of bs (layout k).inside (suc level) (deeper (layout k).inside n) a to))
    component_flat c =
        by_cases (is_text (layout k).fields)
        (λ t. component_text t ∙ text_way to _ (ap (plus 1) (sym (parts_done bs (layout k).inside (suc level) (deeper (layout k).inside n) to to (omega arith)))) (is_text (layout k).fields) t (fields_of bs (layout k) level at from to) (λ a. tail_of bs (suc level) None a to))
        (λ t. component_held c t ∙ other_way to _ (is_text (layout k).fields) t (fields_of bs (layout k) level at from to) (λ a. tail_of bs (suc level) None a to))

-- nothing is told of an unknown component
pub component_unknown : (bs : List ℕ) (level n at from to : ℕ) → component_of bs 0 level n at from to ≡ Ok 0
unfolding component_of
component_unknown bs level n at from to = refl

-- the container's components
tops_turns : (bs : List ℕ) (d f g : ℕ) (seen : Bool) (i : ℕ) → i ≤ length bs → length bs - i ≤ f → length bs - i ≤ g → O.tops bs d f seen i ≡ O.tops bs d g seen i
tops_turns bs d f g seen i h a b =
    tops_same bs d (suc (length bs - i)) f seen i h (omega arith) a ∙ sym (tops_same bs d (suc (length bs - i)) g seen i h (omega arith) b)

module _ (bs : List ℕ) (seen : Bool) (at : ℕ) where
  pub tops_done : length bs ≤ at → tops_of bs seen at ≡ Ok 0
  unfolding tops_of
  tops_done h = rw (le-leb (length bs) at h)

  module _ (h : at < length bs) where
    pub tops_past : (e : ReadFault) → O.ends bs 2 0 at (length bs) ≡ Err e → tops_of bs seen at ≡ Err e
    unfolding tops_of
    tops_past e q = rw (lt-leb (length bs) at h, q)

    module _ (to : ℕ) (q : O.ends bs 2 0 at (length bs) ≡ Ok to) where
      pub tops_other : (get_or bs at 0 ≡ 1 → ⊥) → tops_of bs seen at ≡ tops_of bs seen to
      unfolding tops_of
      tops_other i =
          let w = ends_within bs 2 0 at (length bs) to q in
          rw (lt-leb (length bs) at h, q, ne_eqb (get_or bs at 0) 1 i)
          (ap many (tops_turns bs (get_or bs 0 0) (length bs - at) (suc (length bs - to)) seen to (omega arith) (omega arith) (omega arith)))

      pub tops_second : get_or bs at 0 ≡ 1 → seen ≡ true → tops_of bs seen at ≡ Err (SecondDescriptions at)
      unfolding tops_of
      tops_second i y = rw (lt-leb (length bs) at h, q, eq-eqb (get_or bs at 0) 1 i, y)

      pub tops_described : get_or bs at 0 ≡ 1 → seen ≡ false
          → tops_of bs seen at ≡ then (parts_of bs Descriptions 1 0 (at + 3) to) (λ m. plus m (tops_of bs true to))
      unfolding tops_of parts_of
      tops_described i y =
          let w = ends_within bs 2 0 at (length bs) to q in
          let d : ℕ = get_or bs 0 0 in
          let t = parts_turns bs d (2 * length bs) (suc (to - (at + 3))) (at + 3) to (omega arith) (omega arith) Descriptions 0 1 0 (omega arith) (omega arith) refl (λ z. absurd (false≢true z)) in
          let u = tops_turns bs d (length bs - at) (suc (length bs - to)) true to (omega arith) (omega arith) (omega arith) in
          rw (lt-leb (length bs) at h, q, eq-eqb (get_or bs at 0) 1 i, y, t, u)
          (many_both (O.parts bs d (suc (to - (at + 3))) Descriptions 0 1 0 (at + 3) to) (O.tops bs d (suc (length bs - to)) true to))

-- the whole reading
module _ (bs : List ℕ) where
  pub reading_long : 65535 < length bs → many (reading bs) ≡ Err TooLong
  reading_long h = rw (← reading_same bs, lt-ltb 65535 (length bs) h)

  pub reading_empty : length bs ≡ 0 → many (reading bs) ≡ Err Empty
  reading_empty h = rw (← reading_same bs, h)

  pub reading_tops : length bs ≤ 65535 → 0 < length bs → many (reading bs) ≡ tops_of bs false 1
  unfolding tops_of
  reading_tops h k =
      rw (← reading_same bs, le-ltb 65535 (length bs) h, ne_eqb (length bs) 0 (omega arith))
      (ap many (tops_turns bs (get_or bs 0 0) (length bs) (suc (length bs - 1)) false 1 (omega arith) (omega arith) (omega arith)))

-- the data of a component that holds no others fill it
pub data_closed : (bs : List ℕ) (k level at from to a : ℕ) → closed (layout k).inside ≡ true → data_of bs (layout k) level at from to ≡ Ok a → a ≡ to
data_closed bs k level at from to a c h =
    by_then (fields_of bs (layout k) level at from to) _ h λ b e h₁.
    by_cases (is_text (layout k).fields)
    (λ t. let h₂ = rw t at h₁ in by_then (tail_of bs (suc level) None b to) _ h₂ λ l e₂ h₃. sym (ok_ok h₃))
    (λ t.
    by_test (ltb to (from + O.least bs (layout k).fields from)) _ _ e λ p e₁.
    by_test (O.ends_there (layout k) && not (eqb to (from + O.least bs (layout k).fields from))) _ _ e₁ λ q e₂.
    by_test (O.off_globe bs (layout k).fields from) _ _ e₂ λ r e₃.
    let f : to ≡ from + O.least bs (layout k).fields from = eqb-true _ _ (not-false _ (rw (c, t) at q)) in
    sym (f ∙ ok_ok e₃ ∙ ok_ok (rw t at h₁)))

leafy_deeper : (s : Spot) (n : ℕ) → leafy s ≡ true → deeper s n ≡ n
leafy_deeper Descriptions n h = refl
leafy_deeper Node n h = cc
leafy_deeper Reference n h = refl
leafy_deeper Place n h = refl
leafy_deeper Modes n h = refl
leafy_deeper Associated n h = refl
leafy_deeper Nowhere n h = refl

leafy_counted : (s : Spot) → leafy s ≡ true → counted s ≡ false
leafy_counted Descriptions h = refl
leafy_counted Node h = refl
leafy_counted Reference h = refl
leafy_counted Place h = refl
leafy_counted Modes h = refl
leafy_counted Associated h = sym h
leafy_counted Nowhere h = refl

pub leafy_open : (s : Spot) → leafy s ≡ true → closed s ≡ false → (counted s ≡ false) × (sealed s ≡ false)
leafy_open s h k = (leafy_counted s h, closed_parts s k (leafy_counted s h))

pub closed_leafy : (s : Spot) → closed s ≡ true → leafy s ≡ true
closed_leafy s h = rw (is_nowhere s h)

pub then_err : {X Y : Type 0} (r : Read X) (f : X → Read Y) (e : ReadFault) → r ≡ Err e → then r f ≡ Err e
then_err r f e q = rw q

-- a component that holds leaves at most
module _ (bs : List ℕ) (k level n at from to : ℕ) (known : 0 < k) (some : 1 ≤ level) (h : from ≤ to) (within : to ≤ length bs)
    (leaf : leafy (layout k).inside ≡ true) (few : n ≤ 8) where
  flat_is : component_of bs k level n at from to ≡ then (data_of bs (layout k) level at from to) (λ a. plus 1 (parts_of bs (layout k).inside (level + 1) n a to))
  flat_is =
      let d = leafy_deeper (layout k).inside n leaf in
      let e : suc level ≡ level + 1 = omega arith in
      component_flat bs k level n at from to (omega arith) some h within (omega arith) (sym (counts_agree k) ∙ leafy_counted (layout k).inside leaf)
      ∙ ap (λ (m : ℕ). then (data_of bs (layout k) level at from to) (λ a. plus 1 (parts_of bs (layout k).inside (suc level) m a to))) d
      ∙ ap (λ (l : ℕ). then (data_of bs (layout k) level at from to) (λ a. plus 1 (parts_of bs (layout k).inside l n a to))) e

  pub flat_fault : (e : ReadFault) → data_of bs (layout k) level at from to ≡ Err e → component_of bs k level n at from to ≡ Err e
  flat_fault e q = flat_is ∙ then_err (data_of bs (layout k) level at from to) _ e q

  module _ (a : ℕ) (q : data_of bs (layout k) level at from to ≡ Ok a) where
    flat_inner : component_of bs k level n at from to ≡ plus 1 (parts_of bs (layout k).inside (level + 1) n a to)
    flat_inner = flat_is ∙ go_then (data_of bs (layout k) level at from to) _ q refl

    pub flat_inner_fault : (e : ReadFault) → parts_of bs (layout k).inside (level + 1) n a to ≡ Err e → component_of bs k level n at from to ≡ Err e
    flat_inner_fault e r = flat_inner ∙ rw r

    pub flat_ok : (m : ℕ) → parts_of bs (layout k).inside (level + 1) n a to ≡ Ok m → component_of bs k level n at from to ≡ Ok (m + 1)
    flat_ok m r = flat_inner ∙ rw r (ap Ok (omega arith))

    pub leaf_ok : closed (layout k).inside ≡ true → component_of bs k level n at from to ≡ Ok 1
    leaf_ok c = flat_inner ∙ ap (plus 1) (parts_done bs (layout k).inside (level + 1) n a to (omega (arith, data_closed bs k level at from to a c q)))

-- one component of a holder's parts, and the count of those before it
module _ (bs : List ℕ) (s : Spot) (level n at end : ℕ) (h : at < end) (within : end ≤ length bs) (c : counted s ≡ false) (o : sealed s ≡ false)
    (to k : ℕ) (q : O.ends bs (width s) level at end ≡ Ok to) (is-k : kind_at s (get_or bs at 0) ≡ k) (from : ℕ) (is-from : from ≡ at + suc (width s)) where
  part_is : parts_of bs s level n at end ≡ then (component_of bs k level n at from to) (λ m. plus m (parts_of bs s level n to end))
  part_is =
      parts_part bs s level n at end h within c o to q
      ∙ ap (λ (x : ℕ). then (component_of bs x level n at (at + suc (width s)) to) (λ m. plus m (parts_of bs s level n to end))) is-k
      ∙ ap (λ (x : ℕ). then (component_of bs k level n at x to) (λ m. plus m (parts_of bs s level n to end))) (sym is-from)

  pub part_fault : (e : ReadFault) → component_of bs k level n at from to ≡ Err e → parts_of bs s level n at end ≡ Err e
  part_fault e r = part_is ∙ then_err (component_of bs k level n at from to) _ e r

  pub part_ok : (m : ℕ) → component_of bs k level n at from to ≡ Ok m → parts_of bs s level n at end ≡ plus m (parts_of bs s level n to end)
  part_ok m r = part_is ∙ go_then (component_of bs k level n at from to) _ r refl

pub plus_zero : (r : Read ℕ) → plus 0 r ≡ r
plus_zero (Ok n) = ap Ok (omega arith)
plus_zero (Err e) = refl

pub plus_plus : (m n : ℕ) (r : Read ℕ) → plus m (plus n r) ≡ plus (m + n) r
plus_plus m n (Ok x) = ap Ok (omega arith)
plus_plus m n (Err e) = refl

-- an unknown component adds no row
pub part_unknown : (bs : List ℕ) (s : Spot) (level n at end : ℕ) → at < end → end ≤ length bs → counted s ≡ false → sealed s ≡ false
    → (to : ℕ) → O.ends bs (width s) level at end ≡ Ok to → kind_at s (get_or bs at 0) ≡ 0 → parts_of bs s level n at end ≡ parts_of bs s level n to end
part_unknown bs s level n at end h within c o to q k =
    part_ok bs s level n at end h within c o to 0 q k (at + suc (width s)) refl 0 (component_unknown bs level n at (at + suc (width s)) to)
    ∙ plus_zero (parts_of bs s level n to end)

-- a node
module _ (bs : List ℕ) (k level n at from to : ℕ) (known : 0 < k) (some : 1 ≤ level) (h : from ≤ to) (within : to ≤ length bs) (node : (layout k).inside ≡ Node) where
  node_level : deeper (layout k).inside n ≡ suc n
  node_level = rw node

  pub node_deep : 8 ≤ n → component_of bs k level n at from to ≡ Err (TooDeep at level)
  node_deep l = component_deep bs k level n at from to (omega arith) some h within (omega (arith, node_level))

  node_plain : (is_count (layout k).fields ≡ false) × (is_text (layout k).fields ≡ false)
  node_plain = (
    sym (counts_agree k) ∙ ap counted node,
    by_cases (is_text (layout k).fields) (λ t. let c = text_closed k t in absurd (both_ways _ (ap closed node) c)) (λ t. t),
  )

  node_is : n < 8 → component_of bs k level n at from to ≡ then (fields_of bs (layout k) level at from to) (λ a. plus 1 (parts_of bs Node (level + 1) (n + 1) a to))
  node_is l =
      let e : suc level ≡ level + 1 = omega arith in
      let d : deeper (layout k).inside n ≡ n + 1 = omega (arith, node_level) in
      component_held bs k level n at from to (omega arith) some h within (omega arith) node_plain.0 node_plain.1
      ∙ ap (λ (s : Spot). then (fields_of bs (layout k) level at from to) (λ a. plus 1 (parts_of bs s (suc level) (deeper (layout k).inside n) a to))) node
      ∙ ap₂ (λ (x y : ℕ). then (fields_of bs (layout k) level at from to) (λ a. plus 1 (parts_of bs Node x y a to))) e d

  pub node_fault : n < 8 → (e : ReadFault) → fields_of bs (layout k) level at from to ≡ Err e → component_of bs k level n at from to ≡ Err e
  node_fault l e q = node_is l ∙ then_err (fields_of bs (layout k) level at from to) _ e q

  pub node_parts : n < 8 → (a : ℕ) → fields_of bs (layout k) level at from to ≡ Ok a → component_of bs k level n at from to ≡ plus 1 (parts_of bs Node (level + 1) (n + 1) a to)
  node_parts l a q = node_is l ∙ go_then (fields_of bs (layout k) level at from to) _ q refl

-- associated modes
module _ (bs : List ℕ) (k level n at from to : ℕ) (known : 0 < k) (some : 1 ≤ level) (h : from ≤ to) (within : to ≤ length bs) (few : n ≤ 8)
    (modes : is_count (layout k).fields ≡ true) where
  modes_is : component_of bs k level n at from to ≡ then (fields_of bs (layout k) level at from to) (λ a. plus 1 (nodes_of bs (get_or bs from 0) (level + 1) n at a to))
  modes_is =
      let e : suc level ≡ level + 1 = omega arith in
      let d : deeper (layout k).inside n ≡ n = ap (λ (s : Spot). deeper s n) (associated_of (layout k).inside (counts_agree k ∙ modes)) in
      component_count bs k level n at from to (omega arith) some h within (omega arith) modes
      ∙ ap (λ (x : ℕ). then (fields_of bs (layout k) level at from to) (λ a. plus 1 (nodes_of bs (get_or bs from 0) x n at a to))) e

  pub modes_fault : (e : ReadFault) → fields_of bs (layout k) level at from to ≡ Err e → component_of bs k level n at from to ≡ Err e
  modes_fault e q = modes_is ∙ then_err (fields_of bs (layout k) level at from to) _ e q

  pub modes_nodes : (a : ℕ) → fields_of bs (layout k) level at from to ≡ Ok a → component_of bs k level n at from to ≡ plus 1 (nodes_of bs (get_or bs from 0) (level + 1) n at a to)
  modes_nodes a q = modes_is ∙ go_then (fields_of bs (layout k) level at from to) _ q refl

-- what is known in associated modes is a node
pub only_nodes : (i k : ℕ) → kind_at Associated i ≡ k → 0 < k → (i ≡ 2) × (k ≡ 1)
only_nodes i k e h =
    by_cases (eqb i 2)
    (λ q. let z : 1 ≡ k = rw (q, kind_at) at e in (eqb-true i 2 q, sym z))
    (λ q. let z : 0 ≡ k = rw (q, kind_at) at e in absurd (omega arith))

pub none_but_nodes : (i : ℕ) → kind_at Associated i ≡ 0 → i ≡ 2 → ⊥
none_but_nodes i e q = let z : ◌≡◌ {A = ℕ} 1 0 = subst (λ (x : ℕ). kind_at Associated x ≡ 0) q e in omega arith

-- the byte of a count is among the fields
pub count_there : (bs : List ℕ) (k level at from to a : ℕ) → is_count (layout k).fields ≡ true → fields_of bs (layout k) level at from to ≡ Ok a → from < to
count_there bs k level at from to a c h =
    by_test (ltb to (from + O.least bs (layout k).fields from)) _ _ h λ p e.
    let l = ltb-false to (from + O.least bs (layout k).fields from) p in
    let one : O.least bs (layout k).fields from ≡ 1 = ap (λ (x : Fields). O.least bs x from) (count_of (layout k).fields c) in
    omega arith
