-- The walk from mark to mark: what it tells at each mark, and that it tells what is read.
-- Assumes nothing.
use Rattle.std.proofs.Common.{◌≡◌, ℕ, zero, suc, ◌+◌, ◌-◌, ◌*◌, ◌<◌, ◌≤◌, Bool, true, false, not, ◌&&◌, ◌||◌, T, eqb, ltb, leb, List, [], ◌∷◌, ◌++◌, length, get_or, take, drop, pos, Some, None, Ok, Err, sym, refl, ap, ◌∙◌, subst, ⊎_elim, append_assoc, arith, leb→le, ltb-false, le-ltb, lt-ltb, ne_eqb, eqb-true, le-leb, leb-false, leb-true}
use Rattle.std.proofs.lemmas.Bool.{lt-leb, eqb-false, not-false}
use Rattle.grammar.specs.declared.table.Spot.TheVariants.{Descriptions, Node, Reference, Place, Modes, Associated, Nowhere}
use Rattle.grammar.specs.declared.table.Spot.{Spot}
use Rattle.grammar.specs.declared.table.Fields.{Fields}
use Rattle.grammar.specs.declared.table.Fields.TheVariants.{Text}
use Rattle.grammar.specs.declared.table.Layout.{Layout}
use Rattle.grammar.specs.Format.{width, layout, kind_at, table, blank}
use Rattle.grammar.specs.Grammar.{Row, deeper}
use Rattle.grammar.specs.declared.fault.ReadFault.{ReadFault}
use Rattle.grammar.specs.Reading.{Read, if, Spoken, heard, or_else, is_text, is_count, closed, counted}
use Rattle.grammar.specs.Offsets as O
use Rattle.grammar.specs.Walk.{Frame, most_frames, extra, room, read_or, language_at, row_at, met, turn, walk, rows_from, Stretch, no_stretch, seek, data_from}
use Rattle.grammar.specs.Theorems.{StandsAt, WalkTells}
use Rattle.grammar.proofs.Cut.{by_cases, by_test, by_then, err_ok, ok_ok, pass, go_then}
use Rattle.grammar.proofs.Lines.{both_left, both_right, line_at, found_by_id, counts_agree, text_closed}
use Rattle.grammar.proofs.Complete.{is_nowhere}
use Rattle.grammar.proofs.Same.{width_some, count_of, associated_of, node_kind}
use Rattle.grammar.proofs.Steps.{ends_within}

-- the two ways of a test, with the same on each
same_ways : {X : Type 0} (b : Bool) (u v x y : Unit {0} → X) → (b ≡ true → u tt ≡ v tt) → (b ≡ false → x tt ≡ y tt) → if b u x ≡ if b v y
same_ways true u v x y g h = g refl
same_ways false u v x y g h = h refl

-- the way that a test takes
pub first_way : {X : Type 0} (b : Bool) (u v : Unit {0} → X) {x : X} → b ≡ true → u tt ≡ x → if b u v ≡ x
first_way b u v q h = rw q h

pub other_way : {X : Type 0} (b : Bool) (u v : Unit {0} → X) {x : X} → b ≡ false → v tt ≡ x → if b u v ≡ x
other_way b u v q h = rw q h

same_read : {X Y : Type 0} (r : Read X) (y : Y) (f g : X → Y) → ((x : X) → r ≡ Ok x → f x ≡ g x) → read_or r y f ≡ read_or r y g
same_read (Ok x) y f g h = h x refl
same_read (Err e) y f g h = refl

module _ (bs : List ℕ) where
  -- a component's end is the same at every level
  pub ends_level : (w level at end to other : ℕ) → O.ends bs w level at end ≡ Ok to → O.ends bs w other at end ≡ Ok to
  ends_level w level at end to other h =
      by_test (ltb end (at + suc w)) _ _ h λ q₁ h₁.
      by_test (ltb end (at + suc w + O.value bs (suc at) w)) _ _ h₁ λ q₂ h₂.
      pass (ltb end (at + suc w)) _ _ q₁ (pass (ltb end (at + suc w + O.value bs (suc at) w)) _ _ q₂ h₂)

module _ (bs : List ℕ) (d : ℕ) where
  -- the turns that a walk takes at most
  abbrev left : List Frame → ℕ → ℕ
  left fs at = length fs + (length bs - at)

  met_same : (f g : List Frame → ℕ → List Row) (frame : Frame) (fs : List Frame) (at k from to : ℕ) → at + 2 ≤ from → from ≤ to → to ≤ length bs
      → ((fs' : List Frame) (at' : ℕ) → left fs' at' < left (frame ∷ fs) at → f fs' at' ≡ g fs' at')
      → met bs d f frame fs k from to ≡ met bs d g frame fs k from to
  met_same f g frame fs at k from to h l m same =
      same_ways (eqb k 0) _ _ _ _ (λ _. same (frame ∷ fs) to (omega arith))
      (λ _. same_ways (ltb to (from + O.least bs (layout k).fields from)) _ _ _ _ (λ _. refl)
      (λ q.
      let r = ltb-false to (from + O.least bs (layout k).fields from) q in
      same_ways (O.off_globe bs (layout k).fields from) _ _ _ _ (λ _. refl)
      (λ _. same_ways (closed (layout k).inside) _ _ _ _ (λ _. ap (λ (rs : List Row). row_at bs d (length fs) k from to ∷ rs) (same (frame ∷ fs) to (omega arith)))
      (λ _. same_ways (leb most_frames (length (frame ∷ fs))) _ _ _ _ (λ _. refl)
      (λ _. ap (λ (rs : List Row). row_at bs d (length fs) k from to ∷ rs) (same _ _ (omega arith)))))))

  turn_same : (f g : List Frame → ℕ → List Row) (frame : Frame) (fs : List Frame) (at : ℕ)
      → ((fs' : List Frame) (at' : ℕ) → left fs' at' < left (frame ∷ fs) at → f fs' at' ≡ g fs' at')
      → turn bs d f frame fs at ≡ turn bs d g frame fs at
  turn_same f g frame fs at same =
      same_ways (ltb (length bs) frame.end) _ _ _ _ (λ _. refl)
      (λ q.
      let a = ltb-false (length bs) frame.end q in
      same_ways (leb frame.end at) _ _ _ _ (λ _. same fs at (omega arith))
      (λ p.
      let b = leb-false frame.end at p in
      same_read (O.ends bs (width frame.spot) 0 at frame.end) _ _ _
      (λ to e.
      let w = width_some frame.spot in
      let x = ends_within bs (width frame.spot) 0 at frame.end to e in
      met_same f g frame fs at _ _ to (omega arith) (omega arith) (omega arith) same)))

  -- enough turns are as good as more
  enough : (t u : ℕ) (fs : List Frame) (at : ℕ) → left fs at ≤ t → left fs at ≤ u → walk bs d t fs at ≡ walk bs d u fs at
  enough zero zero fs at h k = refl
  enough zero (suc u) [] at h k = refl
  enough zero (suc u) (frame ∷ fs) at h k = absurd (omega arith)
  enough (suc t) zero [] at h k = refl
  enough (suc t) zero (frame ∷ fs) at h k = absurd (omega arith)
  enough (suc t) (suc u) [] at h k = refl
  enough (suc t) (suc u) (frame ∷ fs) at h k =
      turn_same (walk bs d t) (walk bs d u) frame fs at (λ fs' at' l. enough t u fs' at' (omega arith) (omega arith))

  -- with no holder left there are no rows
  pub rows_none : (at : ℕ) → rows_from bs d [] at ≡ []
  unfolding rows_from
  rows_none at = refl

  -- a walk goes on by turns
  pub rows_turn : (frame : Frame) (fs : List Frame) (at : ℕ) → rows_from bs d (frame ∷ fs) at ≡ turn bs d (rows_from bs d) frame fs at
  unfolding rows_from
  rows_turn frame fs at =
      turn_same (walk bs d (length (frame ∷ fs) + length bs)) (λ fs' at'. walk bs d (suc (length fs' + length bs)) fs' at') frame fs at
      (λ fs' at' l. enough (length (frame ∷ fs) + length bs) (suc (length fs' + length bs)) fs' at' (omega arith) (omega arith))

  module _ (frame : Frame) (fs : List Frame) (at : ℕ) where
    -- a holder that ends past the bytes tells nothing
    pub rows_forged : length bs < frame.end → rows_from bs d (frame ∷ fs) at ≡ []
    rows_forged h = rows_turn frame fs at ∙ first_way (ltb (length bs) frame.end) _ _ (lt-ltb _ _ h) refl

    -- a holder that is done is left
    pub rows_done : frame.end ≤ length bs → frame.end ≤ at → rows_from bs d (frame ∷ fs) at ≡ rows_from bs d fs at
    rows_done h k =
        rows_turn frame fs at
        ∙ other_way (ltb (length bs) frame.end) _ _ (le-ltb _ _ h) (first_way (leb frame.end at) _ _ (le-leb _ _ k) refl)

    -- where a component's header or data go past its holder's end, nothing more is told
    pub rows_past : (e : ReadFault) → frame.end ≤ length bs → at < frame.end → O.ends bs (width frame.spot) 0 at frame.end ≡ Err e
        → rows_from bs d (frame ∷ fs) at ≡ []
    rows_past e h k r =
        rows_turn frame fs at
        ∙ other_way (ltb (length bs) frame.end) _ _ (le-ltb _ _ h)
        (other_way (leb frame.end at) _ _ (lt-leb _ _ k) (rw r))

    -- at a component whose data go from `from` to `to`, the rows are those from it on
    rows_met : (to k : ℕ) → frame.end ≤ length bs → at < frame.end → O.ends bs (width frame.spot) 0 at frame.end ≡ Ok to
        → kind_at frame.spot (get_or bs at 0) ≡ k
        → rows_from bs d (frame ∷ fs) at ≡ met bs d (rows_from bs d) frame fs k (at + suc (width frame.spot)) to
    rows_met to k h l r e =
        rows_turn frame fs at
        ∙ other_way (ltb (length bs) frame.end) _ _ (le-ltb _ _ h)
        (other_way (leb frame.end at) _ _ (lt-leb _ _ l) (rw (r, e)))

    -- an unknown component is passed over
    pub rows_unknown : (to : ℕ) → frame.end ≤ length bs → at < frame.end → O.ends bs (width frame.spot) 0 at frame.end ≡ Ok to
        → kind_at frame.spot (get_or bs at 0) ≡ 0
        → rows_from bs d (frame ∷ fs) at ≡ rows_from bs d (frame ∷ fs) to
    rows_unknown to h l r e = rows_met to 0 h l r e

    -- a component of kind k, whose data go from `from` to `to`
    module _ (to k from : ℕ) (h : frame.end ≤ length bs) (l : at < frame.end) (r : O.ends bs (width frame.spot) 0 at frame.end ≡ Ok to)
        (e : kind_at frame.spot (get_or bs at 0) ≡ k) (z : 0 < k) (f : at + suc (width frame.spot) ≡ from) where
      rows_known : rows_from bs d (frame ∷ fs) at
          ≡ if (ltb to (from + O.least bs (layout k).fields from)) (λ _. [])
          (λ _. if (O.off_globe bs (layout k).fields from) (λ _. [])
          (λ _. if (closed (layout k).inside) (λ _. row_at bs d (length fs) k from to ∷ rows_from bs d (frame ∷ fs) to)
          (λ _. if (leb most_frames (length (frame ∷ fs))) (λ _. [])
          (λ _. row_at bs d (length fs) k from to ∷ rows_from bs d (record { end = to; spot = (layout k).inside } ∷ frame ∷ fs) (from + O.least bs (layout k).fields from)))))
      rows_known =
          rows_met to k h l r e
          ∙ ap (λ (i : ℕ). met bs d (rows_from bs d) frame fs k i to) f
          ∙ other_way (eqb k 0) _ _ (ne_eqb k 0 (omega arith)) refl

      -- its data are too short for its fixed fields
      pub rows_short : to < from + O.least bs (layout k).fields from → rows_from bs d (frame ∷ fs) at ≡ []
      rows_short s = rows_known ∙ first_way (ltb to (from + O.least bs (layout k).fields from)) _ _ (lt-ltb _ _ s) refl

      -- its numbers are off the globe
      pub rows_off : from + O.least bs (layout k).fields from ≤ to → O.off_globe bs (layout k).fields from ≡ true → rows_from bs d (frame ∷ fs) at ≡ []
      rows_off s o =
          rows_known
          ∙ other_way (ltb to (from + O.least bs (layout k).fields from)) _ _ (le-ltb _ _ s)
          (first_way (O.off_globe bs (layout k).fields from) _ _ o refl)

      -- nothing stands in it
      pub rows_leaf : from + O.least bs (layout k).fields from ≤ to → O.off_globe bs (layout k).fields from ≡ false → closed (layout k).inside ≡ true
          → rows_from bs d (frame ∷ fs) at ≡ row_at bs d (length fs) k from to ∷ rows_from bs d (frame ∷ fs) to
      rows_leaf s o c =
          rows_known
          ∙ other_way (ltb to (from + O.least bs (layout k).fields from)) _ _ (le-ltb _ _ s)
          (other_way (O.off_globe bs (layout k).fields from) _ _ o (first_way (closed (layout k).inside) _ _ c refl))

      -- there is no room for another holder
      pub rows_full : from + O.least bs (layout k).fields from ≤ to → O.off_globe bs (layout k).fields from ≡ false → closed (layout k).inside ≡ false → most_frames ≤ length (frame ∷ fs)
          → rows_from bs d (frame ∷ fs) at ≡ []
      rows_full s o c m =
          rows_known
          ∙ other_way (ltb to (from + O.least bs (layout k).fields from)) _ _ (le-ltb _ _ s)
          (other_way (O.off_globe bs (layout k).fields from) _ _ o
          (other_way (closed (layout k).inside) _ _ c
          (first_way (leb most_frames (length (frame ∷ fs))) _ _ (le-leb _ _ m) refl)))

      -- it is a holder, whose parts come next
      pub rows_holder : (start : ℕ) → from + O.least bs (layout k).fields from ≡ start → start ≤ to → O.off_globe bs (layout k).fields from ≡ false → closed (layout k).inside ≡ false
          → length (frame ∷ fs) < most_frames
          → rows_from bs d (frame ∷ fs) at
          ≡ row_at bs d (length fs) k from to ∷ rows_from bs d (record { end = to; spot = (layout k).inside } ∷ frame ∷ fs) start
      rows_holder start b s o c m =
          rows_known
          ∙ other_way (ltb to (from + O.least bs (layout k).fields from)) _ _ (le-ltb _ _ (omega arith))
          (other_way (O.off_globe bs (layout k).fields from) _ _ o
          (other_way (closed (layout k).inside) _ _ c
          (other_way (leb most_frames (length (frame ∷ fs))) _ _ (lt-leb _ _ m)
          (ap (λ (i : ℕ). row_at bs d (length fs) k from to ∷ rows_from bs d (record { end = to; spot = (layout k).inside } ∷ frame ∷ fs) i) b))))

pub room_most : (s : Spot) (n : ℕ) → n ≤ 8 → room s n ≤ most_frames
room_most Descriptions n h = omega arith
room_most Node n h = omega arith
room_most Reference n h = omega arith
room_most Place n h = omega arith
room_most Modes n h = omega arith
room_most Associated n h = omega arith
room_most Nowhere n h = omega arith

deeper_by : (s : Spot) (n : ℕ) → deeper s n ≡ n + deeper s 0
deeper_by Descriptions n = omega arith
deeper_by Node n = omega arith
deeper_by Reference n = omega arith
deeper_by Place n = omega arith
deeper_by Modes n = omega arith
deeper_by Associated n = omega arith
deeper_by Nowhere n = omega arith

-- from a spot to one inside, the room grows by one at least
abbrev grows : Spot → Spot → Bool
grows s t = leb (suc (extra s)) (room t (deeper t 0))

-- and so on every line of the table
abbrev line_grows : Layout → Bool
line_grows l = closed l.inside || (grows l.holder l.inside && grows l.again l.inside)

pub room_grows : (s : Spot) (i k n : ℕ) → kind_at s i ≡ k → 0 < k → closed (layout k).inside ≡ false → suc (room s n) ≤ room (layout k).inside (deeper (layout k).inside n)
room_grows s i k n e z c =
    let by-holder : Bool = grows (layout k).holder (layout k).inside in
    let by-again : Bool = grows (layout k).again (layout k).inside in
    let t : T (by-holder && by-again) = rw c at (line_at line_grows blank tt table tt k) in
    let stands : StandsAt k s = subst (λ (j : ℕ). StandsAt j s) e (found_by_id s i (λ y. absurd (omega arith))).0 in
    let g : T (grows s (layout k).inside) =
    ⊎_elim
    (λ y. subst (λ (x : Spot). T (grows x (layout k).inside)) y (both_left by-holder by-again t))
    (λ y. subst (λ (x : Spot). T (grows x (layout k).inside)) y (both_right by-holder by-again t))
    stands.1 in
    let m = leb→le (suc (extra s)) (room (layout k).inside (deeper (layout k).inside 0)) g in
    let b = deeper_by (layout k).inside n in
    omega arith

module _ (bs : List ℕ) where
  -- a text's language is the same by any turns that are enough, at every level
  pub tail_free : (f g level other : ℕ) (l : Spoken) (i j : ℕ) (told : Spoken) → j - i ≤ f → j - i ≤ g
      → O.tail bs f level l i j ≡ Ok told → O.tail bs g other l i j ≡ Ok told
  tail_free zero zero level other l i j told a b h = h
  tail_free zero (suc g) level other l i j told a b h = first_way (leb j i) _ _ (le-leb j i (omega arith)) h
  tail_free (suc f) zero level other l i j told a b h = rw (le-leb j i (omega arith)) at h
  tail_free (suc f) (suc g) level other l i j told a b h =
      by_cases (leb j i)
      (λ q. first_way (leb j i) _ _ q (rw q at h))
      (λ q.
      let y = leb-false j i q in
      other_way (leb j i) _ _ q
      (by_then (O.ends bs 1 level i j) _ (rw q at h) λ to e h₁.
      let x = ends_within bs 1 level i j to e in
      go_then (O.ends bs 1 other i j) _ (ends_level bs 1 level i j to other e)
      (by_cases (eqb (get_or bs i 0) 0)
      (λ p.
      by_test (heard l) _ _ (rw p at h₁) λ p₁ h₂.
      by_test (not (eqb to (i + 3))) _ _ h₂ λ p₂ h₃.
      rw p
      (pass (heard l) _ _ p₁
      (pass (not (eqb to (i + 3))) _ _ p₂
      (tail_free f g level other (Some (get_or bs (i + 2) 0)) to j told (omega arith) (omega arith) h₃))))
      (λ p. rw p (tail_free f g level other l to j told (omega arith) (omega arith) (rw p at h₁))))))

-- two readings that find the same
same_found : {X Y : Type 0} (r s : Read X) (y : Y) (f : X → Y) → ((x : X) → r ≡ Ok x → s ≡ Ok x) → ((x : X) → s ≡ Ok x → r ≡ Ok x) → read_or r y f ≡ read_or s y f
same_found (Ok x) s y f g h = rw (g x refl)
same_found (Err e) (Ok x) y f g h = absurd (err_ok (h x refl))
same_found (Err e) (Err e') y f g h = refl

-- a text's language by any turns that are enough, at any level
pub language_by : (bs : List ℕ) (d f level from to : ℕ) → to ≤ length bs → to - (from + O.least bs Text from) ≤ f
    → language_at bs d from to ≡ read_or (O.tail bs f level None (from + O.least bs Text from) to) d (λ l. or_else d l)
language_by bs d f level from to h a =
    let i : ℕ = from + O.least bs Text from in
    same_found (O.tail bs (length bs) 0 None i to) (O.tail bs f level None i to) d (λ l. or_else d l)
    (λ l. tail_free bs (length bs) f 0 level None i to l (omega arith) a)
    (λ l. tail_free bs f (length bs) level 0 None i to l a (omega arith))

-- what the readers by offset read by so many turns, the walk tells
record Told (bs : List ℕ) (d g : ℕ) : Type 0 where
  plain : (s : Spot) (level n at end : ℕ) (rows : List Row) (fs : List Frame) → at ≤ end → end ≤ length bs → end - at ≤ g → suc (length fs) ≤ room s n
      → O.parts bs d g s (length fs) level n at end ≡ Ok rows
      → rows_from bs d (record { end = end; spot = s } ∷ fs) at ≡ rows ++ rows_from bs d fs end
  counting : (c level n own at end : ℕ) (rows : List Row) (fs : List Frame) → at ≤ end → end ≤ length bs → end - at < g → suc (length fs) ≤ room Associated n
      → O.nodes bs d g c (length fs) level n own at end ≡ Ok rows
      → rows_from bs d (record { end = end; spot = Associated } ∷ fs) at ≡ rows ++ rows_from bs d fs end
  one : (s : Spot) (k level n at end to : ℕ) (rows : List Row) (fs : List Frame) → at < end → end ≤ length bs
      → O.ends bs (width s) 0 at end ≡ Ok to → to - (at + suc (width s)) < g → suc (length fs) ≤ room s n → kind_at s (get_or bs at 0) ≡ k
      → O.component bs d g k (length fs) level n at (at + suc (width s)) to ≡ Ok rows
      → rows_from bs d (record { end = end; spot = s } ∷ fs) at ≡ rows ++ rows_from bs d (record { end = end; spot = s } ∷ fs) to

module _ (bs : List ℕ) (d : ℕ) where
  -- a holder with nothing left
  at_end : (s : Spot) (at end : ℕ) (rows : List Row) (fs : List Frame) → at ≡ end → end ≤ length bs → ◌≡◌ {A = Read (List Row)} (Ok []) (Ok rows)
      → rows_from bs d (record { end = end; spot = s } ∷ fs) at ≡ rows ++ rows_from bs d fs end
  at_end s at end rows fs e l h =
      rows_done bs d (record { end = end; spot = s }) fs at l (omega arith)
      ∙ ap (rows_from bs d fs) e
      ∙ ap (λ (r : List Row). r ++ rows_from bs d fs end) (ok_ok h)

  -- one component's rows, then the others'
  joined : (first more rows after mid last : List Row) → after ≡ first ++ mid → mid ≡ more ++ last → ◌≡◌ {A = Read (List Row)} (Ok (first ++ more)) (Ok rows)
      → after ≡ rows ++ last
  joined first more rows after mid last a b h =
      a ∙ ap (λ (r : List Row). first ++ r) b ∙ sym (append_assoc first more last) ∙ ap (λ (r : List Row). r ++ last) (ok_ok h)

  -- a text's row
  pub row_text : (depth k from to : ℕ) (language : Spoken) → is_text (layout k).fields ≡ true
      → O.tail bs (length bs) 0 None (from + O.least bs Text from) to ≡ Ok language
      → row_at bs d depth k from to
      ≡ record { depth = depth; kind = k; a = pos 0; b = pos 0; language = or_else d language; text = take (get_or bs from 0) (drop (suc from) bs) }
  row_text depth k from to language t e = rw (t, e)

  -- any other row
  pub row_plain : (depth k from to : ℕ) → is_text (layout k).fields ≡ false
      → row_at bs d depth k from to
      ≡ record { depth = depth; kind = k; a = O.first_number bs (layout k).fields from; b = O.second_number bs (layout k).fields from; language = 0; text = [] }
  row_plain depth k from to t = rw t

  none_left : (g : ℕ) (s : Spot) (depth level n at end : ℕ) (rows : List Row) → end ≤ at → O.parts bs d g s depth level n at end ≡ Ok rows → rows ≡ []
  none_left zero s depth level n at end rows h p = sym (ok_ok p)
  none_left (suc g) s depth level n at end rows h p = sym (ok_ok (rw (le-leb end at h) at p))

  -- nothing stands in a component that ends with its fixed fields
  none_inside : (g k n from to : ℕ) (inner : List Row) (depth level at : ℕ) → closed (layout k).inside ≡ true → to ≡ from + O.least bs (layout k).fields from
      → if (is_count (layout k).fields)
      (λ _. O.nodes bs d g (get_or bs from 0) depth level n at (from + 1) to)
      (λ _. O.parts bs d g (layout k).inside depth level (deeper (layout k).inside n) (from + O.least bs (layout k).fields from) to)
      ≡ Ok inner
      → inner ≡ []
  none_inside g k n from to inner depth level at c full p =
      let q : is_count (layout k).fields ≡ false = sym (counts_agree k) ∙ ap counted (is_nowhere (layout k).inside c) in
      none_left g (layout k).inside depth level (deeper (layout k).inside n) (from + O.least bs (layout k).fields from) to inner (omega arith) (rw q at p)

  module _ (g : ℕ) (told : Told bs d g) where
    plain_step : (s : Spot) (level n at end : ℕ) (rows : List Row) (fs : List Frame) → at ≤ end → end ≤ length bs → end - at ≤ suc g → suc (length fs) ≤ room s n
        → O.parts bs d (suc g) s (length fs) level n at end ≡ Ok rows
        → rows_from bs d (record { end = end; spot = s } ∷ fs) at ≡ rows ++ rows_from bs d fs end
    plain_step s level n at end rows fs h l a r p =
        by_cases (leb end at)
        (λ q. let y = leb-true end at q in at_end s at end rows fs (omega arith) l (rw q at p))
        (λ q.
        let y = leb-false end at q in
        by_then (O.ends bs (width s) level at end) _ (rw q at p) λ to e p₁.
        by_then (O.component bs d g (kind_at s (get_or bs at 0)) (length fs) level n at (at + suc (width s)) to) _ p₁ λ first e₁ p₂.
        by_then (O.parts bs d g s (length fs) level n to end) _ p₂ λ more e₂ p₃.
        let x = ends_within bs (width s) level at end to e in
        let w = width_some s in
        joined first more rows _ _ _
        (told.one s (kind_at s (get_or bs at 0)) level n at end to first fs y l (ends_level bs (width s) level at end to 0 e) (omega arith) r refl e₁)
        (told.plain s level n to end more fs (omega arith) l (omega arith) r e₂)
        p₃)

    counting_step : (c level n own at end : ℕ) (rows : List Row) (fs : List Frame) → at ≤ end → end ≤ length bs → end - at < suc g
        → suc (length fs) ≤ room Associated n → O.nodes bs d (suc g) c (length fs) level n own at end ≡ Ok rows
        → rows_from bs d (record { end = end; spot = Associated } ∷ fs) at ≡ rows ++ rows_from bs d fs end
    counting_step c level n own at end rows fs h l a r p =
        by_cases (eqb c 0)
        (λ q.
        by_cases (eqb at end)
        (λ q₁. at_end Associated at end rows fs (eqb-true at end q₁) l (rw q₁ at (rw q at p)))
        (λ q₁. absurd (err_ok (rw q₁ at (rw q at p)))))
        (λ q.
        by_test (leb end at) _ _ (rw q at p) λ q₁ p₁.
        by_then (O.ends bs 2 level at end) _ p₁ λ to e p₂.
        by_test (not (eqb (get_or bs at 0) 2)) _ _ p₂ λ q₂ p₃.
        by_then (O.component bs d g 1 (length fs) level n at (at + 3) to) _ p₃ λ first e₁ p₄.
        by_then (O.nodes bs d g (c - 1) (length fs) level n own to end) _ p₄ λ more e₂ p₅.
        let y = leb-false end at q₁ in
        let x = ends_within bs 2 level at end to e in
        joined first more rows _ _ _
        (told.one Associated 1 level n at end to first fs y l (ends_level bs 2 level at end to 0 e) (omega arith) r (node_kind (get_or bs at 0) q₂) e₁)
        (told.counting (c - 1) level n own to end more fs (omega arith) l (omega arith) r e₂)
        p₅)

    -- what stands in a holder that is no text
    inner_told : (fields : Fields) (inside : Spot) (level n at from to : ℕ) (inner : List Row) (fs : List Frame) → counted inside ≡ is_count fields
        → from + O.least bs fields from ≤ to → to ≤ length bs → to - from ≤ g → suc (length fs) ≤ room inside (deeper inside n)
        → if (is_count fields)
        (λ _. O.nodes bs d g (get_or bs from 0) (length fs) level n at (from + 1) to)
        (λ _. O.parts bs d g inside (length fs) level (deeper inside n) (from + O.least bs fields from) to)
        ≡ Ok inner
        → rows_from bs d (record { end = to; spot = inside } ∷ fs) (from + O.least bs fields from) ≡ inner ++ rows_from bs d fs to
    inner_told fields inside level n at from to inner fs agree h l a m p =
        by_cases (is_count fields)
        (λ q.
        let c = count_of fields q in
        let o = associated_of inside (agree ∙ q) in
        let h' : from + 1 ≤ to = subst (λ (x : Fields). from + O.least bs x from ≤ to) c h in
        let m' : suc (length fs) ≤ room Associated n = subst (λ (x : Spot). suc (length fs) ≤ room x (deeper x n)) o m in
        rw (c, o) (told.counting (get_or bs from 0) level n at (from + 1) to inner fs h' l (omega arith) m' (rw q at p)))
        (λ q. told.plain inside level (deeper inside n) (from + O.least bs fields from) to inner fs h l (omega arith) m (rw q at p))

    one_step : (s : Spot) (k level n at end to : ℕ) (rows : List Row) (fs : List Frame) → at < end → end ≤ length bs
        → O.ends bs (width s) 0 at end ≡ Ok to → to - (at + suc (width s)) < suc g → suc (length fs) ≤ room s n → kind_at s (get_or bs at 0) ≡ k
        → O.component bs d (suc g) k (length fs) level n at (at + suc (width s)) to ≡ Ok rows
        → rows_from bs d (record { end = end; spot = s } ∷ fs) at ≡ rows ++ rows_from bs d (record { end = end; spot = s } ∷ fs) to
    one_step s k level n at end to rows fs h l r a m e p =
        let frame : Frame = record { end = end; spot = s } in
        let from : ℕ = at + suc (width s) in
        let start : ℕ = from + O.least bs (layout k).fields from in
        let x = ends_within bs (width s) 0 at end to r in
        by_cases (eqb k 0)
        (λ q. rows_unknown bs d frame fs at to l h r (e ∙ eqb-true k 0 q) ∙ ap (λ (rs : List Row). rs ++ rows_from bs d (frame ∷ fs) to) (ok_ok (rw q at p)))
        (λ q.
        let some = eqb-false k 0 q in
        by_test (ltb 8 (deeper (layout k).inside n)) _ _ (rw q at p) λ q₁ p₁.
        by_test (ltb to start) _ _ p₁ λ q₂ p₂.
        by_test (O.ends_there (layout k) && not (eqb to start)) _ _ p₂ λ q₃ p₃.
        by_test (O.off_globe bs (layout k).fields from) _ _ p₃ λ q₄ p₄.
        let fits = ltb-false to start q₂ in
        by_cases (is_text (layout k).fields)
        (λ t.
        by_then (O.tail bs g (suc level) None (from + O.least bs Text from) to) _ (rw t at p₄) λ language e₁ p₅.
        rows_leaf bs d frame fs at to k from l h r e (omega arith) refl fits q₄ (text_closed k t)
        ∙ ap (λ (row : Row). row ∷ rows_from bs d (frame ∷ fs) to)
        (row_text (length fs) k from to language t (tail_free bs g (length bs) (suc level) 0 None (from + O.least bs Text from) to language (omega arith) (omega arith) e₁))
        ∙ ap (λ (rs : List Row). rs ++ rows_from bs d (frame ∷ fs) to) (ok_ok p₅))
        (λ t.
        by_then
        (if (is_count (layout k).fields)
        (λ _. O.nodes bs d g (get_or bs from 0) (suc (length fs)) (suc level) n at (from + 1) to)
        (λ _. O.parts bs d g (layout k).inside (suc (length fs)) (suc level) (deeper (layout k).inside n) start to))
        _ (rw t at p₄) λ inner e₁ p₅.
        let rest : List Row = rows_from bs d (frame ∷ fs) to in
        let row : Row = row_at bs d (length fs) k from to in
        let last : row ∷ (inner ++ rest) ≡ rows ++ rest =
        ap (λ (y : Row). y ∷ (inner ++ rest)) (row_plain (length fs) k from to t) ∙ ap (λ (rs : List Row). rs ++ rest) (ok_ok p₅) in
        by_cases (closed (layout k).inside)
        (λ c.
        let full : to ≡ start = eqb-true to start (not-false _ (rw (c, t) at q₃)) in
        rows_leaf bs d frame fs at to k from l h r e (omega arith) refl fits q₄ c
        ∙ ap (λ (rs : List Row). row ∷ (rs ++ rest)) (sym (none_inside g k n from to inner (suc (length fs)) (suc level) at c full e₁))
        ∙ last)
        (λ c.
        let grown = room_grows s (get_or bs at 0) k n e (omega arith) c in
        let most = room_most (layout k).inside (deeper (layout k).inside n) (ltb-false 8 _ q₁) in
        rows_holder bs d frame fs at to k from l h r e (omega arith) refl start refl fits q₄ c (omega arith)
        ∙ ap (λ (rs : List Row). row ∷ rs) (inner_told (layout k).fields (layout k).inside (suc level) n at from to inner (frame ∷ fs) (counts_agree k) fits (omega arith) (omega arith) (omega arith) e₁)
        ∙ last)))

all_told : (bs : List ℕ) (d g : ℕ) → Told bs d g
all_told bs d zero =
    record {
      plain = λ s level n at end rows fs h l a m p. at_end bs d s at end rows fs (omega arith) l p;
      counting = λ c level n own at end rows fs h l a. absurd (omega arith);
      one = λ s k level n at end to rows fs h l r a. absurd (omega arith);
    }
all_told bs d (suc g) = record { plain = plain_step bs d g (all_told bs d g); counting = counting_step bs d g (all_told bs d g); one = one_step bs d g (all_told bs d g) }

-- where the descriptions' data stand
module _ (bs : List ℕ) where
  seek_enough : (f g at : ℕ) → length bs - at ≤ f → length bs - at ≤ g → seek bs f at ≡ seek bs g at
  seek_enough zero zero at a b = refl
  seek_enough zero (suc g) at a b = sym (first_way (leb (length bs) at) _ _ (le-leb (length bs) at (omega arith)) refl)
  seek_enough (suc f) zero at a b = first_way (leb (length bs) at) _ _ (le-leb (length bs) at (omega arith)) refl
  seek_enough (suc f) (suc g) at a b =
      same_ways (leb (length bs) at) _ _ _ _ (λ _. refl)
      (λ q.
      let y = leb-false (length bs) at q in
      same_read (O.ends bs 2 0 at (length bs)) _ _ _
      (λ to e.
      let x = ends_within bs 2 0 at (length bs) to e in
      same_ways (eqb (get_or bs at 0) 1) _ _ _ _ (λ _. refl) (λ _. seek_enough f g to (omega arith) (omega arith))))

  -- at the end of the bytes there are none
  pub data_none : (at : ℕ) → length bs ≤ at → data_from bs at ≡ no_stretch
  unfolding data_from
  data_none at h = first_way (leb (length bs) at) _ _ (le-leb _ _ h) refl

  -- nor where a component goes past that end
  pub data_past : (at : ℕ) (e : ReadFault) → at < length bs → O.ends bs 2 0 at (length bs) ≡ Err e → data_from bs at ≡ no_stretch
  unfolding data_from
  data_past at e h r = other_way (leb (length bs) at) _ _ (lt-leb _ _ h) (rw r)

  -- the descriptions' own component
  pub data_here : (at to : ℕ) → at < length bs → O.ends bs 2 0 at (length bs) ≡ Ok to → get_or bs at 0 ≡ 1
      → data_from bs at ≡ record { start = at + 3; end = to }
  unfolding data_from
  data_here at to h r e = other_way (leb (length bs) at) _ _ (lt-leb _ _ h) (rw (r, e))

  -- another is passed over
  pub data_other : (at to : ℕ) → at < length bs → O.ends bs 2 0 at (length bs) ≡ Ok to → (get_or bs at 0 ≡ 1 → ⊥) → data_from bs at ≡ data_from bs to
  unfolding data_from
  data_other at to h r e =
      let x = ends_within bs 2 0 at (length bs) to r in
      other_way (leb (length bs) at) _ _ (lt-leb _ _ h)
      (rw (r, ne_eqb (get_or bs at 0) 1 e) (seek_enough (length bs) (suc (length bs)) to (omega arith) (omega arith)))

module _ (bs : List ℕ) (d : ℕ) where
  -- the rows of the descriptions whose data stand there
  abbrev told_in : Stretch → List Row
  told_in st = rows_from bs d (record { end = st.end; spot = Descriptions } ∷ []) st.start

  told_none : told_in no_stretch ≡ []
  told_none = rows_done bs d (record { end = 0; spot = Descriptions }) [] 0 (omega arith) (omega arith) ∙ rows_none bs d 0

  -- after the descriptions nothing is told
  tops_seen : (f at : ℕ) (rows : List Row) → O.tops bs d f true at ≡ Ok rows → rows ≡ []
  tops_seen zero at rows p = sym (ok_ok p)
  tops_seen (suc f) at rows p =
      by_cases (leb (length bs) at)
      (λ q. sym (ok_ok (rw q at p)))
      (λ q.
      by_then (O.ends bs 2 0 at (length bs)) _ (rw q at p) λ to e p₁.
      by_cases (eqb (get_or bs at 0) 1)
      (λ q₁. absurd (err_ok (rw q₁ at p₁)))
      (λ q₁. tops_seen f to rows (rw q₁ at p₁)))

  tops_told : (f at : ℕ) (rows : List Row) → O.tops bs d f false at ≡ Ok rows → told_in (seek bs f at) ≡ rows
  tops_told zero at rows p = told_none ∙ ok_ok p
  tops_told (suc f) at rows p =
      by_cases (leb (length bs) at)
      (λ q. ap told_in (first_way (leb (length bs) at) _ _ q refl) ∙ told_none ∙ ok_ok (rw q at p))
      (λ q.
      by_then (O.ends bs 2 0 at (length bs)) _ (rw q at p) λ to e p₁.
      let x = ends_within bs 2 0 at (length bs) to e in
      by_cases (eqb (get_or bs at 0) 1)
      (λ q₁.
      by_then (O.parts bs d (2 * length bs) Descriptions 0 1 0 (at + 3) to) _ (rw q₁ at p₁) λ first e₁ p₂.
      by_then (O.tops bs d f true to) _ p₂ λ more e₂ p₃.
      ap told_in (other_way (leb (length bs) at) _ _ q (rw (e, q₁)))
      ∙ (all_told bs d (2 * length bs)).plain Descriptions 1 0 (at + 3) to first [] (omega arith) (omega arith) (omega arith) (omega arith) e₁
      ∙ ap (λ (rs : List Row). first ++ rs) (rows_none bs d to ∙ sym (tops_seen f to more e₂))
      ∙ ok_ok p₃)
      (λ q₁. ap told_in (other_way (leb (length bs) at) _ _ q (rw (e, q₁))) ∙ tops_told f to rows (rw q₁ at p₁)))

-- the walk tells what is read
pub walk_tells : WalkTells
unfolding data_from
walk_tells bs rows h =
    by_test (ltb 65535 (length bs)) _ _ h λ q h₁.
    by_test (eqb (length bs) 0) _ _ h₁ λ q₁ h₂.
    ap (told_in bs (get_or bs 0 0)) (seek_enough bs (suc (length bs)) (length bs) 1 (omega arith) (omega arith)) ∙ tops_told bs (get_or bs 0 0) (length bs) 1 rows h₂
