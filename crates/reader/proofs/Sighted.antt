-- The rows of a mark, by what stands at its place.
-- Assumes nothing.
use Rattle.std.proofs.Common.{◌≡◌, ℕ, zero, suc, ◌+◌, ◌-◌, ◌<◌, ◌≤◌, true, false, leb, List, [], ◌∷◌, length, get_or, take, drop, pos, Option, Some, None, Ok, Err, sym, refl, ap, ◌∙◌, ap₂, arith, length-drop, length-take, leb-false, leb-true}
use Rattle.std.specs.Option.{option_map}
use Rattle.grammar.specs.declared.fault.ReadFault.{ReadFault}
use Rattle.grammar.specs.Format.{layout, width, kind_at}
use borrow.Author.Tests.{lt-leb}
use Rattle.grammar.specs.Grammar.{Rows, Row as Told}
use Rattle.grammar.specs.Reading.{Read, Spoken, if, closed, or_else, is_text}
use Rattle.grammar.specs.Offsets as O
use Rattle.grammar.specs.declared.table.Fields.TheVariants.{Text}
use Rattle.grammar.specs.Checks.{tail_of}
use Rattle.grammar.specs.Walk.{rows_from, row_at, language_at, read_or, Frame as Holder}
use Rattle.grammar.proofs.Walked.{rows_none, rows_forged, rows_done, rows_past, rows_unknown, rows_short, rows_off, rows_leaf, rows_full, rows_holder, language_by, first_way, other_way}
use Rattle.reader.specs.declared.marks.Frame.{Frame}
use Rattle.reader.specs.declared.marks.Mark.{Mark}
use Rattle.reader.specs.Marks.{rows_at, stack, blank_frame}
use Rattle.grammar.specs.declared.table.Fields.{Fields}
use Rattle.grammar.proofs.Sound.{text_of}
use Rattle.location.specs.Answers.{seen}
use Rattle.reader.specs.declared.standings.Standing.{Standing}
use Rattle.reader.specs.declared.standings.Standing.TheVariants.{Known, Unknown}
use Rattle.reader.specs.Stands.{stands_at, language_in}
use Rattle.reader.proofs.Stood.{stand_each, known_each, language_here}
use Rattle.grammar.specs.declared.table.Spot.{Spot}
use Rattle.grammar.proofs.Cut.{by_cases}
use Rattle.grammar.proofs.Steps.{ends_within}
use Rattle.reader.specs.declared.sights.Sight.{Sight}
use Rattle.reader.specs.Seen.{Roomy, Within, rows_beyond, told_row}
use Rattle.reader.proofs.Stacked.{stack_length}

stack_top : (fs : List Frame) (n : ℕ) → 0 < n
    → stack fs n ≡ record { end = (get_or fs (n - 1) blank_frame).end; spot = (get_or fs (n - 1) blank_frame).spot } ∷ stack fs (n - 1)
stack_top fs zero h = absurd (omega arith)
stack_top fs (suc n) h = let e : suc n - 1 ≡ n = omega arith in rw e

-- no holder is left
pub mark_out : (bs : List ℕ) (m : Mark) → m.held ≡ 0 → rows_at bs m ≡ []
mark_out bs m h = ap (λ (n : ℕ). rows_from bs (get_or bs 0 0) (stack m.frames n) m.at) h ∙ rows_none bs (get_or bs 0 0) m.at

-- the rows from a mark on, by what stands there
abbrev pub after : List ℕ → Mark → Option Standing → Rows
after bs m None = []
after bs m (Some (Unknown to)) = rows_at bs (record { at = to; held = m.held; frames = m.frames })
after bs m (Some (Known c)) =
    if (closed (layout c.kind).inside)
    (λ _. row_at bs (get_or bs 0 0) (m.held - 1) c.kind c.from c.stop ∷ rows_at bs (record { at = c.stop; held = m.held; frames = m.frames }))
    (λ _. if (leb 17 m.held) (λ _. [])
    (λ _. row_at bs (get_or bs 0 0) (m.held - 1) c.kind c.from c.stop
    ∷ rows_from bs (get_or bs 0 0) (record { end = c.stop; spot = (layout c.kind).inside } ∷ stack m.frames m.held) c.inside))

module _ (bs : List ℕ) (m : Mark) (f : Frame) (some : 0 < m.held) (is-top : f ≡ get_or m.frames (m.held - 1) blank_frame) where
  innermost : Holder
  innermost = record { end = f.end; spot = f.spot }

  top_is : stack m.frames m.held ≡ record { end = f.end; spot = f.spot } ∷ stack m.frames (m.held - 1)
  top_is =
      stack_top m.frames m.held some
      ∙ ap (λ (x : Frame). record { end = x.end; spot = x.spot } ∷ stack m.frames (m.held - 1)) (sym is-top)

  opened : rows_at bs m ≡ rows_from bs (get_or bs 0 0) (record { end = f.end; spot = f.spot } ∷ stack m.frames (m.held - 1)) m.at
  opened = ap (λ (fs : List Holder). rows_from bs (get_or bs 0 0) fs m.at) top_is

  -- a holder that ends past the bytes
  pub mark_forged : length bs < f.end → rows_at bs m ≡ []
  mark_forged h = opened ∙ rows_forged bs (get_or bs 0 0) _ _ m.at h

  -- a holder that is done
  pub mark_done : f.end ≤ length bs → f.end ≤ m.at → rows_at bs (record { at = m.at; held = m.held - 1; frames = m.frames }) ≡ rows_at bs m
  mark_done h k = sym (opened ∙ rows_done bs (get_or bs 0 0) _ _ m.at h k)

  module _ (h : f.end ≤ length bs) (k : m.at < f.end) where
    pub mark_past : (e : ReadFault) → O.ends bs (width f.spot) 0 m.at f.end ≡ Err e → rows_at bs m ≡ []
    mark_past e q = opened ∙ rows_past bs (get_or bs 0 0) _ _ m.at e h k q

    pub mark_unknown : (to : ℕ) → O.ends bs (width f.spot) 0 m.at f.end ≡ Ok to → kind_at f.spot (get_or bs m.at 0) ≡ 0
        → rows_at bs (record { at = to; held = m.held; frames = m.frames }) ≡ rows_at bs m
    mark_unknown to q z =
        sym (opened ∙ rows_unknown bs (get_or bs 0 0) _ _ m.at to h k q z ∙ ap (λ (fs : List Holder). rows_from bs (get_or bs 0 0) fs to) (sym top_is))

    -- a known component, whose data go from `from` to `to`
    module _ (to kind from : ℕ) (q : O.ends bs (width f.spot) 0 m.at f.end ≡ Ok to) (e : kind_at f.spot (get_or bs m.at 0) ≡ kind) (z : 0 < kind)
        (i : m.at + suc (width f.spot) ≡ from) where
      depth_is : length (stack m.frames (m.held - 1)) ≡ m.held - 1
      depth_is = stack_length m.frames (m.held - 1)

      sight_short : to < from + O.least bs (layout kind).fields from → rows_at bs m ≡ []
      sight_short s = opened ∙ rows_short bs (get_or bs 0 0) _ _ m.at to kind from h k q e z i s

      module _ (fit : from + O.least bs (layout kind).fields from ≤ to) where
        sight_off : O.off_globe bs (layout kind).fields from ≡ true → rows_at bs m ≡ []
        sight_off o = opened ∙ rows_off bs (get_or bs 0 0) _ _ m.at to kind from h k q e z i fit o

        module _ (o : O.off_globe bs (layout kind).fields from ≡ false) where
          sight_leaf : closed (layout kind).inside ≡ true
              → rows_at bs m ≡ row_at bs (get_or bs 0 0) (m.held - 1) kind from to ∷ rows_at bs (record { at = to; held = m.held; frames = m.frames })
          sight_leaf c =
              opened
              ∙ rows_leaf bs (get_or bs 0 0) _ _ m.at to kind from h k q e z i fit o c
              ∙ ap₂ (λ (n : ℕ) (fs : List Holder). row_at bs (get_or bs 0 0) n kind from to ∷ rows_from bs (get_or bs 0 0) fs to) depth_is (sym top_is)

          sight_full : closed (layout kind).inside ≡ false → 17 ≤ m.held → rows_at bs m ≡ []
          sight_full c l = let d = depth_is in opened ∙ rows_full bs (get_or bs 0 0) _ _ m.at to kind from h k q e z i fit o c (omega arith)

          sight_holder : closed (layout kind).inside ≡ false → m.held < 17
              → rows_at bs m
              ≡ row_at bs (get_or bs 0 0) (m.held - 1) kind from to
              ∷ rows_from bs (get_or bs 0 0) (record { end = to; spot = (layout kind).inside } ∷ stack m.frames m.held) (from + O.least bs (layout kind).fields from)
          sight_holder c l =
              let d = depth_is in
              opened
              ∙ rows_holder bs (get_or bs 0 0) _ _ m.at to kind from h k q e z i _ refl fit o c (omega arith)
              ∙ ap₂ (λ (n : ℕ) (fs : List Holder). row_at bs (get_or bs 0 0) n kind from to
              ∷ rows_from bs (get_or bs 0 0) (record { end = to; spot = (layout kind).inside } ∷ fs) (from + O.least bs (layout kind).fields from)) d (sym top_is)

          sight_known : rows_at bs m ≡ after bs m (Some (Known (record { kind = kind; from = from; inside = from + O.least bs (layout kind).fields from; stop = to })))
          sight_known =
              by_cases (closed (layout kind).inside)
              (λ c. sight_leaf c ∙ sym (first_way (closed (layout kind).inside) _ _ c refl))
              (λ c.
              by_cases (leb 17 m.held)
              (λ l. sight_full c (leb-true 17 m.held l) ∙ sym (other_way (closed (layout kind).inside) _ _ c (first_way (leb 17 m.held) _ _ l refl)))
              (λ l. sight_holder c (leb-false 17 m.held l) ∙ sym (other_way (closed (layout kind).inside) _ _ c (other_way (leb 17 m.held) _ _ l refl))))

    pub rows_standing : rows_at bs m ≡ after bs m (stands_at bs f.spot m.at f.end)
    rows_standing =
        stand_each bs f.spot m.at f.end h k (λ r. rows_at bs m ≡ after bs m r)
        mark_past
        (λ to q z. sym (mark_unknown to q z))
        (λ to q z.
        known_each bs (kind_at f.spot (get_or bs m.at 0)) (m.at + suc (width f.spot)) to (λ r. rows_at bs m ≡ after bs m (option_map Known r))
        (sight_short to _ _ q refl z refl)
        (sight_off to _ _ q refl z refl)
        (sight_known to _ _ q refl z refl))

-- the row of a known component, and the rows past it, where the mark has room for one holder more
pub rows_seen : (bs : List ℕ) (m : Mark) (s : Sight) → s.depth ≡ m.held - 1
    → rows_at bs m ≡ after bs m (Some (Known (record { kind = s.kind; from = s.from; inside = s.inside; stop = s.stop }))) → Roomy m s
    → rows_at bs m ≡ told_row bs s ∷ rows_beyond bs m s
rows_seen bs m s d e r =
    let named = ap (λ (n : ℕ). row_at bs (get_or bs 0 0) n s.kind s.from s.stop) (sym d) in
    by_cases (closed (layout s.kind).inside)
    (λ c.
    e ∙ first_way (closed (layout s.kind).inside) _ _ c refl
    ∙ ap₂ (λ (x : Told) (xs : Rows). x ∷ xs) named (sym (first_way (closed (layout s.kind).inside) _ _ c refl)))
    (λ c.
    e ∙ other_way (closed (layout s.kind).inside) _ _ c (other_way (leb 17 m.held) _ _ (lt-leb 17 m.held (r c)) refl)
    ∙ ap₂ (λ (x : Told) (xs : Rows). x ∷ xs) named (sym (other_way (closed (layout s.kind).inside) _ _ c refl)))

-- what stands at a place moves on, and keeps to the bytes
abbrev pub Kept : List ℕ → ℕ → Option Standing → Type 0
Kept bs at None = Unit {0}
Kept bs at (Some (Unknown to)) = (at < to) × (to ≤ length bs)
Kept bs at (Some (Known c)) =
    (c.from + O.least bs (layout c.kind).fields c.from ≤ c.stop) × (c.stop ≤ length bs)
    × (O.off_globe bs (layout c.kind).fields c.from ≡ false)

pub kept : (bs : List ℕ) (s : Spot) (at end : ℕ) → end ≤ length bs → at < end → Kept bs at (stands_at bs s at end)
kept bs s at end h k =
    stand_each bs s at end h k (Kept bs at) (λ e q. tt)
    (λ to q z. let w = ends_within bs (width s) 0 at end to q in (omega arith, omega arith))
    (λ to q z.
    let w = ends_within bs (width s) 0 at end to q in
    known_each bs (kind_at s (get_or bs at 0)) (at + suc (width s)) to (λ r. Kept bs at (option_map Known r)) (λ t. tt) (λ t o. tt) (λ t o. (t, omega arith, o)))

-- the language of a text, by its own components
pub language_said : (bs : List ℕ) (d from to : ℕ) → to ≤ length bs → or_else d (language_in bs (from + O.least bs Text from) to) ≡ language_at bs d from to
unfolding tail_of
language_said bs d from to h =
    ap (or_else d) (language_here bs (from + O.least bs Text from) to h) ∙ said (tail_of bs 0 None (from + O.least bs Text from) to)
    ∙ sym (language_by bs d (suc (to - (from + O.least bs Text from))) 0 from to h (omega arith))
  where
    said : (r : Read Spoken) → or_else d (read_or r None (λ l. l)) ≡ read_or r d (λ l. or_else d l)
    said (Ok l) = refl
    said (Err e) = refl

-- the text of a row of text
module _ (bs : List ℕ) (s : Sight) (text : is_text (layout s.kind).fields ≡ true) (w : Within bs s) where
  pub text_fits : s.from + 1 + get_or bs s.from 0 ≤ length bs
  text_fits =
      let e : O.least bs (layout s.kind).fields s.from ≡ 1 + get_or bs s.from 0 = ap (λ (f : Fields). O.least bs f s.from) (text_of (layout s.kind).fields text) in
      omega (arith, w.fields, w.within)

  pub text_told : told_row bs s
      ≡ record { depth = s.depth; kind = s.kind; a = pos 0; b = pos 0; language = language_at bs (get_or bs 0 0) s.from s.stop; text = take (get_or bs s.from 0) (drop (suc s.from) bs) }
  text_told = rw text

  text_long : length (take (get_or bs s.from 0) (drop (suc s.from) bs)) ≡ get_or bs s.from 0
  text_long = let f = text_fits in simp (length-take, length-drop) (omega arith)

  pub text_row : (language : ℕ) → language ≡ language_at bs (get_or bs 0 0) s.from s.stop
      → record { depth = s.depth; kind = s.kind; a = pos 0; b = pos 0; language = language; length = get_or bs s.from 0 } ≡ seen (told_row bs s)
  text_row language e = rw (text_told, text_long, e)
