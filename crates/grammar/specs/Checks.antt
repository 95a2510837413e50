-- What checking counts: the rows of the reading by offset, part by part, with turns enough for the bytes.
use Rattle.std.specs.Prelude.{ℕ, suc, ◌+◌, ◌-◌, Bool, true, false, not, ◌&&◌, List, length, Some, None, Ok, Err, Option, ◌==◌, nat_lt, slice_index}
use Rattle.grammar.specs.declared.fault.ReadFault.TheVariants.{WrongSize, OffGlobe}
use Rattle.grammar.specs.declared.table.Spot.{Spot}
use Rattle.grammar.specs.declared.table.Spot.TheVariants.{Descriptions, Node, Reference, Place, Modes, Associated, Nowhere}
use Rattle.grammar.specs.declared.table.Fields.{Fields}
use Rattle.grammar.specs.declared.table.Layout.{Layout}
use Rattle.grammar.specs.Grammar.{Rows}
use Rattle.grammar.specs.Reading.{Read, then, if, Spoken, is_text}
use Rattle.grammar.specs.Offsets as O

-- how many rows were read
abbrev pub many : Read Rows → Read ℕ
many (Ok rows) = Ok (length rows)
many (Err e) = Err e

-- so many rows, and those still to be read
abbrev pub plus : ℕ → Read ℕ → Read ℕ
plus m (Ok n) = Ok (m + n)
plus m (Err e) = Err e

module _ (bs : List ℕ) where
  -- the language of the text's components from `at` to `end`
  unfoldable pub tail_of : ℕ → Spoken → ℕ → ℕ → Read Spoken
  tail_of level l at end = O.tail bs (suc (end - at)) level l at end

  -- the rows of the parts from `at` to `end`, which stand at s, at this level, inside n nodes
  unfoldable pub parts_of : Spot → ℕ → ℕ → ℕ → ℕ → Read ℕ
  parts_of s level n at end = many (O.parts bs (slice_index bs 0) (suc (end - at)) s (level - 1) level n at end)

  -- those of exactly c nodes, in the associated modes at `own`
  unfoldable pub nodes_of : ℕ → ℕ → ℕ → ℕ → ℕ → ℕ → Read ℕ
  nodes_of c level n own at end = many (O.nodes bs (slice_index bs 0) (suc (end - at)) c (level - 1) level n own at end)

  -- those of the component of kind k at `at`, whose data go from `from` to `to`
  unfoldable pub component_of : ℕ → ℕ → ℕ → ℕ → ℕ → ℕ → Read ℕ
  component_of k level n at from to = many (O.component bs (slice_index bs 0) (suc (to - from)) k (level - 1) level n at from to)

  -- those of the container's components from `at` on
  unfoldable pub tops_of : Bool → ℕ → Read ℕ
  tops_of seen at = many (O.tops bs (slice_index bs 0) (suc (length bs - at)) seen at)

  -- the bytes of the fields from `from` on, if they end before `to`
  abbrev pub room_for : Fields → ℕ → ℕ → Option ℕ
  room_for f from to = if (nat_lt to (from + O.least bs f from)) (λ _. None) (λ _. Some (O.least bs f from))

  -- where the parts begin, past the fixed fields of the component at `at`
  abbrev pub fields_of : Layout → ℕ → ℕ → ℕ → ℕ → Read ℕ
  fields_of l level at from to =
      if (nat_lt to (from + O.least bs l.fields from)) (λ _. Err (WrongSize at level))
      (λ _. if (O.ends_there l && not (to == from + O.least bs l.fields from)) (λ _. Err (WrongSize at level))
      (λ _. if (O.off_globe bs l.fields from) (λ _. Err (OffGlobe at level)) (λ _. Ok (from + O.least bs l.fields from))))

  -- the same past a text's own components too
  abbrev pub data_of : Layout → ℕ → ℕ → ℕ → ℕ → Read ℕ
  data_of l level at from to =
      then (fields_of l level at from to)
      (λ a. if (is_text l.fields) (λ _. then (tail_of (suc level) None a to) (λ _. Ok to)) (λ _. Ok a))

-- a spot whose components hold no components of their own
abbrev pub leafy : Spot → Bool
leafy Descriptions = false
leafy Node = false
leafy Reference = true
leafy Place = true
leafy Modes = true
leafy Associated = false
leafy Nowhere = true
