-- The rows of a container from mark to mark: one row at a time, with the holders that are not done yet on a stack.
use Rattle.std.specs.Prelude.{ℕ, zero, suc, ◌+◌, ◌*◌, List, [], ◌∷◌, length, take, drop, pos, None, Ok, Err, ◌==◌, nat_le, nat_lt, slice_index}
use Rattle.grammar.specs.declared.table.Spot.{Spot}
use Rattle.grammar.specs.declared.table.Spot.TheVariants.{Descriptions, Node, Reference, Place, Modes, Associated, Nowhere}
use Rattle.grammar.specs.declared.table.Fields.TheVariants.{Text}
use Rattle.grammar.specs.Format.{width, layout, kind_at}
use Rattle.grammar.specs.Grammar.{Row}
use Rattle.grammar.specs.Reading.{Read, if, or_else, is_text, closed}
use Rattle.grammar.specs.Offsets as O

-- A holder that is not done yet.
pub record Frame : Type 0 where
  -- where its data end
  pub end : ℕ
  -- where its parts stand
  pub spot : Spot

-- The most holders that a row of a legal container has around it, the descriptions among them.
abbrev pub most_frames : ℕ
most_frames = 17

-- what a spot adds to two holders for each node
abbrev pub extra : Spot → ℕ
extra Descriptions = 1
extra Node = 0
extra Reference = 1
extra Place = 1
extra Modes = 1
extra Associated = 1
extra Nowhere = 0

-- The most holders around what stands at a spot inside n nodes, the one it stands in among them.
abbrev pub room : Spot → ℕ → ℕ
room s n = 2 * n + extra s

-- what was read, or else this value where it is faulty
abbrev pub read_or : {X Y : Type 0} → Read X → Y → (X → Y) → Y
read_or (Ok x) y f = f x
read_or (Err e) y f = y

module _ (bs : List ℕ) (default : ℕ) where
  -- the language of a text whose data go from `from` to `to`: its language part, or else the default, also where its components are faulty
  abbrev pub language_at : (from to : ℕ) → ℕ
  language_at from to = read_or (O.tail bs (length bs) 0 None (from + O.least bs Text from) to) default (λ l. or_else default l)

  -- the row of kind k whose data go from `from` to `to`, inside so many holders
  abbrev pub row_at : (depth k from to : ℕ) → Row
  row_at depth k from to =
      if (is_text (layout k).fields)
      (λ _. record { depth = depth; kind = k; a = pos 0; b = pos 0; language = language_at from to; text = take (slice_index bs from) (drop (suc from) bs) })
      (λ _. record { depth = depth; kind = k; a = O.first_number bs (layout k).fields from; b = O.second_number bs (layout k).fields from; language = 0; text = [] })

  -- the rows from the component of kind k on, whose data go from `from` to `to`; `next` tells what follows
  abbrev pub met : (next : List Frame → ℕ → List Row) (frame : Frame) (fs : List Frame) (k from to : ℕ) → List Row
  met next frame fs k from to =
      if (k == 0) (λ _. next (frame ∷ fs) to)
      (λ _. if (nat_lt to (from + O.least bs (layout k).fields from)) (λ _. [])
      (λ _. if (O.off_globe bs (layout k).fields from) (λ _. [])
      (λ _. if (closed (layout k).inside) (λ _. row_at (length fs) k from to ∷ next (frame ∷ fs) to)
      (λ _. if (nat_le most_frames (length (frame ∷ fs))) (λ _. [])
      (λ _. row_at (length fs) k from to ∷ next (record { end = to; spot = (layout k).inside } ∷ frame ∷ fs) (from + O.least bs (layout k).fields from))))))

  -- one turn of the walk: a forged holder ends it, a done one is left, and otherwise a component is met
  abbrev pub turn : (next : List Frame → ℕ → List Row) (frame : Frame) (fs : List Frame) (at : ℕ) → List Row
  turn next frame fs at =
      if (nat_lt (length bs) frame.end) (λ _. [])
      (λ _. if (nat_le frame.end at) (λ _. next fs at)
      (λ _. read_or (O.ends bs (width frame.spot) 0 at frame.end) []
      (λ to. met next frame fs (kind_at frame.spot (slice_index bs at)) (at + suc (width frame.spot)) to)))

  -- the rows from a mark on, by at most so many turns
  abbrev pub walk : ℕ → List Frame → ℕ → List Row
  walk zero fs at = []
  walk (suc t) [] at = []
  walk (suc t) (frame ∷ fs) at = turn (walk t) frame fs at

  -- all rows from a mark on: there are always enough turns
  unfoldable pub rows_from : List Frame → ℕ → List Row
  rows_from fs at = walk (suc (length fs + length bs)) fs at

-- Where some data start and end.
pub record Stretch : Type 0 where
  pub start : ℕ
  pub end : ℕ

-- no data
abbrev pub no_stretch : Stretch
no_stretch = record { start = 0; end = 0 }

module _ (bs : List ℕ) where
  -- where the first descriptions' data stand from a container's component on, by at most so many turns
  abbrev pub seek : ℕ → ℕ → Stretch
  seek zero at = no_stretch
  seek (suc f) at =
      if (nat_le (length bs) at) (λ _. no_stretch)
      (λ _. read_or (O.ends bs 2 0 at (length bs)) no_stretch
      (λ to. if (slice_index bs at == 1) (λ _. record { start = at + 3; end = to }) (λ _. seek f to)))

  -- the same: there are always enough turns
  unfoldable pub data_from : ℕ → Stretch
  data_from at = seek (suc (length bs)) at

  -- the holder of the descriptions' parts
  abbrev pub first_frame : Frame
  first_frame = record { end = (data_from 1).end; spot = Descriptions }

  -- the rows from the first mark on
  abbrev pub told_from : List Row
  told_from = rows_from bs (slice_index bs 0) (first_frame ∷ []) (data_from 1).start
