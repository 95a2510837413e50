-- The rows from a mark on, by the walk over the container's bytes.
use Rattle.std.specs.Prelude.{ℕ, zero, suc, ◌+◌, ◌-◌, List, [], ◌∷◌, length, slice_index, slice_index_or}
use Rattle.grammar.specs.declared.table.Spot.TheVariants.{Nowhere}
use Rattle.grammar.specs.Grammar.{Rows}
use Rattle.grammar.specs.Walk.{rows_from, Frame as Holder}
use Rattle.reader.specs.declared.marks.Frame.{Frame}
use Rattle.reader.specs.declared.marks.Mark.{Mark}

abbrev pub blank_frame : Frame
blank_frame = record { end = 0; spot = Nowhere }

-- the first n holders of the list, the innermost first
abbrev pub stack : List Frame → ℕ → List Holder
stack fs zero = []
stack fs (suc n) = record { end = (slice_index_or fs n blank_frame).end; spot = (slice_index_or fs n blank_frame).spot } ∷ stack fs n

-- the rows from a mark on; every mark has some list
abbrev pub rows_at : List ℕ → Mark → Rows
rows_at bs m = rows_from bs (slice_index bs 0) (stack m.frames m.held) m.at

-- what falls from mark to mark: the holders and the bytes that are left
abbrev pub left : List ℕ → Mark → ℕ
left bs m = m.held + (length bs - m.at)
