-- What is found at a mark of a container.
use Rattle.std.specs.Prelude.{◌≡◌, ℕ, ◌+◌, ◌-◌, ◌<◌, ◌≤◌, false, List, [], ◌∷◌, length, Some, None, Option, slice_index, slice_index_or}
use Rattle.grammar.specs.Format.{layout}
use Rattle.grammar.specs.Grammar.{Row as Told, Rows}
use Rattle.grammar.specs.Reading.{if, closed}
use Rattle.grammar.specs.Offsets as O
use Rattle.grammar.specs.Walk.{row_at, rows_from}
use Rattle.reader.specs.declared.sights.Sight.{Sight}
use Rattle.reader.specs.declared.sights.Step.{Step}
use Rattle.reader.specs.declared.sights.Step.TheVariants.{Row, Pass}
use Rattle.reader.specs.declared.marks.Frame.{Frame}
use Rattle.reader.specs.declared.marks.Mark.{Mark}
use Rattle.reader.specs.declared.edge.Reader.{Reader}
use Rattle.reader.specs.declared.parts.Part.{Part}
use Rattle.reader.specs.declared.standings.Component.{Component}
use Rattle.reader.specs.declared.standings.Standing.TheVariants.{Known}
use Rattle.reader.specs.Marks.{rows_at, stack, left, blank_frame}
use Rattle.reader.specs.Opened.{Found}
use Rattle.reader.specs.Stands.{stands_at}

-- the innermost holder of a mark, which ends within the bytes and past the mark's place
abbrev pub OpenAt : List ℕ → Mark → Frame → Type 0
OpenAt bs m f = (0 < m.held) × (f ≡ slice_index_or m.frames (m.held - 1) blank_frame) × (f.end ≤ length bs) × (m.at < f.end)

-- a known component stands there
abbrev pub StandingAt : List ℕ → Mark → Frame → Component → Type 0
StandingAt bs m f c = OpenAt bs m f × (Some (Known c) ≡ stands_at bs f.spot m.at f.end)

-- a known component was opened there
abbrev pub FoundAt : Mark → Frame → Reader → Part → Type 0
FoundAt m f after p = OpenAt after.bytes.now m f × Found after.bytes.now f.spot 0 m.at f.end p after

-- the row of a component that was found
abbrev pub told_row : List ℕ → Sight → Told
told_row bs s = row_at bs (slice_index bs 0) s.depth s.kind s.from s.stop

-- the rows past that row, from the mark at it: those inside its component first, where any may stand
abbrev pub rows_beyond : List ℕ → Mark → Sight → Rows
rows_beyond bs m s =
    if (closed (layout s.kind).inside)
    (λ _. rows_at bs (record { at = s.stop; held = m.held; frames = m.frames }))
    (λ _. rows_from bs (slice_index bs 0) (record { end = s.stop; spot = (layout s.kind).inside } ∷ stack m.frames m.held) s.inside)

-- the mark at that row has room for one holder more, where any parts may stand
abbrev pub Roomy : Mark → Sight → Type 0
Roomy m s = closed (layout s.kind).inside ≡ false → m.held < 17

-- a component's fields are within it, and it is within the bytes
pub record Within (bs : List ℕ) (s : Sight) : Type 0 where
  pub fields : s.from + O.least bs (layout s.kind).fields s.from ≤ s.stop
  pub within : s.stop ≤ length bs
  pub globe : O.off_globe bs (layout s.kind).fields s.from ≡ false

-- a row stands at the mark, and the rest are the rows past it
abbrev pub Seen : List ℕ → Mark → Sight → Type 0
Seen bs m s = (rows_at bs m ≡ told_row bs s ∷ rows_beyond bs m s) × Roomy m s × Within bs s

-- a row at the mark, or the mark went on to one with the same rows and less left, or no row
abbrev pub Stepped : List ℕ → (was is : Mark) → Option Step → Type 0
Stepped bs was is (Some (Row s)) = (rows_at bs is ≡ rows_at bs was) × Seen bs is s
Stepped bs was is (Some Pass) = (rows_at bs is ≡ rows_at bs was) × (left bs is < left bs was)
Stepped bs was is None = rows_at bs was ≡ []

-- the mark went on to the first row from where it was, if there is one
abbrev pub Sighted : List ℕ → (was is : Mark) → Option Sight → Type 0
Sighted bs was is (Some s) = (rows_at bs is ≡ rows_at bs was) × Seen bs is s
Sighted bs was is None = rows_at bs was ≡ []
