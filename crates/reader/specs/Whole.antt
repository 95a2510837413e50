-- The rows of a container on the air.
use Rattle.std.specs.Prelude.{◌≡◌, ℕ, List, [], ◌∷◌, Ok, Err, Result, slice_index}
use Rattle.grammar.specs.declared.fault.ReadFault.{ReadFault}
use Rattle.grammar.specs.declared.table.Spot.TheVariants.{Descriptions}
use Rattle.grammar.specs.Grammar.{Rows, Tells, Legal}
use Rattle.grammar.specs.Reading.{reading}
use Rattle.grammar.specs.Walk.{rows_from}
use Rattle.reader.specs.declared.air.Container.{Container}

-- all the rows: those from the start of the descriptions' data on
abbrev pub rows_of : Container → Rows
rows_of c = rows_from c.bytes.now (slice_index c.bytes.now 0) (record { end = c.end; spot = Descriptions } ∷ []) c.start

-- a container is given for legal bytes only, and they tell exactly its rows; a fault is the reading's first, and then the bytes are not legal
abbrev pub Opens : List ℕ → Result Container ReadFault → Type 0
Opens bytes (Ok c) = (c.bytes.now ≡ bytes) × Tells bytes (rows_of c)
Opens bytes (Err f) = (reading bytes ≡ Err f) × (Legal bytes → ⊥)
