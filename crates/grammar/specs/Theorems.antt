-- What is proved of the table, of the reading and of the grammar.
use Rattle.std.specs.Prelude.{◌≡◌, ℕ, ◌⊎◌, List, length, Ok, Err, ◌≢◌}
use Rattle.grammar.specs.declared.fault.ReadFault.{ReadFault}
use Rattle.grammar.specs.declared.table.Spot.{Spot}
use Rattle.grammar.specs.declared.table.Spot.TheVariants.{Nowhere}
use Rattle.grammar.specs.Format.{width, layout, kind_at, fixed_bytes}
use Rattle.grammar.specs.Grammar.{Row, Bytes, Tells, Legal}
use Rattle.grammar.specs.Reading.{Read, reading}
use Rattle.grammar.specs.Offsets as O
use Rattle.grammar.specs.Walk.{told_from}

-- kind k stands at s, by its line of the table
abbrev pub StandsAt : ℕ → Spot → Type 0
StandsAt k s = (s ≢ Nowhere) × (((layout k).holder ≡ s) ⊎ ((layout k).again ≡ s))

-- a kind is found by its identifier wherever it stands, and its length is as wide as any there
abbrev pub FoundByLine : Type 0
FoundByLine = (k : ℕ) (s : Spot) → StandsAt k s → (kind_at s (layout k).id ≡ k) × (width s ≡ (layout k).width)

-- what is found by an identifier stands there under that identifier
abbrev pub FoundById : Type 0
FoundById = (s : Spot) (i : ℕ) → (kind_at s i ≢ 0) → StandsAt (kind_at s i) s × ((layout (kind_at s i)).id ≡ i)

-- a line's fixed bytes are those of its fields
abbrev pub FixedByFields : Type 0
FixedByFields = (k : ℕ) → (layout k).fixed ≡ fixed_bytes (layout k).fields

abbrev pub TableRule : Type 0
TableRule = FoundByLine × FoundById × FixedByFields

-- what is read from bytes is what a legal container tells
abbrev pub Sound : Type 0
Sound = (bytes : List ℕ) (rows : List Row) → Bytes bytes → reading bytes ≡ Ok rows → Tells bytes rows

-- every legal container is read, and as what it tells
abbrev pub Complete : Type 0
Complete = (bytes : List ℕ) (rows : List Row) → Tells bytes rows → reading bytes ≡ Ok rows

-- what the reading refuses is no legal container
abbrev pub RefusesRightly : Type 0
RefusesRightly = (bytes : List ℕ) (f : ReadFault) → reading bytes ≡ Err f → Legal bytes → ⊥

-- a legal container is made of bytes
abbrev pub MadeOfBytes : Type 0
MadeOfBytes = (bytes : List ℕ) (rows : List Row) → Tells bytes rows → Bytes bytes

-- bytes tell one list of rows at most
abbrev pub OneMeaning : Type 0
OneMeaning = (bytes : List ℕ) (r s : List Row) → Tells bytes r → Tells bytes s → r ≡ s

-- an answer of n rows says that the bytes are a legal container that tells n rows, and a fault says that they are none
abbrev pub ToldExactly : List ℕ → Read ℕ → Type 0
ToldExactly bytes (Ok n) = (rows : List Row) × Tells bytes rows × (length rows ≡ n)
ToldExactly bytes (Err f) = Legal bytes → ⊥

abbrev pub AcceptsExactly : Type 0
AcceptsExactly = Sound × Complete × RefusesRightly × MadeOfBytes × OneMeaning

-- the reading by offset gives the same rows, and the same faults at the same places
abbrev pub SameByOffset : Type 0
SameByOffset = (bytes : List ℕ) → O.reading bytes ≡ reading bytes

-- the walk from mark to mark tells the rows that are read
abbrev pub WalkTells : Type 0
WalkTells = (bytes : List ℕ) (rows : List Row) → O.reading bytes ≡ Ok rows → told_from bytes ≡ rows
