-- What reading the header of a component finds, and where it leaves the reader.
use Rattle.std.specs.Prelude.{◌≡◌, ℕ, suc, ◌+◌, ◌<◌, ◌≤◌, List, Some, None, Ok, Err, Option, Result, slice_index}
use Rattle.grammar.specs.declared.fault.ReadFault.{ReadFault}
use Rattle.grammar.specs.declared.table.Spot.{Spot}
use Rattle.grammar.specs.Format.{width, kind_at}
use Rattle.grammar.specs.Offsets.{ends}
use Rattle.grammar.specs.Checks.{parts_of, nodes_of}
use Rattle.reader.specs.declared.edge.Reader.{Reader}
use Rattle.reader.specs.declared.parts.Part.{Part}

-- the reader may have moved on; its bytes and its edge are the same
abbrev pub Along : Reader → Reader → Type 0
Along before after = (after.bytes.now ≡ before.bytes.now) × (after.end ≡ before.end)

-- the reader stands at a component's data, which go from there to within its edge
abbrev pub AtData : Part → Reader → Type 0
AtData p r = (p.place < r.at) × (r.at ≤ p.stop) × (p.stop ≤ r.end)

-- a known component was found at `at`, and the reader stands at its data
abbrev pub Found : List ℕ → Spot → ℕ → ℕ → ℕ → Part → Reader → Type 0
Found bs s level at end p after =
    (ends bs (width s) level at end ≡ Ok p.stop) × (kind_at s (slice_index bs at) ≡ p.kind) × (0 < p.kind) × (p.place ≡ at)
    × (after.at ≡ at + suc (width s)) × (after.at ≤ p.stop) × (p.stop ≤ end) × (p.level ≡ level)

-- the component at `at`, which stands at s: a known one is opened, an unknown one is passed over
abbrev pub Opened : List ℕ → Spot → ℕ → ℕ → ℕ → Result (Option Part) ReadFault → Reader → Type 0
Opened bs s level at end (Err e) after = ends bs (width s) level at end ≡ Err e
Opened bs s level at end (Ok None) after =
    (ends bs (width s) level at end ≡ Ok after.at) × (kind_at s (slice_index bs at) ≡ 0) × (at < after.at) × (after.at ≤ end)
Opened bs s level at end (Ok (Some p)) after = Found bs s level at end p after

-- the next known component from `at` to `end`: the parts from there on are those from `at` on
abbrev pub NextPart : List ℕ → Spot → ℕ → ℕ → ℕ → Result (Option Part) ReadFault → Reader → Type 0
NextPart bs s level at end (Err e) after = (n : ℕ) → parts_of bs s level n at end ≡ Err e
NextPart bs s level at end (Ok None) after = (after.at ≡ end) × ((n : ℕ) → parts_of bs s level n at end ≡ Ok 0)
NextPart bs s level at end (Ok (Some p)) after =
    Found bs s level p.place end p after × (at ≤ p.place) × ((n : ℕ) → parts_of bs s level n at end ≡ parts_of bs s level n p.place end)

-- one more of the nodes that the associated modes at `own` count
abbrev pub OpenedNode : List ℕ → Spot → ℕ → ℕ → ℕ → ℕ → Result Part ReadFault → Reader → Type 0
OpenedNode bs s level own at end (Err e) after = (c n : ℕ) → 0 < c → nodes_of bs c level n own at end ≡ Err e
OpenedNode bs s level own at end (Ok p) after = Found bs s level at end p after
