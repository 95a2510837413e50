use Rattle.std.proofs.Common.{◌≡◌, ◌+◌, ◌-◌, ◌*◌, ◌^◌, ◌<◌}
use Rattle.grammar.specs.Offsets.{value}
use Rattle.reader.proofs.parts.number_at.Given as goal

abbrev pub invariant-loop-b : goal.invariant-loop-b
invariant-loop-b l =
    (l.n < 256 ^ l.b-index)
    × (l.n * 256 ^ (l.width - l.b-index) + value l.bytes (l.at + l.b-index) (l.width - l.b-index) ≡ value l.bytes l.at l.width)
