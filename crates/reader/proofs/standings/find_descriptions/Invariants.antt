use Rattle.std.proofs.Common.{◌≡◌, ◌-◌, ◌≤◌, length}
use Rattle.grammar.specs.Walk.{data_from}
use Rattle.reader.proofs.standings.find_descriptions.Given as goal

abbrev pub invariant-loop-reader : goal.invariant-loop-reader
invariant-loop-reader l =
    (l.reader.0.now ≡ l.bytes) × (l.reader.1.1.0 ≡ length l.bytes) × (l.reader.1.0 ≤ l.reader.1.1.0) × (data_from l.bytes 1 ≡ data_from l.bytes l.reader.1.0)

abbrev pub decreases-loop-reader : goal.decreases-loop-reader
decreases-loop-reader l = l.reader.1.1.0 - l.reader.1.0
