use Rattle.std.proofs.Common.{◌≡◌, ◌-◌, ◌≤◌, false, length, is_some}
use Rattle.std.specs.Option.{unwrap_or}
use Rattle.grammar.specs.Checks.{tops_of, plus}
use Rattle.reader.proofs.checks.check_tops.Given as goal

abbrev pub invariant-loop-reader : goal.invariant-loop-reader
invariant-loop-reader l =
    (l.reader.0.now ≡ l.bytes) × (l.reader.1.1.0 ≡ length l.bytes) × (l.reader.1.0 ≤ l.reader.1.1.0) × (unwrap_or l.rows 0 ≤ l.reader.1.0)
    × (tops_of l.bytes false 1 ≡ plus (unwrap_or l.rows 0) (tops_of l.bytes (is_some l.rows) l.reader.1.0))

abbrev pub decreases-loop-reader : goal.decreases-loop-reader
decreases-loop-reader l = l.reader.1.1.0 - l.reader.1.0
