use Rattle.std.proofs.Common.{◌≡◌}
use Rattle.reader.specs.Marks.{rows_at, left}
use Rattle.reader.proofs.sights.find.Given as goal

abbrev pub invariant-loop-sight : goal.invariant-loop-sight
invariant-loop-sight l = rows_at l.bytes l.mark ≡ rows_at l.bytes l.initial.mark

abbrev pub decreases-loop-sight : goal.decreases-loop-sight
decreases-loop-sight l = left l.bytes l.mark
