use Rattle.std.proofs.Common.{◌≡◌, ◌++◌, string_bytes}
use Rattle.location.specs.Steps.{steps_left}
use Rattle.listing.specs.Listed.{lines, listed}
use Rattle.listing.proofs.list_rows.Given as goal

-- what is written, and the lines of the rows to come, are the listing
abbrev pub invariant-loop-step : goal.invariant-loop-step
invariant-loop-step g l =
    (goal.iterator-loop-step g).can_next l.step-iterator
    × (goal.iterator-loop-step g).is_finite l.step-iterator
    × (l.step-iterator.below.now ≡ l.l)
    × (string_bytes l.out ++ lines (steps_left g.L.Location.rows l.step-iterator) ≡ listed (g.L.Location.whole l.l))
