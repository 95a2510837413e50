use Rattle.std.proofs.Common.{◌≡◌}
use Rattle.location.specs.Steps.{steps_left}
use Rattle.sender.proofs.Underway.{Underway}
use Rattle.sender.proofs.survey.take_survey.Given as goal

abbrev pub invariant-loop-step : goal.invariant-loop-step
invariant-loop-step g l =
    (goal.iterator-loop-step g).can_next l.step-iterator
    × (goal.iterator-loop-step g).is_finite l.step-iterator
    × (l.step-iterator.below.now ≡ l.l)
    × Underway l.holders.items l.sums l.tally (steps_left g.L.Location.rows l.step-iterator) (g.L.Location.whole l.l)
