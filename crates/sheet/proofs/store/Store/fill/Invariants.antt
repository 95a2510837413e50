use Rattle.std.proofs.Common.{◌≡◌, ◌++◌, length}
use Rattle.location.specs.Steps.{steps_left}
use Rattle.sheet.specs.Held.{held}
use Rattle.sheet.proofs.store.Store.fill.Given as goal

-- what is held, with what is to come, is the whole
abbrev pub invariant-loop-step : goal.invariant-loop-step
invariant-loop-step g l =
    (goal.iterator-loop-step g).can_next l.step-iterator
    × (goal.iterator-loop-step g).is_finite l.step-iterator
    × (l.step-iterator.below.now ≡ l.l)
    × (held l.self ++ steps_left g.L.Location.rows l.step-iterator ≡ g.L.Location.whole l.l)
    × (l.self.buffer.ghost_name ≡ l.initial.self.buffer.ghost_name)
    × (length l.self.buffer.now ≡ length l.initial.self.buffer.now)
