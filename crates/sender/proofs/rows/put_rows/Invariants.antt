use Rattle.std.proofs.Common.{◌≡◌, length}
use Rattle.grammar.specs.Flat.{flat}
use Rattle.location.specs.Steps.{steps_left}
use Rattle.sender.specs.declared.pen.Pen.{Pen}
use Rattle.sender.specs.Penned.{Room, Wrote}
use Rattle.sender.specs.Writable.{Writable}
use Rattle.sender.proofs.rows.put_rows.Given as goal

-- what is written, with what is to come, is the whole
abbrev pub invariant-loop-step : goal.invariant-loop-step
invariant-loop-step g l =
    (goal.iterator-loop-step g).can_next l.step-iterator
    × (goal.iterator-loop-step g).is_finite l.step-iterator
    × (l.step-iterator.below.now ≡ l.l)
    × ((p : Pen) → Wrote l.pen (flat l.default (steps_left g.L.Location.rows l.step-iterator)) p → Wrote l.initial.pen (flat l.default (g.L.Location.whole l.l)) p)
    × Room l.pen (length (flat l.default (steps_left g.L.Location.rows l.step-iterator)))
    × Writable l.default (steps_left g.L.Location.rows l.step-iterator)
