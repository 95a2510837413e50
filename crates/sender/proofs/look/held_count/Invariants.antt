use Rattle.std.proofs.Common.{◌≡◌, ◌+◌, ◌<◌}
use Rattle.sender.specs.Heads.{inside_rows, inside_left, right_in}
use Rattle.sender.proofs.look.held_count.Given as goal

-- what is counted, with what is to come, is the whole
abbrev pub invariant-loop-row : goal.invariant-loop-row
invariant-loop-row g l =
    (goal.iterator-loop-row g).can_next l.row-iterator
    × (goal.iterator-loop-row g).is_finite l.row-iterator
    × (l.held < 256)
    × (l.held + right_in l.depth (inside_left g.L.Location.rows l.row-iterator) ≡ right_in l.depth (inside_rows l.depth (g.L.Location.rows l.fn.l l.fn.step.rest)))
