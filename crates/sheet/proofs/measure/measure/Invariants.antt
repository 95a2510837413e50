use Rattle.std.proofs.Common.{◌≡◌, ◌+◌, ◌*◌, ◌≤◌, length}
use Rattle.grammar.specs.Sheet.{cost}
use Rattle.location.specs.Steps.{rows_left}
use Rattle.sheet.proofs.measure.measure.Given as goal

-- what is counted, with what is to come, is the whole; and no row takes more than 267 bytes
abbrev pub invariant-loop-row : goal.invariant-loop-row
invariant-loop-row g l =
    (goal.iterator-loop-row g).can_next l.row-iterator
    × (goal.iterator-loop-row g).is_finite l.row-iterator
    × (l.count + length (rows_left g.L.Location.rows l.row-iterator) ≡ length (g.L.Location.whole l.l))
    × (l.bytes + cost (rows_left g.L.Location.rows l.row-iterator) ≡ cost (g.L.Location.whole l.l))
    × (l.count ≤ 250)
    × (l.bytes ≤ 267 * l.count)
