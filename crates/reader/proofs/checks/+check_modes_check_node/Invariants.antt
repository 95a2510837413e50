use Rattle.std.proofs.Common.{◌≡◌, ◌+◌, ◌-◌, ◌≤◌}
use Rattle.grammar.specs.declared.table.Spot.TheVariants.{Node}
use Rattle.grammar.specs.Checks.{parts_of, nodes_of, plus}
use Rattle.reader.specs.Opened.{Along}
use Rattle.reader.proofs.checks.+check_modes_check_node.Given as goal

-- the bytes that are left of the component
abbrev pub decreases-check_node : goal.decreases-check_node
decreases-check_node l = l.part.stop - l.reader.now.at

abbrev pub decreases-check_modes : goal.decreases-check_modes
decreases-check_modes l = l.part.stop - l.reader.now.at

abbrev pub invariant-check_modes-loop : goal.invariant-check_modes-loop
invariant-check_modes-loop l =
    Along l.initial.inner.reader.now l.inner.reader.now × (l.inner.edge ≡ l.initial.inner.edge)
    × (l.initial.inner.reader.now.at + l.rows ≤ l.inner.reader.now.at + 1)
    × (plus 1 (nodes_of l.initial.inner.reader.now.bytes.now l.count (l.part.level + 1) l.nodes l.part.place l.initial.inner.reader.now.at l.initial.inner.reader.now.end)
    ≡ plus l.rows (nodes_of l.inner.reader.now.bytes.now (l.count - l.counter) (l.part.level + 1) l.nodes l.part.place l.inner.reader.now.at l.inner.reader.now.end))

abbrev pub invariant-check_node-loop-held : goal.invariant-check_node-loop-held
invariant-check_node-loop-held l =
    Along l.initial.inner.reader.now l.inner.reader.now × (l.inner.edge ≡ l.initial.inner.edge)
    × (l.initial.inner.reader.now.at + l.rows ≤ l.inner.reader.now.at + 1)
    × (plus 1 (parts_of l.initial.inner.reader.now.bytes.now Node (l.part.level + 1) (l.nodes + 1) l.initial.inner.reader.now.at l.initial.inner.reader.now.end)
    ≡ plus l.rows (parts_of l.inner.reader.now.bytes.now Node (l.part.level + 1) (l.nodes + 1) l.inner.reader.now.at l.inner.reader.now.end))

abbrev pub decreases-check_node-loop-held : goal.decreases-check_node-loop-held
decreases-check_node-loop-held l = l.inner.reader.now.end - l.inner.reader.now.at
