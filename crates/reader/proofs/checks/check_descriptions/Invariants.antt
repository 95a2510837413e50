use Rattle.std.proofs.Common.{◌≡◌, ◌+◌, ◌-◌, ◌≤◌}
use Rattle.grammar.specs.declared.table.Spot.TheVariants.{Descriptions}
use Rattle.grammar.specs.Checks.{parts_of, plus}
use Rattle.reader.specs.Opened.{Along}
use Rattle.reader.proofs.checks.check_descriptions.Given as goal

abbrev pub invariant-loop-node : goal.invariant-loop-node
invariant-loop-node l =
    Along l.initial.inner.reader.now l.inner.reader.now × (l.inner.edge ≡ l.initial.inner.edge)
    × (l.initial.inner.reader.now.at + l.rows ≤ l.inner.reader.now.at)
    × (parts_of l.initial.inner.reader.now.bytes.now Descriptions 1 0 l.initial.inner.reader.now.at l.initial.inner.reader.now.end
    ≡ plus l.rows (parts_of l.inner.reader.now.bytes.now Descriptions 1 0 l.inner.reader.now.at l.inner.reader.now.end))

abbrev pub decreases-loop-node : goal.decreases-loop-node
decreases-loop-node l = l.inner.reader.now.end - l.inner.reader.now.at
