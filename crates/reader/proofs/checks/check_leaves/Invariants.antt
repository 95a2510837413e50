use Rattle.std.proofs.Common.{◌≡◌, ℕ, ◌+◌, ◌-◌, ◌≤◌}
use Rattle.grammar.specs.Checks.{parts_of, plus}
use Rattle.reader.specs.Opened.{Along}
use Rattle.reader.proofs.checks.check_leaves.Given as goal

abbrev pub invariant-loop-part : goal.invariant-loop-part
invariant-loop-part l =
    Along l.initial.reader l.reader × (l.initial.reader.at + l.rows ≤ l.reader.at)
    × ((n : ℕ) → n ≤ 8 → parts_of l.initial.reader.bytes.now l.spot l.level n l.initial.reader.at l.initial.reader.end
    ≡ plus l.rows (parts_of l.reader.bytes.now l.spot l.level n l.reader.at l.reader.end))

abbrev pub decreases-loop-part : goal.decreases-loop-part
decreases-loop-part l = l.reader.end - l.reader.at
