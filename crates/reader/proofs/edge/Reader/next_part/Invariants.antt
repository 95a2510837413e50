use Rattle.std.proofs.Common.{◌≡◌, ℕ, ◌-◌, ◌≤◌}
use Rattle.grammar.specs.Checks.{parts_of}
use Rattle.reader.specs.Opened.{Along}
use Rattle.reader.proofs.edge.Reader.next_part.Given as goal

abbrev pub invariant-loop-self : goal.invariant-loop-self
invariant-loop-self l =
    Along l.initial.self l.self × (l.initial.self.at ≤ l.self.at)
    × ((n : ℕ) → parts_of l.initial.self.bytes.now l.spot l.level n l.initial.self.at l.initial.self.end ≡ parts_of l.self.bytes.now l.spot l.level n l.self.at l.self.end)

abbrev pub decreases-loop-self : goal.decreases-loop-self
decreases-loop-self l = l.self.end - l.self.at
