use Rattle.std.proofs.Common.{◌≡◌, ◌-◌, None}
use Rattle.grammar.specs.Checks.{tail_of}
use Rattle.reader.specs.Opened.{Along}
use Rattle.reader.proofs.edge.Reader.read_language.Given as goal

abbrev pub invariant-loop-self : goal.invariant-loop-self
invariant-loop-self l =
    Along l.initial.self l.self
    × (tail_of l.initial.self.bytes.now l.level None l.initial.self.at l.initial.self.end ≡ tail_of l.self.bytes.now l.level l.language l.self.at l.self.end)

abbrev pub decreases-loop-self : goal.decreases-loop-self
decreases-loop-self l = l.self.end - l.self.at
