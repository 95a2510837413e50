use Rattle.std.proofs.Common.{◌≡◌, length}
use Rattle.location.specs.Layers.{cut_from, cut}
use Rattle.location.proofs.cut.LevelsRule.settle.Given as goal

-- what is left from here on, with what is being left out, is what was left from the start on
abbrev pub invariant-loop-row : goal.invariant-loop-row
invariant-loop-row g l =
    cut_from l.self.0 l.out (g.L.Location.rows l.below l.m) ≡ cut l.self.0 (g.L.Location.rows l.below l.initial.m)

abbrev pub decreases-loop-row : goal.decreases-loop-row
decreases-loop-row g l = length (g.L.Location.rows l.below l.m)
