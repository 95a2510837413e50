use Rattle.std.proofs.Common.{◌≡◌, length}
use Rattle.location.specs.Layers.{one_language}
use Rattle.location.proofs.language.LanguageRule.settle.Given as goal

abbrev pub invariant-loop-row : goal.invariant-loop-row
invariant-loop-row g l =
    one_language l.self.0 (g.L.Location.rows l.below l.m) ≡ one_language l.self.0 (g.L.Location.rows l.below l.initial.m)

abbrev pub decreases-loop-row : goal.decreases-loop-row
decreases-loop-row g l = length (g.L.Location.rows l.below l.m)
