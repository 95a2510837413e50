use Rattle.std.proofs.Common.{refl}
use Rattle.runs.specs.Scripts.{entries}
use Rattle.runs.proofs.examples_stand.Goals as goal

pub returns : goal.returns
unfolding entries
returns c = (refl, refl, refl, refl, refl, refl, refl, refl)
