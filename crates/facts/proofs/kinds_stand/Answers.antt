use Rattle.facts.proofs.Numbered.{kinds}
use Rattle.facts.proofs.kinds_stand.Goals as goal

pub returns : goal.returns
returns c = kinds
