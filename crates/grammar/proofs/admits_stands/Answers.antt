use Rattle.grammar.proofs.Admitted.{admits_stands}
use Rattle.grammar.proofs.admits_stands.Goals as goal

pub returns : goal.returns
returns c = admits_stands
