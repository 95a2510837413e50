use Rattle.grammar.proofs.Choosing.{stands_by}
use Rattle.grammar.proofs.choice_stands.Goals as goal

pub returns : goal.returns
returns c = stands_by
