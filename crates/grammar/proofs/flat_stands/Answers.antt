use Rattle.grammar.proofs.flat_stands.Goals as goal
use Rattle.grammar.proofs.Flattened.{flat_stands}

pub returns : goal.returns
returns c = flat_stands
