use Rattle.grammar.proofs.Walked.{walk_tells}
use Rattle.grammar.proofs.walk_stands.Goals as goal

pub returns : goal.returns
returns c = walk_tells
