use Rattle.std.proofs.Common.{◌∙◌}
use Rattle.vectors.proofs.Making.{byte_told}
use Rattle.vectors.proofs.made.MadeLocation.byte.Goals as goal

pub returns : goal.returns
returns c = c.then_some.ensures ∙ byte_told c.args.m.now c.in_ok-line.line.now c.args.i c.from.result c.in_ok-line.ensures.value c.from.ensures
