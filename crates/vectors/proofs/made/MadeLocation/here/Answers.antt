use Rattle.vectors.proofs.Making.{any_told}
use Rattle.vectors.proofs.made.MadeLocation.here.Goals as goal

pub returns : goal.returns
returns c = any_told c.args.m.now c.is_empty.result c.is_empty.ensures
