use Rattle.reader.proofs.Stacked.{stacked}
use Rattle.reader.proofs.marks.put_frame.Goals as goal

pub returns : goal.returns
returns c = stacked c.args.frames.now c.args.frame c.args.held c.requires
