use Rattle.sender.proofs.Penned.{wrote_as, number_bytes}
use Rattle.sender.proofs.pen.Pen.number.Goals as goal

pub returns : goal.returns
returns c =
    wrote_as _ _ _ _ (number_bytes c.args.width c.args.number c.to_be_bytes-bytes.result c.requires.narrow c.to_be_bytes-bytes.ensures) c.bytes.ensures
