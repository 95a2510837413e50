use Rattle.std.proofs.Common.{◌<◌, arith, rules}
use Rattle.sender.proofs.Looked.{own_small}
use Rattle.sender.proofs.survey.Sums.with.Goals as goal

pub overflow_add-base : goal.overflow_add-base
overflow_add-base c =
    let h : c.args.row.length < 256 = search rules in
    let s = own_small c.args.row.language c.args.row h in
    omega (arith, c.own_size.ensures, c.requires.few.0)
