use Rattle.std.proofs.Common.{rules}
use Rattle.reader.specs.Whole.{rows_of}
use Rattle.tpegloc.proofs.Handed.{passed, turned_down}
use Rattle.tpegloc.proofs.for_c.send_again.Goals as goal

pub returns : goal.returns
returns c =
    let p = passed (rows_of c.in_ok-container.container) c.args.out.now c.send.new.out c.args.bytes.now c.send.result c.in_ok-length.length c.in_ok-length.field-0-1
    (search rules) c.send.ensures.sent c.send.ensures.best (search rules) in
    record { answer = p.0; best = p.1; short = p.2 }

pub returns-in_err-length : goal.returns-in_err-length
returns-in_err-length c =
    let p = turned_down (rows_of c.in_ok-container.container) c.args.out.now c.send.new.out c.args.bytes.now c.send.result c.from_residual-in_err-length.result
    (search rules) c.send.ensures.sent c.send.ensures.best (search rules) in
    record { answer = p.0; best = p.1; short = search rules }
