use Rattle.tpegloc.proofs.pair.agree.Goals as goal
use Rattle.tpegloc.proofs.Agreeing.{same_rows, within, refused_exactly}

pub same_sent-same-requires : goal.same_sent-same-requires
same_sent-same-requires g c = (
  within (g.A.Location.whole c.args.a.now) c.args.left.now c.send-on_left.new.out c.send-on_left.result c.send-on_left.auto.out c.send-on_left.ensures.best,
  within (g.B.Location.whole c.args.b.now) c.args.right.now c.send-on_right.new.out c.send-on_right.result c.send-on_right.auto.out c.send-on_right.ensures.best,
)

pub returns : goal.returns
returns g c =
    let a = g.A.Location.whole c.args.a.now in
    let b = g.B.Location.whole c.args.b.now in
    let p = c.send-on_left.ensures.best in
    let q = c.send-on_right.ensures.best in
    record {
      left_sent = c.send-on_left.ensures.sent;
      left_best = p;
      right_sent = c.send-on_right.ensures.sent;
      right_best = q;
      same = c.same_sent-same.ensures;
      same_rows = same_rows a b c.args.left.now c.send-on_left.new.out c.args.right.now c.send-on_right.new.out c.send-on_left.result c.send-on_right.result p q;
      left_refused = refused_exactly a c.args.left.now c.send-on_left.new.out c.send-on_left.result p;
      right_refused = refused_exactly b c.args.right.now c.send-on_right.new.out c.send-on_right.result q;
    }
