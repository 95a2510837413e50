use Rattle.std.proofs.Common.{sym, subst}
use Rattle.std.proofs.lemmas.Result.{err_from_is_err_and}
use Rattle.grammar.specs.Flat.{flat_container}
use Rattle.sender.specs.Surveyed.{Settled}
use Rattle.sender.proofs.Judged.{nothing_there, something_there, refused_none, refused_none_best, refused_room, refused_room_best, sent, sent_best}
use Rattle.sender.proofs.Decided.{default_is}
use Rattle.sender.proofs.send.Goals as goal

pub returns-in_err-size : goal.returns-in_err-size
returns-in_err-size g c =
    let rows = g.L.Location.whole c.args.l.now in
    let p = err_from_is_err_and c.from_residual.result c.from_residual.ensures.1 in
    let n = nothing_there c.settle.result c.ok_or.result _ c.ok_or.ensures.value c.in_err-size.was in
    let none = subst (Settled rows) n.0 c.settle.ensures in
    rw (p.1, p.2, n.1)
    (record { sent = refused_none rows c.args.out.now none; best = refused_none_best rows c.args.out.now none })

pub returns-then-out-size : goal.returns-then-out-size
returns-then-out-size g c =
    let rows = g.L.Location.whole c.args.l.now in
    let n = c.in_ok-size.size in
    let d = c.in_ok-size.default in
    let h = subst (Settled rows) (something_there c.settle.result c.ok_or.result (n, d) c.ok_or.ensures.value c.in_ok-size.was) c.settle.ensures in
    record {
      sent = refused_room rows c.args.out.now (flat_container d rows) h.0 n h.1 c.if-out-size.true;
      best = refused_room_best rows c.args.out.now (flat_container d rows) h.0 n h.1 c.if-out-size.true;
    }

pub put_container-requires : goal.put_container-requires
put_container-requires g c =
    let rows = g.L.Location.whole c.args.l.now in
    let n = c.in_ok-size.size in
    let d = c.in_ok-size.default in
    let h = subst (Settled rows) (something_there c.settle.result c.ok_or.result (n, d) c.ok_or.ensures.value c.in_ok-size.was) c.settle.ensures in
    record { good = h.3; sized = (sym h.1, h.2); room = c.if-out-size.false }

pub returns : goal.returns
returns g c =
    let rows = g.L.Location.whole c.args.l.now in
    let n = c.in_ok-size.size in
    let d = c.in_ok-size.default in
    let h = subst (Settled rows) (something_there c.settle.result c.ok_or.result (n, d) c.ok_or.ensures.value c.in_ok-size.was) c.settle.ensures in
    let out = c.args.out.now in
    let after = c.put_container.new.out in
    let bytes = flat_container d rows in
    record {
      sent = sent rows out bytes h.0 n d after h.1 c.if-out-size.false (default_is d rows) c.put_container.ensures;
      best = sent_best rows out bytes h.0 n d after h.1 c.if-out-size.false (default_is d rows) c.put_container.ensures;
    }
