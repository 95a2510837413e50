use Rattle.std.proofs.Common.{Err, sym, ap, ◌∙◌, arith, rules}
use Rattle.std.proofs.lemmas.Result.{err_from_is_err_and}
use Rattle.reader.proofs.Turns.{next_none, next_fault, next_unknown, next_found}
use Rattle.reader.proofs.edge.Reader.next_part.Goals as goal

pub returns-in_err-part : goal.returns-in_err-part
returns-in_err-part c =
    let p = err_from_is_err_and c.from_residual.result c.from_residual.ensures.1 in
    let r = c.loop-self.self in
    let i = c.loop-self.invariant in
    record {
      edge = search rules;
      next = rw p.1 (λ n. next_fault c.args.self.now r c.args.spot c.args.level i.0 i.1 i.2 (omega arith) (c.requires.free (omega (arith, i.0.1, i.1))) _ c.in_err-part.ensures.found n ∙ ap Err (sym p.2));
    }

pub returns-in-Some : goal.returns-in-Some
returns-in-Some c =
    let r = c.loop-self.self in
    let i = c.loop-self.invariant in
    let f = rw c.in-Some.is at c.in_ok-part.ensures.found in
    record {
      edge = search rules;
      next = next_found c.args.self.now r c.args.spot c.args.level i.0 i.1 i.2 c.in-Some.part c.open_part.new.self f;
    }

pub loop-self-preserved : goal.loop-self-preserved
loop-self-preserved c =
    let r = c.loop-self.self in
    let i = c.loop-self.invariant in
    let f = rw c.in_default.is at c.in_ok-part.ensures.found in
    let a = c.open_part.ensures.edge in (
      (a.0 ∙ i.0.0, a.1 ∙ i.0.1),
      omega (arith, f.2),
      next_unknown c.args.self.now r c.args.spot c.args.level i.0 i.1 i.2 (omega arith) (c.requires.free (omega (arith, i.0.1, i.1))) c.open_part.new.self a f,
    )

pub returns : goal.returns
returns c =
    let r = c.loop-self.self in
    let i = c.loop-self.invariant in
    record {
      edge = search rules;
      next = next_none c.args.self.now r c.args.spot c.args.level i.0 i.1 i.2 r (omega arith) (omega (arith, i.0.1, r.order));
    }
