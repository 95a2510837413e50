use Rattle.std.proofs.Common.{◌≡◌, ◌+◌, cond, eqb, ap, arith}
use Rattle.sender.specs.Heads.{right_in}
use Rattle.sender.proofs.Looked.{held_is, said, unsaid}
use Rattle.sender.proofs.look.held_count.Goals as goal

pub returns-in_err-held : goal.returns-in_err-held
returns-in_err-held g c =
    let n = held_is c.args.step.now.row.depth (g.L.Location.rows c.args.l.now c.args.step.now.rest) in
    let r = ap (right_in c.args.step.now.row.depth) c.in-Some.ensures.steps in
    let k = c.loop-row.invariant.3 in
    let e : c.from-in-loop-row-2.result ≡ cond (eqb c.in-Some.row.depth (c.args.step.now.row.depth + 1)) 1 0 = grind arith in
    rw c.from_residual.ensures (unsaid _ (omega (arith, c.in_err-held.ensures)))

pub returns : goal.returns
returns g c =
    let n = held_is c.args.step.now.row.depth (g.L.Location.rows c.args.l.now c.args.step.now.rest) in
    let r = ap (right_in c.args.step.now.row.depth) c.in-None.ensures.steps.0 in
    let k = c.loop-row.invariant.3 in
    said _ _ (omega arith) c.loop-row.invariant.2
