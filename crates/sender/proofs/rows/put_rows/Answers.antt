use Rattle.std.proofs.Common.{ℕ, length, sym, ap, ◌∙◌, arith}
use Rattle.grammar.specs.Grammar.{Rows}
use Rattle.location.specs.Steps.{steps_left}
use Rattle.sender.specs.Heads.{head_bytes}
use Rattle.sender.proofs.Penned.{none_wrote, behind, wrote_as}
use Rattle.sender.proofs.Headed.{lent_rows, rest_writable, flat_turn, flat_turn_long, flat_none}
use Rattle.sender.proofs.rows.put_rows.Goals as goal

pub loop-step-preserved : goal.loop-step-preserved
loop-step-preserved g c =
    let d : ℕ = c.args.default in
    let t = c.in-Some.ensures.steps in
    let k = c.loop-step.invariant in
    let xs : Rows = steps_left g.L.Location.rows c.loop-step.step-iterator in
    let ys : Rows = steps_left g.L.Location.rows c.next.new.self in
    let m = lent_rows g.L.Location.rows _ _ c.in-Some.step.mark xs k.2 t.1.0 in
    let w = wrote_as _ _ _ _ (ap (head_bytes d) m) c.put_row.ensures in
    let n = flat_turn_long d xs ys t.2 in (
      tt,
      tt,
      t.3 ∙ k.2,
      λ p v. k.3 p (wrote_as _ _ _ _ (sym (flat_turn d xs ys t.2)) (behind _ _ _ _ _ w v)),
      omega (arith, k.4, w.next, w.long),
      rest_writable d xs ys t.2 k.5,
    )

pub returns : goal.returns
returns g c =
    let e = flat_none c.args.default (steps_left g.L.Location.rows c.loop-step.step-iterator) c.in-None.ensures.steps.0 in
    let n = ap length e in
    c.loop-step.invariant.3 c.loop-step.pen (wrote_as _ _ _ _ (sym e) (none_wrote _ (omega (arith, c.loop-step.invariant.4))))
