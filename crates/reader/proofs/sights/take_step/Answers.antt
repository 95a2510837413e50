use Rattle.std.proofs.Common.{◌<◌, ◌≤◌, length, Some, sym, ap, ◌∙◌, subst, arith}
use Rattle.reader.specs.declared.marks.Mark.{Mark}
use Rattle.reader.specs.Marks.{rows_at, left}
use Rattle.reader.proofs.Stood.{ok_none, ok_some}
use Rattle.reader.proofs.Sighted.{mark_out, mark_forged, mark_done, mark_past, mark_unknown}
use Rattle.reader.proofs.sights.take_step.Goals as goal

pub returns-then-mark-eq0 : goal.returns-then-mark-eq0
returns-then-mark-eq0 c = mark_out c.args.bytes.now c.args.mark.now c.if-mark-eq0.true

pub returns-then-frame-bytes : goal.returns-then-frame-bytes
returns-then-frame-bytes c = mark_forged c.args.bytes.now c.args.mark.now c.top-frame.result (omega arith) c.top-frame.ensures (omega arith)

pub returns-then-frame-mark : goal.returns-then-frame-mark
returns-then-frame-mark c = (
  ap (rows_at c.args.bytes.now) c.pop.ensures
      ∙ mark_done c.args.bytes.now c.args.mark.now c.top-frame.result (omega arith) c.top-frame.ensures (omega arith) (omega arith),
  subst (λ (m : Mark). left c.args.bytes.now m < left c.args.bytes.now c.args.mark.now) (sym c.pop.ensures) (omega arith),
)

pub returns-in_err-part : goal.returns-in_err-part
returns-in_err-part c =
    let r = ok_none c.open_part.result (sym c.ok.ensures.value ∙ c.in_err-part.was) in
    let f = rw r.1 at c.open_part.ensures.found in
    rw c.from_residual.ensures (mark_past c.args.bytes.now c.args.mark.now c.top-frame.result (omega arith) c.top-frame.ensures (omega arith) (omega arith) _ f)

pub returns-in-None : goal.returns-in-None
returns-in-None c =
    let r = ok_some c.open_part.result _ (sym c.ok.ensures.value ∙ c.in_ok-part.was ∙ ap Some c.in-None.is) in
    let f = rw r at c.open_part.ensures.found in
    let l : c.open_part.new.self.at ≤ length c.args.bytes.now = omega (arith, f.3) in (
      ap (rows_at c.args.bytes.now) c.go.ensures
          ∙ mark_unknown c.args.bytes.now c.args.mark.now c.top-frame.result (omega arith) c.top-frame.ensures (omega arith) (omega arith) _ f.0 f.1,
      subst (λ (m : Mark). left c.args.bytes.now m < left c.args.bytes.now c.args.mark.now) (sym c.go.ensures) (omega (arith, f.2)),
    )
