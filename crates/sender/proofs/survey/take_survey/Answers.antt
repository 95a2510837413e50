use Rattle.std.proofs.Common.{◌≡◌, ◌<◌, ◌++◌, [], ◌∷◌, List, length, ap, ◌∙◌, arith, rules, subst, sym}
use Rattle.grammar.specs.Grammar.{Rows, Bytes}
use Rattle.location.specs.Answers.{head_row, head_text}
use Rattle.location.specs.Steps.{steps_left}
use Rattle.sender.specs.declared.survey.Open.{Open}
use Rattle.sender.proofs.Looked.{text_long}
use Rattle.sender.proofs.Headed.{lent_rows}
use Rattle.sender.proofs.Underway.{Underway, start, top_open}
use Rattle.sender.proofs.Turned.{turned_off, turned_away, room_inside, turned}
use Rattle.sender.proofs.survey.take_survey.Goals as goal

pub loop-step-init : goal.loop-step-init
loop-step-init g c = (
  tt,
  tt,
  ap (λ (s : _). s.below.now) c.into_iter-step-iterator.ensures.into_iter_gives ∙ c.steps_of-step-items.ensures.below,
  start _ _ c.push.new.self.items
      (ap (steps_left g.L.Location.rows) c.into_iter-step-iterator.ensures.into_iter_gives ∙ c.steps_of-step-items.ensures.left)
      (c.push.ensures.items ∙ ap (λ (os : List Open). os ++ top_open ∷ []) c.new-holders.ensures),
)

pub returns-then-not-stands_at : goal.returns-then-not-stands_at
returns-then-not-stands_at g c =
    let t = c.in-Some.ensures.steps in
    let k = c.loop-step.invariant in
    turned_away _ _ _ _ _ _ c.in-Some.step.row k.3 t.0 (lent_rows g.L.Location.rows _ _ c.in-Some.step.rest _ k.2 t.1.1)
    c.few_parts-few.result c.stands_at.result c.few_parts-few.ensures c.stands_at.ensures c.if-not-stands_at.true

pub read_text-requires-clause-length : goal.read_text-requires-clause-length
read_text-requires-clause-length g c =
    let t = c.in-Some.ensures.steps in
    let k = c.loop-step.invariant in
    text_long _ c.in-Some.step.row (t.0 ∙ ap head_row (sym (lent_rows g.L.Location.rows _ _ c.in-Some.step.mark _ k.2 t.1.0)))

pub returns-in_err-sums : goal.returns-in_err-sums
returns-in_err-sums g c =
    let t = c.in-Some.ensures.steps in
    let k = c.loop-step.invariant in
    rw c.from_residual.ensures
    (turned_off _ _ _ _ _ _ c.in-Some.step.row k.3 t.0 (lent_rows g.L.Location.rows _ _ c.in-Some.step.rest _ k.2 t.1.1) c.in_err-sums.ensures)

pub open_row-requires-clause-room : goal.open_row-requires-clause-room
open_row-requires-clause-room g c =
    let t = c.in-Some.ensures.steps in
    let k = c.loop-step.invariant in
    room_inside _ _ _ _ _ _ c.in-Some.step.row k.3 t.0 (lent_rows g.L.Location.rows _ _ c.in-Some.step.rest _ k.2 t.1.1)
    c.few_parts-few.result c.stands_at.result c.few_parts-few.ensures c.stands_at.ensures c.if-not-stands_at.false

pub loop-step-preserved : goal.loop-step-preserved
loop-step-preserved g c =
    let t = c.in-Some.ensures.steps in
    let k = c.loop-step.invariant in
    let r = lent_rows g.L.Location.rows _ _ c.in-Some.step.rest _ k.2 t.1.1 in
    let m = lent_rows g.L.Location.rows _ _ c.in-Some.step.mark _ k.2 t.1.0 in
    let long : length c.count_text.new.tally ≡ 256 = omega (arith, c.count_text.auto.tally, k.3.long) in
    let language : c.in-Some.step.row.language < 256 = search rules in
    let short : c.in-Some.step.row.length < 256 = search rules in (
      tt,
      tt,
      t.3 ∙ k.2,
      subst (λ (rows : Rows). Underway c.open_row.new.holders.items c.in_ok-sums.sums c.count_text.new.tally rows (g.L.Location.whole c.args.l.now)) (r ∙ sym t.2)
          (turned _ _ _ _ _ _ c.in-Some.step.row k.3 t.0 r
          c.few_parts-few.result c.stands_at.result c.few_parts-few.ensures c.stands_at.ensures c.if-not-stands_at.false
          c.open_row.new.holders.items c.in_ok-sums.sums c.count_text.new.tally c.open_row.ensures c.in_ok-sums.ensures long c.count_text.ensures
          (λ q. subst Bytes (ap head_text m) (c.read_text.ensures q)) language short),
    )
