use Rattle.std.proofs.Common.{◌≡◌, [], ◌∷◌, ◌+◌, ◌++◌, ◌≤◌, length, sym, ap, ◌∙◌, arith, rules}
use Rattle.grammar.specs.Grammar.{Rows, Row as Told}
use Rattle.grammar.specs.Sheet.{cost_of}
use Rattle.location.specs.Answers.{head_row, head_text}
use Rattle.location.specs.Steps.{rest_of}
use Rattle.sheet.specs.Records.{with_text}
use Rattle.sheet.specs.Held.{held}
use Rattle.sheet.proofs.Filled.{head_length, step_first, taken_over, place_left, room_left}
use Rattle.sheet.proofs.store.Store.fill.Goals as goal

pub put-requires : goal.put-requires
put-requires g c =
    let f = g.L.Location.rows in
    let i = c.loop-step.invariant in
    let to = c.loop-step.step-iterator in
    let s = c.loop-step.self in
    let p = c.in-Some.step in
    let n = c.in-Some.ensures.steps in
    let xs : Rows = f to.below.now to.at in
    let ys : Rows = f c.args.l.now p.mark in
    let h : ys ≡ xs = ap (λ l. f l p.mark) (sym i.2) ∙ n.1.0 in
    let r : Told = with_text p.row (head_text ys) in
    let all : Rows = g.L.Location.whole c.args.l.now in
    let e = step_first xs ys p.row n.0 h in
    let long = head_length ys p.row (n.0 ∙ ap head_row (sym h)) in
    let k : s.used + cost_of r ≤ length s.buffer.now =
    room_left (held s) xs (rest_of xs) all r i.3 e s.used (length s.buffer.now) s.costs (omega (arith, i.5, c.requires.room, ap length c.clear.ensures.same)) in
    record {
      sized = long;
      few = place_left (held s) xs (rest_of xs) all r i.3 e s.count 250 s.counted c.requires.few;
      room = omega (arith, k, long);
    }

pub loop-step-preserved : goal.loop-step-preserved
loop-step-preserved g c =
    let f = g.L.Location.rows in
    let i = c.loop-step.invariant in
    let to = c.loop-step.step-iterator in
    let p = c.in-Some.step in
    let n = c.in-Some.ensures.steps in
    let xs : Rows = f to.below.now to.at in
    let ys : Rows = f c.args.l.now p.mark in
    let h : ys ≡ xs = ap (λ l. f l p.mark) (sym i.2) ∙ n.1.0 in
    let all : Rows = g.L.Location.whole c.args.l.now in
    let r : Told = with_text p.row (head_text ys) in
    let e = step_first xs ys p.row n.0 h in
    let hs : Rows = held c.put.new.self in
    let rest : Rows = f c.next.new.self.below.now c.next.new.self.at in
    let same : rest ≡ rest_of xs = n.2 in
    let took : hs ≡ held c.loop-step.self ++ (r ∷ []) = c.put.ensures.took in
    let whole : hs ++ rest ≡ all = ap (λ (rs : Rows). hs ++ rs) same ∙ taken_over (held c.loop-step.self) xs (rest_of xs) all hs r i.3 e took in (
      tt,
      tt,
      n.3 ∙ i.2,
      whole,
      search rules,
      search rules,
    )
