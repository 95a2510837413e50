use Rattle.std.proofs.Common.{◌≡◌, ℕ, ◌-◌, List, length, get_or, take, drop, ap, ◌∙◌, arith, length-drop, take_all, get_or-take}
use Rattle.sheet.proofs.Placed.{no_left, no_record}
use Rattle.sheet.proofs.place.Place.record.Goals as goal

pub returns-then-self-eq0 : goal.returns-then-self-eq0
returns-then-self-eq0 c = no_left c.args.bytes.now c.args.self c.if-self-eq0.true

pub returns-in_err-get : goal.returns-in_err-get
returns-in_err-get c =
    let bs = c.args.bytes.now in
    let none = no_record bs c.args.self (grind (arith, c.in_err-get.ensures.lookup, length-drop c.args.self.at bs)) in
    rw c.from_residual.ensures none

pub returns-in_err-head : goal.returns-in_err-head
returns-in_err-head c =
    let bs = c.args.bytes.now in
    let none = no_record bs c.args.self (omega (arith, c.in_ok-get.ensures.lookup.0.3, c.in_err-head.ensures.cases, length-drop c.args.self.at bs)) in
    rw c.from_residual-in_err-head.ensures none

pub returns-in_err-text : goal.returns-in_err-text
returns-in_err-text c =
    let bs = c.args.bytes.now in
    let at : ℕ = c.args.self.at in
    let all = length-drop at bs in
    let from : c.in_ok-get.field-0.now ≡ drop at bs = c.in_ok-get.ensures.lookup.0.2 ∙ take_all (length bs - at) (drop at bs) (omega arith) in
    let cut = c.in_ok-head.ensures.cases in
    let last : get_or c.in_ok-head.head.now 11 0 ≡ get_or (drop at bs) 11 0 =
    ap (λ (xs : List ℕ). get_or xs 11 0) (cut.0 ∙ ap (take 12) from) ∙ get_or-take 12 (drop at bs) 11 0 (omega arith) in
    let none = no_record bs c.args.self (grind (arith, last, all, cut.2, ap length from, c.from.ensures, c.in_err-text.ensures.lookup.0)) in
    rw c.from_residual-in_err-text.ensures none
