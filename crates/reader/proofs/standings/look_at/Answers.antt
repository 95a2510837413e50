use Rattle.std.proofs.Common.{ℕ, List, Some, sym, ap, ◌∙◌, arith}
use Rattle.std.specs.Option.{option_map}
use Rattle.reader.specs.declared.standings.Standing.TheVariants.{Known}
use Rattle.reader.specs.Stands.{known_at}
use Rattle.reader.proofs.Stood.{ok_none, ok_some, stand_forged, stand_done, stand_past, stand_unknown, stand_known}
use Rattle.reader.proofs.standings.look_at.Goals as goal

pub returns-then-end-bytes : goal.returns-then-end-bytes
returns-then-end-bytes c = stand_forged c.args.bytes.now c.args.spot c.args.at c.args.end (omega arith)

pub returns-then-end-at : goal.returns-then-end-at
returns-then-end-at c = stand_done c.args.bytes.now c.args.spot c.args.at c.args.end (omega arith) (omega arith)

pub returns-in_err-part : goal.returns-in_err-part
returns-in_err-part c =
    let r = ok_none c.open_part.result (sym c.ok.ensures.value ∙ c.in_err-part.was) in
    let f = rw r.1 at c.open_part.ensures.found in
    c.from_residual.ensures ∙ stand_past c.args.bytes.now c.args.spot c.args.at c.args.end (omega arith) (omega arith) _ f

pub returns-in_err-keep-in-Some : goal.returns-in_err-keep-in-Some
returns-in_err-keep-in-Some c =
    let r = ok_some c.open_part.result _ (sym c.ok.ensures.value ∙ c.in_ok-part.was ∙ ap Some c.in-Some.is) in
    let f = rw r at c.open_part.ensures.found in
    c.from_residual-in_err-keep-in-Some.ensures ∙ ap (option_map Known) (sym c.in_err-keep-in-Some.was ∙ c.keep.ensures ∙ ap (λ (b : List ℕ). known_at b c.in-Some.part.kind c.open_part.new.self.at c.in-Some.part.stop) c.open_part.ensures.edge.0)
    ∙ stand_known c.args.bytes.now c.args.spot c.args.at c.args.end (omega arith) (omega arith) _ _ _ f.0 f.1 f.2 f.4

pub returns-in_ok-keep-in-Some : goal.returns-in_ok-keep-in-Some
returns-in_ok-keep-in-Some c =
    let r = ok_some c.open_part.result _ (sym c.ok.ensures.value ∙ c.in_ok-part.was ∙ ap Some c.in-Some.is) in
    let f = rw r at c.open_part.ensures.found in
    ap (option_map Known) (sym c.in_ok-keep-in-Some.was ∙ c.keep.ensures ∙ ap (λ (b : List ℕ). known_at b c.in-Some.part.kind c.open_part.new.self.at c.in-Some.part.stop) c.open_part.ensures.edge.0)
    ∙ stand_known c.args.bytes.now c.args.spot c.args.at c.args.end (omega arith) (omega arith) _ _ _ f.0 f.1 f.2 f.4

pub returns-in-None : goal.returns-in-None
returns-in-None c =
    let r = ok_some c.open_part.result _ (sym c.ok.ensures.value ∙ c.in_ok-part.was ∙ ap Some c.in-None.is) in
    let f = rw r at c.open_part.ensures.found in
    stand_unknown c.args.bytes.now c.args.spot c.args.at c.args.end (omega arith) (omega arith) _ f.0 f.1
