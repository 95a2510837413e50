use Rattle.std.proofs.Common.{sym, ap, ◌∙◌, arith}
use Rattle.grammar.specs.declared.table.Layout.{Layout}
use Rattle.grammar.specs.Reading.{is_text}
use Rattle.grammar.proofs.Lines.{least_fixed, least_text}
use Rattle.reader.proofs.Passed.{text_fixed}
use Rattle.reader.proofs.parts.least_at.Goals as goal

pub bounds-bytes-at : goal.bounds-bytes-at
bounds-bytes-at c =
    let t = ap (λ (x : Layout). is_text x.fields) (sym c.layout_of-layout.ensures) ∙ sym c.if-is_text.ensures in
    let f = text_fixed c.args.bytes.now c.args.kind t in
    omega arith

pub returns-then-is_text : goal.returns-then-is_text
returns-then-is_text c =
    let e = ap (λ (x : Layout). x.fixed) c.layout_of-layout.ensures in
    let t = ap (λ (x : Layout). is_text x.fields) (sym c.layout_of-layout.ensures) ∙ sym c.if-is_text.ensures in
    let l = least_text c.args.bytes.now c.args.kind c.args.at t in
    omega arith

pub returns-else-is_text : goal.returns-else-is_text
returns-else-is_text c =
    let e = ap (λ (x : Layout). x.fixed) c.layout_of-layout.ensures in
    let t = ap (λ (x : Layout). is_text x.fields) (sym c.layout_of-layout.ensures) ∙ sym c.if-is_text.ensures in
    let l = least_fixed c.args.bytes.now c.args.kind c.args.at t in
    omega arith
