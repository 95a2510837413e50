use Rattle.std.proofs.Common.{◌≡◌, false, length, sym, ap, ◌∙◌, arith}
use Rattle.grammar.specs.declared.table.Layout.{Layout}
use Rattle.grammar.specs.Format.{layout, fixed_bytes}
use Rattle.grammar.specs.Reading.{is_text}
use Rattle.sender.proofs.Laid.{fields_long}
use Rattle.sender.proofs.Headed.{front_held}
use Rattle.sender.proofs.rows.put_front.Goals as goal

pub fields-requires-clause-room : goal.fields-requires-clause-room
fields-requires-clause-room g c =
    let xs = g.L.Location.rows c.args.l.now c.args.step.now.mark in
    let e = c.layout_of-layout.ensures in
    let t : is_text (layout c.args.step.now.row.kind).fields ≡ false = ap (λ (l : Layout). is_text l.fields) (sym e) ∙ sym c.if-is_text.ensures in
    let f = ap length (front_held c.args.default xs c.args.step.now.row c.args.held c.requires.there t) in
    let n = fields_long (layout c.args.step.now.row.kind).fields c.args.step.now.row.a c.args.step.now.row.b c.args.held t in
    let s = ap (λ (l : Layout). fixed_bytes l.fields) e in
    omega (arith, c.requires.room)
