use Rattle.std.proofs.Common.{sym, ap, ◌∙◌}
use Rattle.grammar.specs.declared.table.Layout.{Layout}
use Rattle.grammar.specs.Reading.{is_text}
use Rattle.reader.proofs.Sighted.{text_row}
use Rattle.reader.proofs.sights.Sight.row.Goals as goal

pub returns-then-is_text : goal.returns-then-is_text
returns-then-is_text c =
    let t = ap (λ (x : Layout). is_text x.fields) (sym c.layout_of-layout.ensures) ∙ sym c.if-is_text.ensures in
    text_row c.args.bytes.now c.args.self.now t c.requires c.language_of-language.result c.language_of-language.ensures
