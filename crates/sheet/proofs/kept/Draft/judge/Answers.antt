use Rattle.std.proofs.Common.{length, ap, arith}
use Rattle.std.proofs.lemmas.Grind.{common_steps}
use Rattle.sheet.specs.Kept.{rows_held, rows_open, size_of}
use Rattle.sheet.specs.Parts.{row_of}
use Rattle.sheet.proofs.Judges.{too_costly, not_costly}
use Rattle.sheet.proofs.kept.Draft.judge.Goals as goal

pub returns-then-self-text : goal.returns-then-self-text
returns-then-self-text c =
    let d = c.args.self.now in
    let row = row_of (length (rows_open d)) c.args.kind c.args.part in
    grind (arith, common_steps, too_costly (size_of d) d.store.used (rows_held d) row d.store.costs d.store.fits (omega (arith, c.if-self-text.true, ap length c.text.ensures)))

pub returns : goal.returns
returns c =
    let d = c.args.self.now in
    let row = row_of (length (rows_open d)) c.args.kind c.args.part in
    grind (arith, common_steps, not_costly (size_of d) d.store.used (rows_held d) row d.store.costs d.store.fits (omega (arith, c.if-self-text.false, ap length c.text.ensures)))
