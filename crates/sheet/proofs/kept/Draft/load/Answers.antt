use Rattle.std.proofs.Common.{Ok, Err, sym, ap, ◌∙◌}
use Rattle.std.proofs.lemmas.Result.{err_from_is_err_and}
use Rattle.grammar.proofs.Complete.{reading_complete}
use Rattle.reader.specs.Whole.{rows_of}
use Rattle.sheet.specs.Kept.{rows_held, rows_open, size_of}
use Rattle.sheet.proofs.Judges.{judged_load}
use Rattle.sheet.proofs.kept.Draft.load.Goals as goal

pub returns-in_err-replace-clause-told : goal.returns-in_err-replace-clause-told
returns-in_err-replace-clause-told c =
    let p = err_from_is_err_and c.from_residual-in_err-replace.result c.from_residual-in_err-replace.ensures.1 in
    let d = c.args.self.now in
    let new = rows_of c.in_ok-container.container in
    let read = reading_complete c.args.bytes.now new c.in_ok-container.ensures.1 in
    p.1 ∙ ap Err p.2 ∙ sym c.in_err-replace.was ∙ c.replace.ensures.told ∙ judged_load (size_of d) (rows_held d) new (rows_open d) _ c.args.bytes.now c.count.ensures read

pub returns-clause-told : goal.returns-clause-told
returns-clause-told c =
    let d = c.args.self.now in
    let new = rows_of c.in_ok-container.container in
    let read = reading_complete c.args.bytes.now new c.in_ok-container.ensures.1 in
    sym c.in_ok-replace.was ∙ c.replace.ensures.told ∙ judged_load (size_of d) (rows_held d) new (rows_open d) _ c.args.bytes.now c.count.ensures read

pub returns-clause-took : goal.returns-clause-took
returns-clause-took c =
    let new = rows_of c.in_ok-container.container in
    let read = reading_complete c.args.bytes.now new c.in_ok-container.ensures.1 in
    (read ∙ ap Ok (sym c.in_ok-replace.ensures.took), c.clear.ensures)
