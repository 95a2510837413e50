use Rattle.std.proofs.Common.{[], ◌∷◌, length, sym, ap, ◌∙◌, arith}
use Rattle.location.specs.declared.Row.{Row}
use Rattle.sheet.specs.Kept.{rows_held, rows_open, size_of}
use Rattle.sheet.specs.Parts.{has_kind, fits_kind, row_of}
use Rattle.sheet.proofs.Encoded.{cost_append}
use Rattle.sheet.proofs.Judges.{passes}
use Rattle.sheet.proofs.kept.Draft.add.Goals as goal

pub put-requires-clause-room : goal.put-requires-clause-room
put-requires-clause-room c =
    let d = c.args.self.now in
    let p = passes (size_of d) (rows_held d) (rows_open d) (has_kind c.args.part c.args.kind) (fits_kind c.args.part c.args.kind)
    (row_of (length (rows_open d)) c.args.kind c.args.part) (sym c.judge.ensures ∙ c.in_ok-judge.was) in
    omega (arith, p.room, cost_append (rows_held d) (row_of (length (rows_open d)) c.args.kind c.args.part ∷ []), d.store.costs, ap (λ (r : Row). r.length) c.row-row.ensures)
