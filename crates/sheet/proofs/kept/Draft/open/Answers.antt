use Rattle.std.proofs.Common.{◌∷◌, length, sym, ap, ◌∙◌, arith, w32, to_z, of_z}
use Rattle.sheet.specs.declared.part.Part.{Part}
use Rattle.sheet.specs.declared.part.Part.TheVariants.{Holder}
use Rattle.sheet.specs.Kept.{rows_held, rows_open, size_of}
use Rattle.sheet.specs.Parts.{has_kind, fits_kind, row_of}
use Rattle.sheet.proofs.Judges.{passes}
use Rattle.sheet.proofs.Stands.{more_stands, open_few}
use Rattle.sheet.proofs.kept.Draft.open.Goals as goal

pub push-requires : goal.push-requires
push-requires c =
    let d = c.args.self.now in
    let k = c.args.kind in
    let part : Part = Holder (to_z w32 (of_z w32 c.args.a)) (to_z w32 (of_z w32 c.args.b)) in
    let row = row_of (length (rows_open d)) k part in
    let p = passes (size_of d) (rows_held d) (rows_open d) (has_kind part k) (fits_kind part k) row (sym c.add.ensures.told ∙ c.in_ok-add.was) in
    let stands = more_stands (size_of d) (rows_held d) (rows_open d) (fits_kind part k) row p d.stands in
    omega (arith, open_few (k ∷ rows_open d) stands, ap length c.in_ok-add.ensures.took.1)
