use Rattle.std.proofs.Common.{◌∙◌, w32, SFits, rules}
use Rattle.std.proofs.lemmas.Int.{to_z-of_z}
use Rattle.sheet.proofs.Placed.{row_is}
use Rattle.sheet.proofs.place.Place.row.Goals as goal

pub returns : goal.returns
returns c =
    let fa : SFits w32 c.from_be_bytes.result = search rules in
    let fb : SFits w32 c.from_be_bytes-2.result = search rules in
    row_is c.args.bytes.now c.args.self c.in_ok-head.head.now c.in_ok-head.field-0-1.now c.in_ok-head.ensures _ _
    (to_z-of_z w32 c.from_be_bytes.result fa ∙ c.from_be_bytes.ensures)
    (to_z-of_z w32 c.from_be_bytes-2.result fb ∙ c.from_be_bytes-2.ensures)
