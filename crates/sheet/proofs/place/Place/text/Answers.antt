use Rattle.sheet.proofs.Placed.{text_is}
use Rattle.sheet.proofs.place.Place.text.Goals as goal

pub returns-in-Some : goal.returns-in-Some
returns-in-Some c = text_is c.args.bytes.now c.args.self c.in-Some.field-0-0.now c.in-Some.text.now c.in-Some.ensures
