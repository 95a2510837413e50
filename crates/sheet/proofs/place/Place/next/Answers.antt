use Rattle.sheet.proofs.Placed.{next_is}
use Rattle.sheet.proofs.place.Place.next.Goals as goal

pub returns : goal.returns
returns c = next_is c.args.bytes.now c.args.self c.in_ok-text.field-0-0.now c.in_ok-text.text.now c.in_ok-text.ensures
