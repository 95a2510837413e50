use Rattle.std.proofs.Common.{◌∙◌}
use Rattle.sheet.proofs.Placed.{here_is}
use Rattle.sheet.proofs.place.Place.here.Goals as goal

pub returns : goal.returns
returns c = c.is_some.ensures ∙ here_is c.args.bytes.now c.args.self c.record.result (λ x. x.now) (λ x. x.now) c.record.ensures
