-- What was read tells the numbers there.
use Rattle.std.proofs.Common.{Some, sym, ap, ◌∙◌}
use Rattle.fields.proofs.Places.{told_numbers}
use Rattle.fields.proofs.told_at.Goals as goal

pub returns : goal.returns
returns g c =
    told_numbers g.F.Tells.shape g.met.F.Tells.honest _ g.met.F.Tells.tied c.args.bytes.now c.args.at (sym c.in_ok-read_at.was ∙ c.read_at.ensures) (ap Some c.told.ensures)

pub returns-in_err-read_at : goal.returns-in_err-read_at
returns-in_err-read_at g c =
    told_numbers g.F.Tells.shape g.met.F.Tells.honest _ g.met.F.Tells.tied c.args.bytes.now c.args.at (sym c.in_err-read_at.was ∙ c.read_at.ensures) c.from_residual.ensures
