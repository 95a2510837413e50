use Rattle.grammar.proofs.Choosing.{none_chosen}
use Rattle.sender.proofs.Decided.{bounded, settled}
use Rattle.sender.proofs.survey.settle.Goals as goal

pub returns-in_err-take_survey : goal.returns-in_err-take_survey
returns-in_err-take_survey g c =
    rw c.from_residual.ensures (none_chosen (g.L.Location.whole c.args.l.now) c.in_err-take_survey.ensures)

pub choose-requires : goal.choose-requires
choose-requires g c = bounded (g.L.Location.whole c.args.l.now) _ c.in_ok-take_survey.ensures

pub returns : goal.returns
returns g c = settled (g.L.Location.whole c.args.l.now) _ c.in_ok-take_survey.ensures _ c.choose.ensures
