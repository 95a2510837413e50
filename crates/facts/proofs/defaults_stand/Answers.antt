use Rattle.facts.proofs.Opened.{open_by_long_names}
use Rattle.facts.proofs.defaults_stand.Goals as goal

pub returns : goal.returns
returns c = open_by_long_names
