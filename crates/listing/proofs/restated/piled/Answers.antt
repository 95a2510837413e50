use Rattle.reader.specs.Whole.{rows_of}
use Rattle.listing.proofs.restated.piled.Goals as goal

-- what holds of every list of the container below holds of its rows
pub returns : goal.returns
returns c = c.pile_up.ensures rows_of
