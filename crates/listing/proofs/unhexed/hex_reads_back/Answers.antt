use Rattle.listing.proofs.Unhexing.{reads_back}
use Rattle.listing.proofs.unhexed.hex_reads_back.Goals as goal

pub returns : goal.returns
returns c = reads_back
