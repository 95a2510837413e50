use Rattle.listing.proofs.Unhexing.{IsReadTo}
use Rattle.listing.proofs.unhexed.read_hex.Given as goal

abbrev pub invariant-loop-c : goal.invariant-loop-c
invariant-loop-c l = IsReadTo (goal.iterator-loop-c).next_gives l.text l.out.items l.digits
