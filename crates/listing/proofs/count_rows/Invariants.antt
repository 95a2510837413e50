use Rattle.std.proofs.Common.{◌≡◌, ◌+◌, ◌-◌, ◌^◌, ◌<◌, min, length}
use Rattle.listing.proofs.count_rows.Given as goal

abbrev pub invariant-loop-next : goal.invariant-loop-next
invariant-loop-next g l =
    (l.count < 2 ^ 64)
    × (min (l.count + length (g.L.Location.rows l.l l.at)) (2 ^ 64 - 1) ≡ min (length (g.L.Location.whole l.l)) (2 ^ 64 - 1))

abbrev pub decreases-loop-next : goal.decreases-loop-next
decreases-loop-next g l = length (g.L.Location.rows l.l l.at)
