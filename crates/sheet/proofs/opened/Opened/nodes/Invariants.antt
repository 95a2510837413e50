use Rattle.std.proofs.Common.{◌≡◌, take, reverse}
use Rattle.grammar.specs.Sheet.{nodes_open}
use Rattle.sheet.proofs.opened.Opened.nodes.Given as goal

abbrev pub invariant-loop-kind : goal.invariant-loop-kind
invariant-loop-kind l = l.nodes ≡ nodes_open (reverse (take l.kind-index l.kinds))
