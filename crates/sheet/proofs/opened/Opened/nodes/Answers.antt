use Rattle.std.proofs.Common.{arith}
use Rattle.sheet.proofs.Backs.{nodes_more, nodes_within}
use Rattle.sheet.proofs.opened.Opened.nodes.Goals as goal

pub overflow_cast-nodes : goal.overflow_cast-nodes
overflow_cast-nodes c =
    let i = c.loop-kind.kind-index in
    omega (arith, nodes_within _ i _ _ _ c.loop-kind-test.true c.layout_of.ensures c.loop-kind.invariant c.deeper-nodes.ensures, c.loop-kind-test.true, c.as_slice-kinds.ensures.fits)

pub loop-kind-preserved : goal.loop-kind-preserved
loop-kind-preserved c = nodes_more _ c.loop-kind.kind-index _ _ _ c.loop-kind-test.true c.layout_of.ensures c.loop-kind.invariant c.deeper-nodes.ensures
