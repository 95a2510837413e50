use Rattle.std.proofs.Common.{arith}
use Rattle.grammar.proofs.Exact.{bytes_each}
use Rattle.location.proofs.copy_front.Goals as goal

pub returns-then-text-out-clause-bytes : goal.returns-then-text-out-clause-bytes
returns-then-text-out-clause-bytes c = bytes_each c.args.text.now (λ i. let f = c.type_inv.text i in omega arith)

pub returns-clause-bytes : goal.returns-clause-bytes
returns-clause-bytes c = bytes_each c.args.text.now (λ i. let f = c.type_inv.text i in omega arith)
