use Rattle.std.proofs.Common.{ℕ, sym, subst}
use Rattle.tpegloc.specs.Coded.{Restates}
use Rattle.tpegloc.proofs.for_c.restate.Goals as goal

pub returns-clause-best : goal.returns-clause-best
returns-clause-best c =
    subst (λ (n : ℕ). Restates c.args.bytes.now c.args.out.now n c.send_again.new.out) (sym c.as_code.ensures) c.send_again.ensures.best
