use Rattle.std.proofs.Common.{[], length, ap, arith}
use Rattle.grammar.specs.Sheet.{cost}
use Rattle.sheet.proofs.Encoded.{rows_none}
use Rattle.sheet.proofs.store.Store.clear.Goals as goal

pub invariant_of-self : goal.invariant_of-self
invariant_of-self c = record { fits = omega arith; counted = ap length (rows_none []); costs = ap cost (rows_none []); few = omega arith }
