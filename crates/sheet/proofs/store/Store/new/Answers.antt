use Rattle.std.proofs.Common.{[], length, ap, arith}
use Rattle.grammar.specs.Sheet.{cost}
use Rattle.sheet.proofs.Encoded.{rows_none}
use Rattle.sheet.proofs.store.Store.new.Goals as goal

pub invariant_of-result : goal.invariant_of-result
invariant_of-result c = record { fits = omega arith; counted = ap length (rows_none []); costs = ap cost (rows_none []); few = omega arith }
