use Rattle.std.proofs.Common.{ℕ, ◌≤◌, length, IfOk, Ok, Err, sym, ◌∙◌, arith}
use borrow.Author.Tests.{eqb-false}
use Rattle.grammar.specs.Reading.{Read}
use Rattle.grammar.proofs.Steps.{reading_tops}
use Rattle.grammar.proofs.Exact.{told_exactly}
use Rattle.reader.proofs.checks.check.Goals as goal

fewer : (r : Read ℕ) (a b : ℕ) → a ≤ b → IfOk r (λ n. n ≤ a) → IfOk r (λ n. n ≤ b)
fewer (Ok n) a b h k = omega arith
fewer (Err f) a b h k = tt

pub returns : goal.returns
returns c =
    let some = eqb-false (length c.args.bytes.now) 0 (sym c.if-is_empty.ensures) in
    let v = c.check_tops.ensures.value ∙ sym (reading_tops c.args.bytes.now (omega arith) (omega arith)) in
    record {
      value = v;
      legal = told_exactly c.args.bytes.now (λ i. let f = c.type_inv.bytes i in omega arith) c.check_tops.result v;
      few = fewer c.check_tops.result _ _ (omega arith) c.check_tops.ensures.few;
    }
