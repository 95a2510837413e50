use Rattle.std.proofs.Common.{◌≡◌, Err, sym, refl, ap, ◌∙◌, arith, rules}
use Rattle.std.proofs.lemmas.Result.{err_from_is_err_and}
use Rattle.grammar.specs.declared.table.Spot.TheVariants.{Descriptions}
use Rattle.reader.proofs.Turns.{turns_done, turn_past, turn_fault, turn_ok}
use Rattle.reader.proofs.checks.check_descriptions.Goals as goal

pub returns-in_err-node-clause-value : goal.returns-in_err-node-clause-value
returns-in_err-node-clause-value c =
    let p = err_from_is_err_and c.from_residual.result c.from_residual.ensures.1 in
    p.1 ∙ ap Err p.2 ∙ turn_past c.loop-node.inner.reader.now Descriptions 1 0 _ _ c.loop-node.invariant.3 _ c.next_part.new.self c.in_err-node.ensures.next

pub returns-in_err-rows-clause-value : goal.returns-in_err-rows-clause-value
returns-in_err-rows-clause-value c =
    let p = err_from_is_err_and c.from_residual-in_err-rows.result c.from_residual-in_err-rows.ensures.1 in
    let f = rw c.in-Some.is at c.in_ok-node.ensures.next in
    p.1 ∙ ap Err p.2
    ∙ turn_fault c.loop-node.inner.reader.now Descriptions 1 0 _ _ c.loop-node.invariant.3 c.in-Some.node c.next_part.new.self c.next_part.ensures.edge refl f _
    (sym c.check_node.ensures.value ∙ c.in_err-rows.was)

pub loop-node-preserved : goal.loop-node-preserved
loop-node-preserved c =
    let i = c.loop-node.invariant in
    let f = rw c.in-Some.is at c.in_ok-node.ensures.next in
    let v = c.in_ok-rows.ensures.moved in
    let a = c.next_part.ensures.edge in
    let b = c.check_node.ensures.edge in (
      (b.0 ∙ a.0 ∙ i.0.0, b.1 ∙ a.1 ∙ i.0.1),
      refl,
      omega (arith, f.1),
      turn_ok c.loop-node.inner.reader.now Descriptions 1 0 _ _ i.3 c.in-Some.node c.next_part.new.self a refl f _ c.check_node.new.reader
          (sym c.check_node.ensures.value ∙ c.in_ok-rows.was) v.0 b,
    )

pub returns : goal.returns
returns c =
    let i = c.loop-node.invariant in
    let f = rw c.in_default.is at c.in_ok-node.ensures.next in
    let there : c.drop-inner-2.new.self.0.at ≡ c.args.stop = c.drop-inner-2.ensures.at ∙ f.0 ∙ i.0.1 in
    record {
      value = turns_done c.loop-node.inner.reader.now Descriptions 1 0 _ _ i.3 c.next_part.new.self f;
      edge = search rules;
      moved = (search rules, omega (arith, i.0.1, c.loop-node.inner.reader.now.order));
    }
