use Rattle.std.proofs.Common.{◌≡◌, ℕ, ◌<◌, true, false, get_or, Err, sym, ap, ◌∙◌, subst, arith, rules}
use Rattle.std.proofs.lemmas.Result.{err_from_is_err_and}
use Rattle.grammar.specs.declared.table.Spot.{Spot}
use Rattle.grammar.specs.Format.{layout, kind_at}
use Rattle.grammar.specs.Reading.{closed, sealed}
use Rattle.grammar.specs.Checks.{leafy}
use Rattle.grammar.proofs.Cut.{by_cases}
use Rattle.grammar.proofs.Lines.{leafy_closed}
use Rattle.grammar.proofs.Steps.{leafy_open}
use Rattle.reader.proofs.Turns.{turns_done, turn_past, turn_fault, turn_ok, at_data}
use Rattle.reader.proofs.checks.check_leaves.Goals as goal

-- where a component is still to come, parts may stand
open_spot : (s : Spot) → leafy s ≡ true → (at end : ℕ) → (closed s ≡ true → at ≡ end) → at < end → sealed s ≡ false
open_spot s y at end k h = (leafy_open s y (by_cases (closed s) (λ q. let e = k q in absurd (omega arith)) (λ q. q))).1

pub next_part-requires : goal.next_part-requires
next_part-requires c =
    let i = c.loop-part.invariant in
    record { free = λ h. open_spot c.args.spot c.requires.leaves c.args.reader.now.at c.args.reader.now.end c.requires.some (omega (arith, i.0.1)) }

pub returns-in_err-part-clause-value : goal.returns-in_err-part-clause-value
returns-in_err-part-clause-value c =
    let p = err_from_is_err_and c.from_residual.result c.from_residual.ensures.1 in
    let r = c.loop-part.reader in
    let i = c.loop-part.invariant in
    λ n few. p.1 ∙ ap Err p.2 ∙ turn_past r c.args.spot c.args.level n _ _ (i.2 n few) _ c.next_part.new.self c.in_err-part.ensures.next

pub check_leaf-requires : goal.check_leaf-requires
check_leaf-requires c =
    let f = rw c.in-Some.is at c.in_ok-part.ensures.next in
    let r = c.loop-part.reader in
    let t = c.in-Some.part in
    let k : kind_at c.args.spot (get_or r.bytes.now t.place 0) ≡ t.kind = f.0.1 in
    let z : 0 < t.kind = f.0.2 in
    record {
      here = at_data r.bytes.now c.args.spot c.args.level t.place r c.next_part.new.self t c.next_part.ensures.edge f.0;
      levels = (omega (arith, f.0.7), omega (arith, f.0.7));
      leaf = (z, subst (λ (x : ℕ). closed (layout x).inside ≡ true) k (leafy_closed c.args.spot (get_or r.bytes.now t.place 0) c.requires.leaves (omega arith)));
    }

pub returns-in_err-rows-clause-value : goal.returns-in_err-rows-clause-value
returns-in_err-rows-clause-value c =
    let p = err_from_is_err_and c.from_residual-in_err-rows.result c.from_residual-in_err-rows.ensures.1 in
    let r = c.loop-part.reader in
    let i = c.loop-part.invariant in
    let f = rw c.in-Some.is at c.in_ok-part.ensures.next in
    let o = open_spot c.args.spot c.requires.leaves c.args.reader.now.at c.args.reader.now.end c.requires.some (omega (arith, i.0.1, f.0.4, f.0.5, f.0.6, f.1)) in
    λ n few. p.1 ∙ ap Err p.2
    ∙ turn_fault r c.args.spot c.args.level n _ _ (i.2 n few) c.in-Some.part c.next_part.new.self c.next_part.ensures.edge o f _
    (sym (c.check_leaf.ensures.value n few) ∙ c.in_err-rows.was)

pub loop-part-preserved : goal.loop-part-preserved
loop-part-preserved c =
    let r = c.loop-part.reader in
    let i = c.loop-part.invariant in
    let f = rw c.in-Some.is at c.in_ok-part.ensures.next in
    let o = open_spot c.args.spot c.requires.leaves c.args.reader.now.at c.args.reader.now.end c.requires.some (omega (arith, i.0.1, f.0.4, f.0.5, f.0.6, f.1)) in
    let m = c.in_ok-rows.ensures.moved in
    let a = c.next_part.ensures.edge in
    let b = c.check_leaf.ensures.edge in (
      (b.0 ∙ a.0 ∙ i.0.0, b.1 ∙ a.1 ∙ i.0.1),
      omega (arith, f.1),
      λ n few.
          turn_ok r c.args.spot c.args.level n _ _ (i.2 n few) c.in-Some.part c.next_part.new.self a o f _ c.check_leaf.new.reader
          (sym (c.check_leaf.ensures.value n few) ∙ c.in_ok-rows.was) m.0 b,
    )

pub returns : goal.returns
returns c =
    let i = c.loop-part.invariant in
    let f = rw c.in_default.is at c.in_ok-part.ensures.next in
    record {
      value = λ n few. turns_done c.loop-part.reader c.args.spot c.args.level n _ _ (i.2 n few) c.next_part.new.self f;
      edge = search rules;
      moved = (f.0 ∙ i.0.1, omega (arith, i.0.1, c.loop-part.reader.order));
    }
