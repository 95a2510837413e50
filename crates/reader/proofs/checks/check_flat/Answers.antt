use Rattle.std.proofs.Common.{◌≡◌, ℕ, ◌+◌, ◌≤◌, List, Err, sym, ap, ◌∙◌, ap₂, arith, rules}
use Rattle.std.proofs.lemmas.Result.{err_from_is_err_and}
use Rattle.grammar.specs.declared.table.Layout.{Layout}
use Rattle.grammar.specs.Checks.{parts_of}
use Rattle.grammar.proofs.Steps.{flat_fault, flat_inner_fault, flat_ok}
use Rattle.reader.proofs.checks.check_flat.Goals as goal

pub returns-in_err-pass_data-clause-value : goal.returns-in_err-pass_data-clause-value
returns-in_err-pass_data-clause-value c =
    let p = err_from_is_err_and c.from_residual.result c.from_residual.ensures.1 in
    let r = c.args.reader.now in
    let t = c.args.part in
    let d = c.requires.here in
    λ n few. p.1 ∙ ap Err p.2 ∙ sym (flat_fault r.bytes.now t.kind t.level n t.place r.at t.stop (omega arith) (omega arith) d.1 (omega (arith, d.2, r.within))
    c.requires.flat.1 few _ (sym c.pass_data.ensures.value ∙ c.in_err-pass_data.was))

pub returns-in_err-rows-clause-value : goal.returns-in_err-rows-clause-value
returns-in_err-rows-clause-value c =
    let p = err_from_is_err_and c.from_residual-in_err-rows.result c.from_residual-in_err-rows.ensures.1 in
    let r = c.args.reader.now in
    let t = c.args.part in
    let d = c.requires.here in
    let q = sym c.pass_data.ensures.value ∙ c.in_ok-pass_data.was in
    let m = c.in_ok-pass_data.ensures.moved in
    let e = c.pass_data.ensures.edge in
    let inner = λ (n : ℕ) (few : n ≤ 8).
    ap₂ (λ (l : Layout) (b : List ℕ). parts_of b l.inside (t.level + 1) n c.in_ok-pass_data.field-0 t.stop) (sym c.layout_of.ensures) (sym e.0)
    ∙ ap₂ (λ (x y : ℕ). parts_of c.pass_data.new.self.bytes.now c.layout_of.result.inside (t.level + 1) n x y) (sym m.0) (sym e.1)
    ∙ sym (c.check_leaves.ensures.value n few) ∙ c.in_err-rows.was in
    λ n few. p.1 ∙ ap Err p.2
    ∙ sym (flat_inner_fault r.bytes.now t.kind t.level n t.place r.at t.stop (omega arith) (omega arith) d.1 (omega (arith, d.2, r.within)) c.requires.flat.1 few _ q _ (inner n few))

pub returns : goal.returns
returns c =
    let r = c.args.reader.now in
    let t = c.args.part in
    let d = c.requires.here in
    let q = sym c.pass_data.ensures.value ∙ c.in_ok-pass_data.was in
    let m = c.in_ok-pass_data.ensures.moved in
    let e = c.pass_data.ensures.edge in
    let inner = λ (n : ℕ) (few : n ≤ 8).
    ap₂ (λ (l : Layout) (b : List ℕ). parts_of b l.inside (t.level + 1) n c.in_ok-pass_data.field-0 t.stop) (sym c.layout_of.ensures) (sym e.0)
    ∙ ap₂ (λ (x y : ℕ). parts_of c.pass_data.new.self.bytes.now c.layout_of.result.inside (t.level + 1) n x y) (sym m.0) (sym e.1)
    ∙ sym (c.check_leaves.ensures.value n few) ∙ c.in_ok-rows.was in
    let v = c.in_ok-rows.ensures.moved in
    let there : c.drop-inner-2.new.self.0.at ≡ t.stop = c.drop-inner-2.ensures.at ∙ v.0 ∙ e.1 in
    record {
      value = λ n few. sym (flat_ok r.bytes.now t.kind t.level n t.place r.at t.stop (omega arith) (omega arith) d.1 (omega (arith, d.2, r.within)) c.requires.flat.1 few _ q _ (inner n few));
      edge = search rules;
      moved = (search rules, omega arith);
    }
