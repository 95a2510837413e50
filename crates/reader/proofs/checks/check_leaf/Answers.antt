use Rattle.std.proofs.Common.{◌≡◌, Err, sym, ap, ◌∙◌, arith, rules}
use Rattle.std.proofs.lemmas.Result.{err_from_is_err_and}
use Rattle.grammar.specs.Format.{layout}
use Rattle.grammar.proofs.Steps.{closed_leafy, flat_fault, leaf_ok, data_closed}
use Rattle.reader.proofs.checks.check_leaf.Goals as goal

pub returns-in_err-pass_data-clause-value : goal.returns-in_err-pass_data-clause-value
returns-in_err-pass_data-clause-value c =
    let p = err_from_is_err_and c.from_residual.result c.from_residual.ensures.1 in
    let r = c.args.reader.now in
    let t = c.args.part in
    let d = c.requires.here in
    λ n few. p.1 ∙ ap Err p.2 ∙ sym (flat_fault r.bytes.now t.kind t.level n t.place r.at t.stop (omega arith) (omega arith) d.1 (omega (arith, d.2, r.within))
    (closed_leafy (layout t.kind).inside c.requires.leaf.1) few _ (sym c.pass_data.ensures.value ∙ c.in_err-pass_data.was))

pub returns : goal.returns
returns c =
    let r = c.args.reader.now in
    let t = c.args.part in
    let d = c.requires.here in
    let q = sym c.pass_data.ensures.value ∙ c.in_ok-pass_data.was in
    let e = data_closed r.bytes.now t.kind t.level t.place r.at t.stop _ c.requires.leaf.1 q in
    let m = c.in_ok-pass_data.ensures.moved in
    let there : c.drop-inner-2.new.self.0.at ≡ t.stop = omega (arith, c.drop-inner-2.ensures.at) in
    record {
      value = λ n few. sym (leaf_ok r.bytes.now t.kind t.level n t.place r.at t.stop (omega arith) (omega arith) d.1 (omega (arith, d.2, r.within))
          (closed_leafy (layout t.kind).inside c.requires.leaf.1) few _ q c.requires.leaf.1);
      edge = search rules;
      moved = (search rules, omega arith);
    }
