use Rattle.std.proofs.Common.{◌≡◌, ℕ, List, [], ◌∷◌, get_or, Err, Result, sym, ap, ◌∙◌, subst, ap₂}
use Rattle.std.proofs.lemmas.Result.{err_from_is_err_and}
use Rattle.grammar.specs.declared.fault.ReadFault.{ReadFault}
use Rattle.grammar.specs.declared.table.Spot.TheVariants.{Descriptions}
use Rattle.grammar.specs.Grammar.{Tells}
use Rattle.grammar.specs.Reading.{reading}
use Rattle.grammar.specs.Walk.{rows_from, told_from, data_from}
use Rattle.grammar.proofs.Exact.{walk_told, fault_read}
use Rattle.reader.specs.declared.air.Container.{Container}
use Rattle.reader.specs.Whole.{Opens}
use Rattle.reader.proofs.air.Container.open.Goals as goal

pub returns-in_err-check : goal.returns-in_err-check
returns-in_err-check c =
    let p = err_from_is_err_and c.from_residual.result c.from_residual.ensures.1 in
    let bs = c.args.bytes.now in
    let e = c.in_err-check.ensures in
    subst (λ (r : Result Container ReadFault). Opens bs r) (sym (p.1 ∙ ap Err p.2)) (fault_read (reading bs) _ e.value, e.legal)

told_is : (bs zs : List ℕ) (start end : ℕ) → zs ≡ bs → start ≡ (data_from bs 1).start → end ≡ (data_from bs 1).end
    → told_from bs ≡ rows_from zs (get_or zs 0 0) (record { end = end; spot = Descriptions } ∷ []) start
told_is bs zs start end p q r =
    ap₂ (λ (x y : ℕ). rows_from bs (get_or bs 0 0) (record { end = y; spot = Descriptions } ∷ []) x) (sym q) (sym r)
    ∙ ap (λ (b : List ℕ). rows_from b (get_or b 0 0) (record { end = end; spot = Descriptions } ∷ []) start) (sym p)

pub returns : goal.returns
returns c =
    let bs = c.args.bytes.now in
    let e = c.in_ok-check.ensures.legal in
    let f = c.within.ensures in
    (f.bytes, subst (Tells bs) (told_is bs _ _ _ f.bytes f.start f.end) (walk_told bs e.0 e.1))
