use Rattle.std.proofs.Common.{◌≡◌, ℕ, ◌+◌, true, false, List, length, is_some, Some, None, Ok, Err, Option, sym, refl, ap, ◌∙◌, ap₂, arith}
use Rattle.std.proofs.lemmas.Result.{err_from_is_err_and}
use Rattle.std.specs.Option.{unwrap_or}
use Rattle.grammar.specs.declared.table.Spot.TheVariants.{Descriptions}
use Rattle.grammar.specs.Offsets.{ends}
use Rattle.grammar.specs.Reading.{Read}
use Rattle.grammar.specs.Checks.{parts_of, tops_of, plus}
use Rattle.grammar.proofs.Cut.{go_then}
use Rattle.grammar.proofs.Steps.{tops_done, tops_past, tops_other, tops_second, tops_described, then_err, plus_plus}
use Rattle.reader.proofs.checks.check_tops.Goals as goal

-- what the header says, of a reader over all the bytes
told : (bs b : List ℕ) (at end : ℕ) → b ≡ bs → end ≡ length bs → (x y : Read ℕ) → x ≡ ends b 2 0 at end → x ≡ y → ends bs 2 0 at (length bs) ≡ y
told bs b at end p q x y e w = ap₂ (λ (l : List ℕ) (n : ℕ). ends l 2 0 at n) (sym p) (sym q) ∙ sym e ∙ w

-- the same of the descriptions' data
rows_told : (bs b : List ℕ) (at from stop : ℕ) → b ≡ bs → from ≡ at → (x y : Read ℕ) → x ≡ parts_of b Descriptions 1 0 from stop → x ≡ y
    → parts_of bs Descriptions 1 0 at stop ≡ y
rows_told bs b at from stop p q x y e w = ap₂ (λ (l : List ℕ) (n : ℕ). parts_of l Descriptions 1 0 n stop) (sym p) (sym q) ∙ sym e ∙ w

-- no rows are counted before the descriptions are seen
none_yet : (o : Option ℕ) → is_some o ≡ false → unwrap_or o 0 ≡ 0
none_yet None q = refl
none_yet (Some n) q = let y : ◌≡◌ {A = ℕ} 0 1 = cc in absurd (omega arith)

pub returns-in_err-stop : goal.returns-in_err-stop
returns-in_err-stop c =
    let p = err_from_is_err_and c.from_residual.result c.from_residual.ensures.1 in
    let i = c.loop-reader.invariant in
    let bs = c.args.bytes.now in
    let at = c.loop-reader.reader.1.0 in
    let q = told bs c.loop-reader.reader.0.now at c.loop-reader.reader.1.1.0 i.0 i.1 _ _ c.header.ensures.value c.in_err-stop.was in
    record {
      value = p.1 ∙ ap Err p.2 ∙ sym (i.4 ∙ ap (plus (unwrap_or c.loop-reader.rows 0)) (tops_past bs (is_some c.loop-reader.rows) at (omega arith) _ q));
      few = rw p.1 tt;
    }

pub returns-then-is_some : goal.returns-then-is_some
returns-then-is_some c =
    let i = c.loop-reader.invariant in
    let bs = c.args.bytes.now in
    let at = c.loop-reader.reader.1.0 in
    let q = told bs c.loop-reader.reader.0.now at c.loop-reader.reader.1.1.0 i.0 i.1 _ _ c.header.ensures.value c.in_ok-stop.was in
    record {
      value = sym (i.4 ∙ ap (plus (unwrap_or c.loop-reader.rows 0))
          (tops_second bs (is_some c.loop-reader.rows) at (omega arith) _ q c.if-bytes-place-eq-DESCRIPTIONS.true (sym c.if-is_some.ensures)));
      few = tt;
    }

pub returns-in_err-check_descriptions : goal.returns-in_err-check_descriptions
returns-in_err-check_descriptions c =
    let p = err_from_is_err_and c.from_residual-in_err-check_descriptions.result c.from_residual-in_err-check_descriptions.ensures.1 in
    let i = c.loop-reader.invariant in
    let bs = c.args.bytes.now in
    let at = c.loop-reader.reader.1.0 in
    let m = c.in_ok-stop.ensures.moved in
    let e = c.header.ensures.edge in
    let q = told bs c.loop-reader.reader.0.now at c.loop-reader.reader.1.1.0 i.0 i.1 _ _ c.header.ensures.value c.in_ok-stop.was in
    let d = rows_told bs c.header.new.self.bytes.now (at + 3) c.header.new.self.at c.in_ok-stop.stop (e.0 ∙ i.0) m.0 _ _ c.check_descriptions.ensures.value c.in_err-check_descriptions.was in
    record {
      value = p.1 ∙ ap Err p.2
          ∙ sym (i.4 ∙ ap (plus (unwrap_or c.loop-reader.rows 0))
          (tops_described bs (is_some c.loop-reader.rows) at (omega arith) _ q c.if-bytes-place-eq-DESCRIPTIONS.true (sym c.if-is_some.ensures)
          ∙ then_err (parts_of bs Descriptions 1 0 (at + 3) c.in_ok-stop.stop) _ _ d));
      few = rw p.1 tt;
    }

pub loop-reader-preserved-then-bytes-place-eq-DESCRIPTIONS : goal.loop-reader-preserved-then-bytes-place-eq-DESCRIPTIONS
loop-reader-preserved-then-bytes-place-eq-DESCRIPTIONS c =
    let i = c.loop-reader.invariant in
    let bs = c.args.bytes.now in
    let at = c.loop-reader.reader.1.0 in
    let m = c.in_ok-stop.ensures.moved in
    let v = c.in_ok-check_descriptions.ensures.moved in
    let e = c.header.ensures.edge in
    let e₂ = c.check_descriptions.ensures.edge in
    let n = c.in_ok-check_descriptions.field-0 in
    let z = none_yet c.loop-reader.rows (sym c.if-is_some.ensures) in
    let q = told bs c.loop-reader.reader.0.now at c.loop-reader.reader.1.1.0 i.0 i.1 _ _ c.header.ensures.value c.in_ok-stop.was in
    let d = rows_told bs c.header.new.self.bytes.now (at + 3) c.header.new.self.at c.in_ok-stop.stop (e.0 ∙ i.0) m.0 _ _ c.check_descriptions.ensures.value c.in_ok-check_descriptions.was in (
      e₂.0 ∙ e.0 ∙ i.0,
      e₂.1 ∙ e.1 ∙ i.1,
      omega arith,
      omega arith,
      i.4
          ∙ ap (plus (unwrap_or c.loop-reader.rows 0))
          (tops_described bs (is_some c.loop-reader.rows) at (omega arith) _ q c.if-bytes-place-eq-DESCRIPTIONS.true (sym c.if-is_some.ensures)
          ∙ go_then (parts_of bs Descriptions 1 0 (at + 3) c.in_ok-stop.stop) _ d refl)
          ∙ plus_plus (unwrap_or c.loop-reader.rows 0) n (tops_of bs true c.in_ok-stop.stop)
          ∙ ap₂ (λ (k x : ℕ). plus k (tops_of bs true x)) (omega arith) (sym v.0),
    )

pub loop-reader-preserved : goal.loop-reader-preserved
loop-reader-preserved c =
    let i = c.loop-reader.invariant in
    let bs = c.args.bytes.now in
    let at = c.loop-reader.reader.1.0 in
    let m = c.in_ok-stop.ensures.moved in
    let e = c.header.ensures.edge in
    let q = told bs c.loop-reader.reader.0.now at c.loop-reader.reader.1.1.0 i.0 i.1 _ _ c.header.ensures.value c.in_ok-stop.was in (
      e.0 ∙ i.0,
      e.1 ∙ i.1,
      omega arith,
      omega arith,
      i.4 ∙ ap (plus (unwrap_or c.loop-reader.rows 0)) (tops_other bs (is_some c.loop-reader.rows) at (omega arith) _ q c.if-bytes-place-eq-DESCRIPTIONS.false),
    )

pub returns : goal.returns
returns c =
    let i = c.loop-reader.invariant in
    let o = c.loop-reader.rows in
    record {
      value = ap Ok c.unwrap_or.ensures
          ∙ sym (i.4 ∙ ap (plus (unwrap_or o 0)) (tops_done c.args.bytes.now (is_some o) c.loop-reader.reader.1.0 (omega arith)) ∙ ap Ok (omega arith));
      few = omega (arith, c.unwrap_or.ensures);
    }
