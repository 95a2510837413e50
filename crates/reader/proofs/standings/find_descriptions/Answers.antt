use Rattle.std.proofs.Common.{ℕ, List, length, sym, ap, ap₂, ◌∙◌, arith, eqb-true}
use Rattle.grammar.specs.Offsets.{ends}
use Rattle.grammar.specs.Walk.{Stretch}
use Rattle.grammar.proofs.Walked.{data_none, data_past, data_here, data_other}
use Rattle.reader.proofs.standings.find_descriptions.Goals as goal

pub returns-then-is_empty : goal.returns-then-is_empty
returns-then-is_empty c =
    let z = eqb-true (length c.args.bytes.now) 0 (sym c.if-is_empty.ensures) in
    let e = data_none c.args.bytes.now 1 (omega arith) in
    record { start = ap (λ (s : Stretch). s.start) (sym e); end = ap (λ (s : Stretch). s.end) (sym e) }

pub returns-in_default : goal.returns-in_default
returns-in_default c =
    let i = c.loop-reader.invariant in
    let bs = c.args.bytes.now in
    let q = ap₂ (λ (b : List ℕ) (n : ℕ). ends b 2 0 c.loop-reader.reader.1.0 n) (sym i.0) (sym i.1) ∙ sym c.header.ensures.value ∙ c.in_default.is in
    let e = i.3 ∙ data_past bs c.loop-reader.reader.1.0 _ (omega arith) q in
    record { start = ap (λ (s : Stretch). s.start) (sym e); end = ap (λ (s : Stretch). s.end) (sym e) }

pub returns-then-bytes-place-eq-DESCRIPTIONS : goal.returns-then-bytes-place-eq-DESCRIPTIONS
returns-then-bytes-place-eq-DESCRIPTIONS c =
    let i = c.loop-reader.invariant in
    let bs = c.args.bytes.now in
    let q = ap₂ (λ (b : List ℕ) (n : ℕ). ends b 2 0 c.loop-reader.reader.1.0 n) (sym i.0) (sym i.1) ∙ sym c.header.ensures.value ∙ c.in-Ok.is in
    let m = c.in-Ok.ensures.moved in
    let e = i.3 ∙ data_here bs c.loop-reader.reader.1.0 _ (omega arith) q c.if-bytes-place-eq-DESCRIPTIONS.true in
    record { start = m.0 ∙ ap (λ (s : Stretch). s.start) (sym e); end = ap (λ (s : Stretch). s.end) (sym e) }

pub loop-reader-preserved : goal.loop-reader-preserved
loop-reader-preserved c =
    let i = c.loop-reader.invariant in
    let bs = c.args.bytes.now in
    let q = ap₂ (λ (b : List ℕ) (n : ℕ). ends b 2 0 c.loop-reader.reader.1.0 n) (sym i.0) (sym i.1) ∙ sym c.header.ensures.value ∙ c.in-Ok.is in
    let m = c.in-Ok.ensures.moved in
    let e = c.header.ensures.edge in
    (e.0 ∙ i.0, e.1 ∙ i.1, omega arith, i.3 ∙ data_other bs c.loop-reader.reader.1.0 _ (omega arith) q c.if-bytes-place-eq-DESCRIPTIONS.false)

pub returns : goal.returns
returns c =
    let i = c.loop-reader.invariant in
    let e = i.3 ∙ data_none c.args.bytes.now c.loop-reader.reader.1.0 (omega arith) in
    record { start = ap (λ (s : Stretch). s.start) (sym e); end = ap (λ (s : Stretch). s.end) (sym e) }
