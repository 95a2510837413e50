use Rattle.std.proofs.Common.{◌≡◌, ℕ, suc, ◌+◌, ◌-◌, get_or, take, drop, sym, ap, ◌∙◌, ap₂, arith}
use Rattle.grammar.specs.declared.table.Layout.{Layout}
use Rattle.grammar.specs.Grammar.{Row as Told}
use Rattle.grammar.specs.Reading.{is_text}
use Rattle.grammar.proofs.Exact.{bytes_each}
use Rattle.grammar.proofs.Numbers.{bytes_take, bytes_drop}
use Rattle.reader.proofs.Sighted.{text_told}
use Rattle.reader.proofs.sights.Sight.text.Goals as goal

pub returns : goal.returns
returns c =
    let bs = c.args.bytes.now in
    let s = c.args.self.now in
    let t = ap (λ (x : Layout). is_text x.fields) (sym c.layout_of.ensures) ∙ sym c.is_text.ensures ∙ c.if-not-is_text.false in
    let n : s.from + 1 + c.from-length.result - (s.from + 1) ≡ get_or bs s.from 0 = omega arith in
    let i : s.from + 1 ≡ suc s.from = omega arith in
    record {
      text = ap₂ (λ (n i : ℕ). take n (drop i bs)) n i ∙ sym (ap (λ (x : Told). x.text) (text_told bs s t c.requires));
      bytes = bytes_take (s.from + 1 + c.from-length.result - (s.from + 1)) (drop (s.from + 1) bs) (bytes_drop (s.from + 1) bs (bytes_each bs (λ i. let f = c.type_inv.bytes i in omega arith)));
    }
