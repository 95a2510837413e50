use Rattle.std.proofs.Common.{◌≡◌, ℕ, ◌+◌, ◌-◌, ◌*◌, ◌^◌, ◌<◌, get_or, drop, ap, ◌∙◌, arith, get_or-take, get_or-drop}
use Rattle.grammar.specs.Offsets.{value}
use Rattle.reader.proofs.Digits.{digit_more, few, wider}
use Rattle.reader.proofs.parts.number_at.Goals as goal

pub overflow_mul-n : goal.overflow_mul-n
overflow_mul-n c = omega (arith, few c.loop-b.b-index c.loop-b.n (omega arith) c.loop-b.invariant.0)

pub overflow_add-n : goal.overflow_add-n
overflow_add-n c = omega (arith, few c.loop-b.b-index c.loop-b.n (omega arith) c.loop-b.invariant.0)

pub loop-b-preserved : goal.loop-b-preserved
loop-b-preserved c =
    let bs = c.args.bytes.now in
    let i = c.loop-b.b-index in
    let h : i < c.args.width = omega arith in
    let b : c.from.result ≡ get_or bs (c.args.at + i) 0 =
    c.from.ensures ∙ get_or-take (c.args.at + c.args.width - c.args.at) (drop c.args.at bs) i 0 (omega arith) ∙ get_or-drop c.args.at bs i 0 in
    let k : c.from.result < 256 = omega arith in (
      wider i c.loop-b.n c.from.result c.loop-b.invariant.0 k,
      ap (λ (x : ℕ). (c.loop-b.n * 256 + x) * 256 ^ (c.args.width - (i + 1)) + value bs (c.args.at + (i + 1)) (c.args.width - (i + 1))) b
          ∙ digit_more bs c.args.at c.args.width i c.loop-b.n _ h c.loop-b.invariant.1,
    )
