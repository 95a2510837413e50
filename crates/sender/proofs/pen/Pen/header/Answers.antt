use Rattle.std.proofs.Common.{◌≡◌, ℕ, ◌^◌, ◌<◌, ◌∷◌, sym, ap, ◌∙◌, subst, arith}
use Rattle.grammar.specs.declared.table.Layout.{Layout}
use Rattle.grammar.specs.Format.{big, layout}
use Rattle.sender.proofs.Spliced.{width_few}
use Rattle.sender.proofs.Penned.{behind, wrote_as}
use Rattle.sender.proofs.pen.Pen.header.Goals as goal

pub number-requires : goal.number-requires
number-requires c =
    let e : c.from.result ≡ (layout c.args.kind).width = c.from.ensures ∙ ap (λ (l : Layout). l.width) c.layout_of-layout.ensures in
    let w = width_few c.args.kind in
    record {
      narrow = omega (arith, w.1);
      fits = subst (λ (n : ℕ). c.args.size < 256 ^ n) (sym e) c.requires.fits;
      room = omega (arith, c.byte.ensures.next, c.byte.ensures.long, c.requires.room);
    }

pub returns : goal.returns
returns c =
    let e : c.from.result ≡ (layout c.args.kind).width = c.from.ensures ∙ ap (λ (l : Layout). l.width) c.layout_of-layout.ensures in
    wrote_as _ _ _ _ (λ i. (c.layout_of-layout.ensures i).id ∷ big (e i) c.args.size) (behind _ _ _ _ _ c.byte.ensures c.number.ensures)
