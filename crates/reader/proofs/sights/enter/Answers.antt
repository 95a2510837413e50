use Rattle.std.proofs.Common.{◌≡◌, ◌-◌, ◌<◌, false, leb, sym, refl, ap, ◌∙◌, subst, arith, le-leb}
use borrow.Author.Tests.{clash}
use Rattle.grammar.specs.declared.table.Layout.{Layout}
use Rattle.grammar.specs.Format.{layout}
use Rattle.grammar.specs.Reading.{closed}
use Rattle.grammar.proofs.Walked.{first_way, other_way}
use Rattle.reader.proofs.Sighted.{after, rows_standing, rows_seen, Kept, kept}
use Rattle.reader.proofs.sights.enter.Goals as goal
use Rattle.reader.proofs.sights.enter.Goals.{else-not-is_closed-via-then-not-is_closed+else-from-ge-MOST_HOLDERS, else-not-is_closed-via-else-not-is_closed}

pub returns-then-from-ge-MOST_HOLDERS : goal.returns-then-from-ge-MOST_HOLDERS
returns-then-from-ge-MOST_HOLDERS c =
    let bs = c.args.bytes.now in
    let m = c.args.mark.now in
    let f = c.args.frame in
    let x = c.args.component in
    let o = c.requires.0 in
    let s : closed (layout x.kind).inside ≡ false = ap (λ (l : Layout). closed l.inside) (sym c.layout_of.ensures) ∙ sym c.is_closed.ensures ∙ c.if-not-is_closed.true in
    rows_standing bs m f o.0 o.1 o.2 o.3 ∙ ap (after bs m) (sym c.requires.1)
    ∙ other_way (closed (layout x.kind).inside) _ _ s (first_way (leb 17 m.held) _ _ (le-leb 17 m.held (omega arith)) refl)

pub returns : goal.returns
returns c =
    let bs = c.args.bytes.now in
    let m = c.args.mark.now in
    let f = c.args.frame in
    let x = c.args.component in
    let o = c.requires.0 in
    let k = subst (Kept bs m.at) (sym c.requires.1) (kept bs f.spot m.at f.end o.2 o.3) in
    let here = rows_standing bs m f o.0 o.1 o.2 o.3 ∙ ap (after bs m) (sym c.requires.1) in
    let roomy : closed (layout x.kind).inside ≡ false → m.held < 17 =
    λ s. elim c.else-not-is_closed.branch [
      | else-not-is_closed-via-then-not-is_closed+else-from-ge-MOST_HOLDERS w ↦ omega (arith, w.from.ensures, w.if-from-ge-MOST_HOLDERS.false)
      | else-not-is_closed-via-else-not-is_closed w ↦
          absurd (clash (sym (sym w.if-not-is_closed.false ∙ c.is_closed.ensures ∙ ap (λ (l : Layout). closed l.inside) c.layout_of.ensures ∙ s)))
    ]
    in
    (refl, (rows_seen bs m (record { depth = m.held - 1; kind = x.kind; from = x.from; inside = x.inside; stop = x.stop }) refl here roomy, roomy, record { fields = k.0; within = k.1; globe = k.2 }))
