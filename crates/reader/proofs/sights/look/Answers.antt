use Rattle.std.proofs.Common.{◌≡◌, sym, ap, ◌∙◌}
use Rattle.std.specs.Option.{option_map}
use Rattle.reader.specs.declared.marks.Mark.{Mark}
use Rattle.reader.specs.Seen.{FoundAt}
use Rattle.reader.specs.Stands.{known_at, stands_at}
use Rattle.reader.specs.declared.marks.Frame.{Frame}
use Rattle.reader.specs.declared.edge.Reader.{Reader}
use Rattle.reader.specs.declared.parts.Part.{Part}
use Rattle.reader.specs.declared.standings.Standing.TheVariants.{Known}
use Rattle.reader.proofs.Sighted.{after, rows_standing}
use Rattle.reader.proofs.Stood.{stand_known}
use Rattle.reader.proofs.sights.look.Goals as goal

-- what is kept of the component that was found is what stands there
stands : (m : Mark) (f : Frame) (r : Reader) (p : Part) → FoundAt m f r p
    → option_map Known (known_at r.bytes.now p.kind r.at p.stop) ≡ stands_at r.bytes.now f.spot m.at f.end
stands m f r p x = stand_known r.bytes.now f.spot m.at f.end x.0.2 x.0.3 p.stop p.kind r.at x.1.0 x.1.1 x.1.2 x.1.4

pub enter-requires : goal.enter-requires
enter-requires c = (
  c.requires.found.0,
  ap (option_map Known) (sym c.in_ok-keep.was ∙ c.keep.ensures) ∙ stands c.args.mark.now c.args.frame c.args.reader.now c.args.part c.requires.found,
)

pub returns-in_err-keep : goal.returns-in_err-keep
returns-in_err-keep c =
    let bs = c.args.reader.now.bytes.now in
    let m = c.args.mark.now in
    let f = c.args.frame in
    let o = c.requires.found.0 in
    let e = ap (option_map Known) (sym c.in_err-keep.was ∙ c.keep.ensures) ∙ stands m f c.args.reader.now c.args.part c.requires.found in
    rw c.from_residual.ensures (rows_standing bs m f o.0 o.1 o.2 o.3 ∙ ap (after bs m) (sym e))
