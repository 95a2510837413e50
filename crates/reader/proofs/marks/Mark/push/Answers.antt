use Rattle.std.proofs.Common.{◌≡◌, ℕ, suc, ◌+◌, List, ◌∷◌, refl, ap, ◌∙◌, arith}
use Rattle.grammar.specs.Walk.{Frame as Holder}
use Rattle.reader.specs.declared.marks.Frame.{Frame}
use Rattle.reader.specs.Marks.{stack}
use Rattle.reader.proofs.marks.Mark.push.Goals as goal

onto : Holder → List Frame → ℕ → List Holder
onto f fs n = f ∷ stack fs n

pub returns : goal.returns
unfolding onto
returns c =
    let h : c.args.self.now.held + 1 ≡ suc c.from.result = omega arith in
    record {
      place = refl;
      holders = ap (stack c.put_frame.new.frames) h ∙ c.put_frame.ensures
          ∙ ap (onto (record { end = c.args.frame.end; spot = c.args.frame.spot }) c.args.self.now.frames) c.from.ensures;
    }
