use Rattle.std.proofs.Common.{List, map, nat_le, ap, ◌∙◌, rules}
use Rattle.runs.specs.declared.script.Call.{Call}
use Rattle.runs.specs.Scripts.{called, rooms}
use Rattle.runs.proofs.Fitting.{fits_tried}
use Rattle.runs.proofs.run.rooms_fit.Goals as goal

pub returns : goal.returns
returns c =
    let r = c.try_fold.ensures.ran in
    c.is_some.ensures
    ∙ fits_tried _ (λ p x q h. search rules) _ r.0 r.1 c.iter.result r.4.0 _ _ c.args.limit (r.2, r.3) _ r.4.1 r.4.2 r.5 r.6 (λ x h. search rules)
    ∙ ap (λ (cs : List Call). nat_le (rooms (map called cs)) c.args.limit) c.iter.ensures.rest
