use Rattle.std.proofs.Common.{rules}
use Rattle.scripts.proofs.Playing.{all_summed}
use Rattle.scripts.proofs.played.rooms_of.Goals as goal

pub returns : goal.returns
returns c =
    let r = c.try_fold.ensures.ran in
    all_summed _ (λ p x q h. search rules) c.try_fold.result r.0 r.1 c.iter.result r.4.0 _ c.args.script.now _ (r.2, r.3) _ c.iter.ensures.rest r.4.1 r.4.2 r.5 r.6 (λ x h. search rules)
