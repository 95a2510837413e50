use Rattle.std.proofs.Common.{rules}
use Rattle.std.proofs.lemmas.Iterator.{YieldsList-from_slice, YieldsList-from_map_by}
use Rattle.std.proofs.lemmas.Iterator.Consumers.{map_from_collect}
use Rattle.runs.specs.Scripts.{called}
use Rattle.scripts.specs.Played.{asked_call}
use Rattle.scripts.proofs.played.calls_of.Goals as goal

pub returns : goal.returns
returns c = map_from_collect _ c.collect.ensures.ran (YieldsList-from_map_by _ called asked_call (YieldsList-from_slice c.args.script.now cc) c.map.ensures.closure (λ x r q k. search rules))
