use Rattle.std.proofs.Common.{◌∙◌, ap}
use Rattle.sheet.specs.Held.{held}
use Rattle.grammar.specs.Sheet.{room_in}
use Rattle.runs.specs.Scripts.{called}
use Rattle.runs.proofs.Parted.{send_wrote}
use Rattle.runs.proofs.stage.step_fair.Goals as goal

pub returns-in-Send-clause-wrote : goal.returns-in-Send-clause-wrote
returns-in-Send-clause-wrote c =
    let room = c.requires.room ∙ ap (λ x. room_in (called x)) c.in-Send.is in
    rw c.in-Send.is (send_wrote (held c.args.fair.store) c.args.part.now c.send-sent.new.out c.send-sent.result c.in-Send.field-0 room c.send-sent.ensures.sent)
