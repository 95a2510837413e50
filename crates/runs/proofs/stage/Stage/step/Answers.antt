use Rattle.sheet.specs.Kept.{rows_held, rows_open, size_of}
use Rattle.runs.specs.Scripts.{called}
use Rattle.runs.proofs.Parted.{draft_wrote}
use Rattle.runs.proofs.stage.Stage.step.Goals as goal

pub returns-in-Draft-clause-wrote : goal.returns-in-Draft-clause-wrote
returns-in-Draft-clause-wrote c =
    let d = c.in-Draft.draft in
    rw c.in-Draft.is (draft_wrote (size_of d) (rows_held d) (rows_open d) (called c.args.call.now) c.args.part.now)
