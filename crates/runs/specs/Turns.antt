-- A sheet that a script goes over, beside the log of its calls.
use Rattle.std.specs.Prelude.{◌≡◌, ℕ, List, [], ◌++◌, length, drop}
use Rattle.grammar.specs.Grammar.{Rows}
use Rattle.grammar.specs.Sheet as S
use Rattle.grammar.specs.Sheet.{done, sent, refused, not_sent, not_now, Log, draft, fair, stage, opened, if_accepted, opened_by, stage_by, judge}
use Rattle.sheet.specs.Held.{held}
use Rattle.sheet.specs.Kept.{rows_held, rows_open, size_of}
use Rattle.runs.specs.declared.script.Call.{Call}
use Rattle.runs.specs.declared.stage.Stage.{Stage}
use Rattle.runs.specs.declared.stage.Stage.TheVariants.{Draft, Fair}
use Rattle.runs.specs.Scripts.{rows_after, called}

abbrev pub stage_of : Stage → S.Stage
stage_of (Draft d) = draft
stage_of (Fair f) = fair

abbrev pub rows_on : Stage → Rows
rows_on (Draft d) = rows_held d
rows_on (Fair f) = held f.store

-- the kinds of the open rows, the innermost first; nothing is open on a fair copy
abbrev pub open_on : Stage → List ℕ
open_on (Draft d) = rows_open d
open_on (Fair f) = []

abbrev pub size_on : Stage → ℕ
size_on (Draft d) = size_of d
size_on (Fair f) = length f.store.buffer.now

-- the answer to a call
abbrev pub answer_on : Stage → Call → S.Answer
answer_on s c = judge (stage_of s) (size_on s) (rows_on s) (open_on s) (called c)

-- what a call with an answer leaves in an output of its own: what was sent lies over its front
abbrev pub laid : S.Answer → List ℕ → List ℕ
laid done out = out
laid (sent bytes d) out = bytes ++ drop (length bytes) out
laid (refused f) out = out
laid (not_sent f) out = out
laid not_now out = out

-- what a call with an answer makes of a sheet
pub record Turned (was : Stage) (c : S.Call) (x : S.Answer) (is : Stage) : Type 0 where
  pub rows_then : rows_on is ≡ rows_after c x (length (open_on was)) (rows_on was)
  pub open_then : open_on is ≡ if_accepted x (opened_by c (open_on was)) (open_on was)
  pub stage_then : stage_of is ≡ if_accepted x (stage_by c (stage_of was)) (stage_of was)
  pub size_then : size_on is ≡ size_on was

-- the sheet is as the log says
pub record Tied (size : ℕ) (s : Stage) (log : Log) : Type 0 where
  pub rows_are : rows_on s ≡ S.held log
  pub open_are : open_on s ≡ opened log
  pub stage_is : stage_of s ≡ stage log
  pub size_is : size_on s ≡ size
