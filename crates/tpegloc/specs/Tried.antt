-- The whole promise: of a script's run on one sheet, and of what two locations send.
use Rattle.std.specs.Prelude.{ℕ, List, length}
use Rattle.grammar.specs.Grammar.{Rows}
use Rattle.runs.specs.declared.script.Call.{Call}
use Rattle.runs.specs.declared.script.Answer.{Answer}
use Rattle.runs.specs.Scripts.{fits_script, Ran}
use Rattle.tpegloc.specs.declared.pair.Agreement.{Agreement}
use Rattle.tpegloc.specs.Agreed.{Agreed}

pub record Tried (size : ℕ) (calls : List Call) (answers answers' : List Answer) (out out' : List ℕ) (held : Rows) (a b : Rows) (left left' right right' : List ℕ) (r : Agreement) : Type 0 where
  -- Each answer follows from the rows held and open before its call, and these from the calls and answers before; what is sent is the best container of
  -- the rows held; at the end the sheet tells the rows held.
  pub run : Ran size calls answers answers' out out' held (fits_script calls (length answers) (length out))
  -- Of all legal containers that tell a location's rows the best is sent, or there is none, or it needs more room; equal bytes exactly when equal rows;
  -- with room for the longest container a location is refused exactly when no legal container tells its rows.
  pub pair : Agreed a b left left' right right' r
