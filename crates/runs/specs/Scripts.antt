-- A script's run: the log that its calls fix, and what it leaves in the answers and in the output.
use Rattle.std.specs.Prelude.{◌≡◌, ℕ, ◌+◌, Bool, true, false, ◌&&◌, List, [], ◌∷◌, ◌++◌, map, length, take, drop, nat_le, Ok, Err, Result}
use Rattle.grammar.specs.declared.fault.SendFault.{SendFault}
use Rattle.grammar.specs.Grammar.{Rows}
use Rattle.grammar.specs.Reading.{reading}
use Rattle.grammar.specs.Sheet as S
use Rattle.grammar.specs.Sheet.{
  load,
  open_row,
  number,
  name,
  close,
  clear,
  finish,
  reopen,
  send,
  done,
  sent,
  refused,
  not_sent,
  not_now,
  Entry,
  Log,
  Stage,
  draft,
  fair,
  stage,
  held,
  opened,
  judge,
  if_accepted,
  told_by,
  row_of_numbers,
  row_of_name,
  room_in,
  Lawful,
}
use Rattle.runs.specs.declared.script.Call.{Call}
use Rattle.runs.specs.declared.script.Call.TheVariants.{Load, Open, Number, Name, Close, Clear, Finish, Reopen, Send}
use Rattle.runs.specs.declared.script.Answer.{Answer}
use Rattle.runs.specs.declared.script.Answer.TheVariants.{Done, Sent, Refused, NotSent, NotNow}

-- a call of a script; the bytes that it holds are those that its references point to
abbrev pub called : Call → S.Call
called (Load bytes) = load bytes.now
called (Open k a b) = open_row k a b
called (Number k a b) = number k a b
called (Name k l t) = name k l t.now
called Close = close
called Clear = clear
called Finish = finish
called Reopen = reopen
called (Send room) = send room

-- an answer as code shows it: of what was sent only the length, since the bytes stand in the output
abbrev pub shown : S.Answer → Answer
shown done = Done
shown (sent bytes d) = Sent (length bytes) d
shown (refused f) = Refused f
shown (not_sent f) = NotSent f
shown not_now = NotNow

-- the same of a send by what was answered to it
abbrev pub shown_of_send : Result (ℕ × ℕ) SendFault → Answer
shown_of_send (Ok (n, d)) = Sent n d
shown_of_send (Err f) = NotSent f

abbrev pub shown_in : Entry → Answer
shown_in e = shown e.answer

abbrev pub call_in : Entry → S.Call
call_in e = e.call

-- the rooms of the sends, one after the other
abbrev pub rooms : List S.Call → ℕ
rooms [] = 0
rooms (c ∷ cs) = room_in c + rooms cs

-- what was sent stands from a place on, and all else is as it was
abbrev pub put_at : ℕ → S.Answer → List ℕ → List ℕ
put_at at done out = out
put_at at (sent bytes d) out = take at out ++ (bytes ++ drop (at + length bytes) out)
put_at at (refused f) out = out
put_at at (not_sent f) out = out
put_at at not_now out = out

-- the output after entries, the oldest first: each send has its room behind the rooms of the sends before it
unfoldable pub written : ℕ → List Entry → List ℕ → List ℕ
written at [] out = out
written at (e ∷ es) out = written (at + room_in e.call) es (put_at at e.answer out)

-- a log, and then these entries, the oldest first
unfoldable pub since : Log → List Entry → Log
since log [] = log
since log (e ∷ es) = since (e ∷ log) es

-- The run of a script on an unused sheet over a buffer of this size: its entries, the oldest first, have the script's calls and keep the law; the answers
-- show theirs, the output has what they sent, and the rows that the sheet tells at the end are the rows held.
abbrev pub Runs : (size : ℕ) → List Call → (before after : List Answer) (out-before out-after : List ℕ) → Rows → Type 0
Runs size calls before after out-before out-after rows =
    (es : List Entry)
    × (map call_in es ≡ map called calls)
    × Lawful size (since [] es)
    × (after ≡ map shown_in es ++ drop (length calls) before)
    × (out-after ≡ written 0 es out-before)
    × (rows ≡ held (since [] es))

-- there is an answer for each call, and room for the outputs of all sends
abbrev pub fits_script : List Call → (answers room : ℕ) → Bool
fits_script calls answers room = nat_le (length calls) answers && nat_le (rooms (map called calls)) room

-- a script that fits is run; one that does not changes nothing, and the sheet has no rows
abbrev pub Ran : (size : ℕ) → List Call → (before after : List Answer) (out-before out-after : List ℕ) → Rows → (fits : Bool) → Type 0
Ran size calls before after out-before out-after rows true = Runs size calls before after out-before out-after rows
Ran size calls before after out-before out-after rows false = (after ≡ before) × (out-after ≡ out-before) × (rows ≡ [])

-- the entry that a call gets after a log
abbrev pub entry_of : ℕ → Log → S.Call → Entry
entry_of size log c = record { call = c; answer = judge (stage log) size (held log) (opened log) c }

-- the entries of calls after a log
unfoldable pub entries : ℕ → Log → List S.Call → List Entry
entries size log [] = []
entries size log (c ∷ cs) = entry_of size log c ∷ entries size (entry_of size log c ∷ log) cs

abbrev rows_by : S.Call → ℕ → Rows → Rows
rows_by (load bs) n rows = told_by (reading bs)
rows_by (open_row k a b) n rows = rows ++ (row_of_numbers n k a b ∷ [])
rows_by (number k a b) n rows = rows ++ (row_of_numbers n k a b ∷ [])
rows_by (name k l t) n rows = rows ++ (row_of_name n k l t ∷ [])
rows_by close n rows = rows
rows_by clear n rows = []
rows_by finish n rows = rows
rows_by reopen n rows = rows
rows_by (send room) n rows = rows

-- the rows held after a call, where so many were open
abbrev pub rows_after : S.Call → S.Answer → ℕ → Rows → Rows
rows_after c x n rows = if_accepted x (rows_by c n rows) rows
