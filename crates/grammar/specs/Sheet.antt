-- A sheet by the log of its calls: which rows it holds and which are open, what each call is answered, and the law that a whole run keeps.
use Rattle.std.specs.Prelude.{◌≡◌, ℕ, ◌+◌, ◌<◌, ◌≤◌, Bool, true, false, not, ◌&&◌, List, [], ◌∷◌, ◌++◌, length, ℤ, pos, Ok, Err, Result, ◌==◌, nat_le, nat_lt}
use Rattle.grammar.specs.declared.table.Spot.{Spot}
use Rattle.grammar.specs.declared.table.Spot.TheVariants.{Descriptions}
use Rattle.grammar.specs.declared.fault.SendFault.{SendFault}
use Rattle.grammar.specs.declared.fault.SendFault.TheVariants.{NoContainer, NoRoom}
use Rattle.grammar.specs.declared.fault.SheetFault.{SheetFault}
use Rattle.grammar.specs.declared.fault.SheetFault.TheVariants.{Reading, NinthNode, Misplaced, Unfit, TooManyRows, TooCostly, NothingOpen}
use Rattle.grammar.specs.Format.{layout, kind_at, fits, longest}
use Rattle.grammar.specs.Grammar.{Row, Rows, Tells, Best, default_of, deeper}
use Rattle.grammar.specs.Reading.{Read, reading, closed, is_text}
use Rattle.grammar.specs.Sending.{sending_into}

-- What is asked of a sheet; a load's bytes are those of its input at that call, a send's room is the length of its output.
pub data Call : Type 0 where
  load : (bytes : List ℕ) → Call
  open_row : (kind : ℕ) (a b : ℤ) → Call
  number : (kind : ℕ) (a b : ℤ) → Call
  name : (kind language : ℕ) (text : List ℕ) → Call
  close : Call
  clear : Call
  finish : Call
  reopen : Call
  send : (room : ℕ) → Call

-- What it answers; not_now is the answer to a call that a sheet of its stage does not take, and that is passed over.
pub data Answer : Type 0 where
  done : Answer
  sent : (bytes : List ℕ) (default : ℕ) → Answer
  refused : SheetFault → Answer
  not_sent : SendFault → Answer
  not_now : Answer

pub record Entry : Type 0 where
  pub call : Call
  pub answer : Answer

-- What one sheet was asked and answered since it was unused, the newest first.
abbrev pub Log : Type 0
Log = List Entry

pub data Stage : Type 0 where
  draft : Stage
  fair : Stage

-- a call was accepted: what it did is the first, else the second
abbrev pub if_accepted : {X : Type 0} → Answer → X → X → X
if_accepted done x y = x
if_accepted (sent bs d) x y = x
if_accepted (refused f) x y = y
if_accepted (not_sent f) x y = y
if_accepted not_now x y = y

abbrev pub stage_by : Call → Stage → Stage
stage_by (load bs) s = s
stage_by (open_row k a b) s = s
stage_by (number k a b) s = s
stage_by (name k l t) s = s
stage_by close s = s
stage_by clear s = s
stage_by finish s = fair
stage_by reopen s = draft
stage_by (send room) s = s

-- A sheet is a draft at first; finish makes it a fair copy, and reopen a draft again.
abbrev pub stage : Log → Stage
stage [] = draft
stage (e ∷ log) = if_accepted e.answer (stage_by e.call (stage log)) (stage log)

abbrev pub one_less : List ℕ → List ℕ
one_less [] = []
one_less (k ∷ ks) = ks

abbrev pub opened_by : Call → List ℕ → List ℕ
opened_by (load bs) ks = []
opened_by (open_row k a b) ks = k ∷ ks
opened_by (number k a b) ks = ks
opened_by (name k l t) ks = ks
opened_by close ks = one_less ks
opened_by clear ks = []
opened_by finish ks = []
opened_by reopen ks = []
opened_by (send room) ks = ks

-- The kinds of the rows that are open, the innermost first.
abbrev pub opened : Log → List ℕ
opened [] = []
opened (e ∷ log) = if_accepted e.answer (opened_by e.call (opened log)) (opened log)

abbrev pub told_by : Read Rows → Rows
told_by (Ok rows) = rows
told_by (Err f) = []

abbrev loaded_by : Call → Rows → Rows
loaded_by (load bs) rows = told_by (reading bs)
loaded_by (open_row k a b) rows = rows
loaded_by (number k a b) rows = rows
loaded_by (name k l t) rows = rows
loaded_by close rows = rows
loaded_by clear rows = []
loaded_by finish rows = rows
loaded_by reopen rows = rows
loaded_by (send room) rows = rows

-- The rows of the last load that was accepted, none at the start and after a clear.
abbrev pub loaded : Log → Rows
loaded [] = []
loaded (e ∷ log) = if_accepted e.answer (loaded_by e.call (loaded log)) (loaded log)

-- the row of an open or a number, and that of a name, where so many rows are open; what the call does not give is 0 or empty
abbrev pub row_of_numbers : (deep kind : ℕ) (a b : ℤ) → Row
row_of_numbers n k a b = record { depth = n; kind = k; a = a; b = b; language = 0; text = [] }

abbrev pub row_of_name : (deep kind language : ℕ) (text : List ℕ) → Row
row_of_name n k l t = record { depth = n; kind = k; a = pos 0; b = pos 0; language = l; text = t }

abbrev added_by : Call → ℕ → Rows → Rows
added_by (load bs) n rows = []
added_by (open_row k a b) n rows = rows ++ (row_of_numbers n k a b ∷ [])
added_by (number k a b) n rows = rows ++ (row_of_numbers n k a b ∷ [])
added_by (name k l t) n rows = rows ++ (row_of_name n k l t ∷ [])
added_by close n rows = rows
added_by clear n rows = []
added_by finish n rows = rows
added_by reopen n rows = rows
added_by (send room) n rows = rows

-- The rows of the opens, numbers and names that were accepted since, in order; a row's depth is the number of rows that were open before its call.
abbrev pub added : Log → Rows
added [] = []
added (e ∷ log) = if_accepted e.answer (added_by e.call (length (opened log)) (added log)) (added log)

-- The rows held.
abbrev pub held : Log → Rows
held log = loaded log ++ added log

-- What a row costs of the buffer, and how many rows a sheet holds at most.
abbrev pub cost_of : Row → ℕ
cost_of r = 12 + length r.text

abbrev pub cost : Rows → ℕ
cost [] = 0
cost (r ∷ rows) = cost_of r + cost rows

abbrev pub most_rows : ℕ
most_rows = 250

-- The spot where a row would be added.
abbrev pub innermost : List ℕ → Spot
innermost [] = Descriptions
innermost (k ∷ ks) = (layout k).inside

-- the nodes among the open rows
abbrev pub nodes_open : List ℕ → ℕ
nodes_open [] = 0
nodes_open (k ∷ ks) = deeper (layout k).inside (nodes_open ks)

abbrev pub may_stand : List ℕ → ℕ → Bool
may_stand ks k = nat_lt 0 k && kind_at (innermost ks) (layout k).id == k

-- Which call adds a row of a kind: open one that parts may follow, name a text, number any other.
abbrev pub is_opened : ℕ → Bool
is_opened k = not (closed (layout k).inside)

abbrev pub is_named : ℕ → Bool
is_named k = is_text (layout k).fields

abbrev pub is_numbered : ℕ → Bool
is_numbered k = closed (layout k).inside && not (is_text (layout k).fields)

-- A call is done, or refused by a fault.
abbrev pub Verdict : Type 0
Verdict = Result (Unit {0}) SheetFault

-- refused if the condition holds; else what the next conditions say
abbrev pub refuse_if : Bool → SheetFault → Verdict → Verdict
refuse_if true f next = Err f
refuse_if false f next = next

-- So many rows are held and open, and after the call the new ones would be held, in a buffer of this size.
abbrev pub judge_rows : (size n o : ℕ) → Rows → Verdict
judge_rows size n o new = refuse_if (nat_lt most_rows (length new)) (TooManyRows n o) (refuse_if (nat_lt size (cost new)) (TooCostly n o) (Ok tt))

-- A row is to be added, by a call that has its kind or not; its numbers and its text fit its kind or not.
abbrev pub judge_row : (size : ℕ) → Rows → List ℕ → (has fit : Bool) → Row → Verdict
judge_row size rows ks has fit row =
    refuse_if (not (has && may_stand ks row.kind)) (Misplaced (length rows) (length ks))
    (refuse_if (nat_lt 8 (deeper (layout row.kind).inside (nodes_open ks))) (NinthNode (length rows) (length ks))
    (refuse_if (not fit) (Unfit (length rows) (length ks))
    (judge_rows size (length rows) (length ks) (rows ++ (row ∷ [])))))

abbrev pub judge_open : (size : ℕ) → Rows → List ℕ → (kind : ℕ) (a b : ℤ) → Verdict
judge_open size rows ks k a b = judge_row size rows ks (is_opened k) (fits (layout k).fields a b) (row_of_numbers (length ks) k a b)

abbrev pub judge_number : (size : ℕ) → Rows → List ℕ → (kind : ℕ) (a b : ℤ) → Verdict
judge_number size rows ks k a b = judge_row size rows ks (is_numbered k) (fits (layout k).fields a b) (row_of_numbers (length ks) k a b)

abbrev pub judge_name : (size : ℕ) → Rows → List ℕ → (kind language : ℕ) (text : List ℕ) → Verdict
judge_name size rows ks k l t = judge_row size rows ks (is_named k) (nat_le (length t) (longest k)) (row_of_name (length ks) k l t)

abbrev pub judge_load : (size : ℕ) → Rows → List ℕ → Read Rows → Verdict
judge_load size rows ks (Err f) = Err (Reading f)
judge_load size rows ks (Ok new) = judge_rows size (length rows) (length ks) new

abbrev pub judge_close : Rows → List ℕ → Verdict
judge_close rows [] = Err (NothingOpen (length rows) 0)
judge_close rows (k ∷ ks) = Ok tt

abbrev pub answer_of : Verdict → Answer
answer_of (Ok u) = done
answer_of (Err f) = refused f

abbrev pub answer_of_send : Result (List ℕ) SendFault → Answer
answer_of_send (Ok bytes) = sent bytes (default_of bytes)
answer_of_send (Err f) = not_sent f

-- What a draft answers, and what a fair copy answers, by the rows held, the rows open and the length of the buffer.
abbrev pub judge_draft : (size : ℕ) → Rows → List ℕ → Call → Answer
judge_draft size rows ks (load bs) = answer_of (judge_load size rows ks (reading bs))
judge_draft size rows ks (open_row k a b) = answer_of (judge_open size rows ks k a b)
judge_draft size rows ks (number k a b) = answer_of (judge_number size rows ks k a b)
judge_draft size rows ks (name k l t) = answer_of (judge_name size rows ks k l t)
judge_draft size rows ks close = answer_of (judge_close rows ks)
judge_draft size rows ks clear = done
judge_draft size rows ks finish = done
judge_draft size rows ks reopen = not_now
judge_draft size rows ks (send room) = not_now

abbrev pub judge_fair : Rows → Call → Answer
judge_fair rows (load bs) = not_now
judge_fair rows (open_row k a b) = not_now
judge_fair rows (number k a b) = not_now
judge_fair rows (name k l t) = not_now
judge_fair rows close = not_now
judge_fair rows clear = not_now
judge_fair rows finish = not_now
judge_fair rows reopen = done
judge_fair rows (send room) = answer_of_send (sending_into rows room)

abbrev pub judge : Stage → (size : ℕ) → Rows → List ℕ → Call → Answer
judge draft size rows ks c = judge_draft size rows ks c
judge fair size rows ks c = judge_fair rows c

abbrev pub room_in : Call → ℕ
room_in (load bs) = 0
room_in (open_row k a b) = 0
room_in (number k a b) = 0
room_in (name k l t) = 0
room_in close = 0
room_in clear = 0
room_in finish = 0
room_in reopen = 0
room_in (send room) = room

-- What was sent is the best container of the rows, keeps to its room, and has the default language that is answered; where nothing was sent, no container
-- tells the rows, or the best is longer than the room.
abbrev pub BestSent : Rows → Call → Answer → Type 0
BestSent rows c done = Unit {0}
BestSent rows c (sent bytes d) = Best rows bytes × (length bytes ≤ room_in c) × (d ≡ default_of bytes)
BestSent rows c (refused f) = Unit {0}
BestSent rows c (not_sent NoContainer) = (bytes : List ℕ) → Tells bytes rows → ⊥
BestSent rows c (not_sent (NoRoom n)) = (bytes : List ℕ) × Best rows bytes × (length bytes ≡ n) × (room_in c < n)
BestSent rows c not_now = Unit {0}

-- The law of a run, on one sheet over a buffer of this length: each answer follows from the rows held and open before, which follow from the calls and
-- the answers before; and each send gives the best container of the rows held.
abbrev pub Lawful : (size : ℕ) → Log → Type 0
Lawful size [] = Unit {0}
Lawful size (e ∷ log) =
    (e.answer ≡ judge (stage log) size (held log) (opened log) e.call) × BestSent (held log) e.call e.answer × Lawful size log
