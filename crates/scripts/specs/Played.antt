-- A script's run as text: a line for each answer.
use Rattle.std.specs.Prelude.{◌≡◌, ℕ, ◌+◌, List, [], ◌∷◌, ◌++◌, map, take, drop, vec_items}
use Rattle.grammar.specs.Sheet as S
use Rattle.grammar.specs.Sheet.{load, open_row, number, name, close, clear, finish, reopen, send, done, sent, refused, not_sent, not_now, Entry, room_in, held, Lawful}
use Rattle.runs.specs.declared.script.Answer.{Answer}
use Rattle.runs.specs.declared.script.Answer.TheVariants.{Done, Sent, Refused, NotSent, NotNow}
use Rattle.runs.specs.Scripts.{shown, call_in, since}
use Rattle.scripts.specs.declared.asked.Asked.{Asked}
use Rattle.scripts.specs.declared.asked.Asked.TheVariants.{Load, Open, Number, Name, Close, Clear, Finish, Reopen, Send}
use Rattle.listing.specs.Listed.{listed}
use Rattle.scripts.specs.Answered.{answer_text}

-- what a sheet is asked
abbrev pub asked_call : Asked → S.Call
asked_call (Load bytes) = load (vec_items bytes)
asked_call (Open k a b) = open_row k a b
asked_call (Number k a b) = number k a b
asked_call (Name k l text) = name k l (vec_items text)
asked_call Close = close
asked_call Clear = clear
asked_call Finish = finish
asked_call Reopen = reopen
asked_call (Send room) = send room

-- the bytes that were sent, none where nothing was
abbrev pub bytes_in : S.Answer → List ℕ
bytes_in done = []
bytes_in (sent bytes d) = bytes
bytes_in (refused f) = []
bytes_in (not_sent f) = []
bytes_in not_now = []

-- a line for each answer, the oldest first
unfoldable pub answer_lines : List Entry → List ℕ
answer_lines [] = []
answer_lines (e ∷ es) = answer_text (shown e.answer) (bytes_in e.answer) ++ answer_lines es

-- The text has a line for each answer that the calls get on one unused sheet over a buffer of this size, where the log of calls and answers keeps the law of
-- runs; and then the rows held after that log.
abbrev pub Played : (size : ℕ) → List S.Call → List ℕ → Type 0
Played size calls text =
    (es : List Entry) × (map call_in es ≡ calls) × Lawful size (since [] es) × (text ≡ answer_lines es ++ listed (held (since [] es)))

-- how many bytes an answer says were sent
abbrev pub sent_size : Answer → ℕ
sent_size Done = 0
sent_size (Sent n d) = n
sent_size (Refused f) = 0
sent_size (NotSent f) = 0
sent_size NotNow = 0

-- the lines by the answers and the output, in which each call has its room behind those of the calls before it
unfoldable pub lines_from : (at : ℕ) → List S.Call → List Answer → List ℕ → List ℕ
lines_from at [] xs out = []
lines_from at (c ∷ cs) [] out = []
lines_from at (c ∷ cs) (x ∷ xs) out = answer_text x (take (sent_size x) (drop at out)) ++ lines_from (at + room_in c) cs xs out
