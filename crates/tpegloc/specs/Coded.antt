-- Answers of the calls for C, as one number.
use Rattle.std.specs.Prelude.{◌≡◌, ℕ, ◌+◌, ◌<◌, ◌≤◌, ◌⊎◌, List, length, take, drop, Ok, Err, Result}
use Rattle.grammar.specs.declared.fault.SendFault.{SendFault}
use Rattle.grammar.specs.Grammar.{Rows, Tells, Legal, Best}
use Rattle.grammar.specs.Faults.{number_of, send_number_of}
use Rattle.grammar.specs.Reading.{Read, reading}
use Rattle.grammar.specs.Sending.{sending_into}
use Rattle.location.specs.Answers.{laid_over}

-- an answer as the one number that C has for it
abbrev pub code : Result ℕ ℕ → ℕ
code (Ok n) = n
code (Err k) = 1000000 + k

-- the number of rows, or 1,000,000 plus the number of the refusal
abbrev pub coded : Read Rows → ℕ
coded (Ok rows) = length rows
coded (Err f) = 1000000 + number_of f

abbrev pub checked : List ℕ → ℕ
checked bytes = coded (reading bytes)

-- the length of what is sent, and the output with it in place of its first bytes; or the refusal, and the output as it is
abbrev pub handed : Result (List ℕ) SendFault → List ℕ → ℕ × List ℕ
handed (Ok sent) out = (length sent, laid_over sent out)
handed (Err f) out = (1000000 + send_number_of f, out)

abbrev pub sent_on : Read Rows → List ℕ → ℕ × List ℕ
sent_on (Ok rows) out = handed (sending_into rows (length out)) out
sent_on (Err f) out = (1000000 + number_of f, out)

-- what is answered for the rows of bytes that come in, and what the output holds then
abbrev pub restated : List ℕ → List ℕ → ℕ × List ℕ
restated bytes out = sent_on (reading bytes) out

-- The same by what is legal and told. Accepted: the bytes are a legal container, and of all that tell its rows the best is sent. Refused: they are
-- none, or the best needs more room. (Rows that a legal container tells can always be sent.)
abbrev pub Restates : List ℕ → List ℕ → ℕ → List ℕ → Type 0
Restates bytes before r after =
    ((rows : Rows) × Tells bytes rows × Best rows (take r after) × (r ≤ length before) × (drop r after ≡ drop r before))
    ⊎ ((after ≡ before)
    × (1000000 < r)
    × ((Legal bytes → ⊥) ⊎ ((rows : Rows) × (best : List ℕ) × Tells bytes rows × Best rows best × (r ≡ 1000016) × (length before < length best))))
