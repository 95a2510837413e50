-- What sending does to an output.
use Rattle.std.specs.Prelude.{◌≡◌, ℕ, ◌<◌, ◌≤◌, List, length, take, drop, Ok, Err, Result}
use Rattle.grammar.specs.declared.fault.SendFault.{SendFault}
use Rattle.grammar.specs.declared.fault.SendFault.TheVariants.{NoContainer, NoRoom}
use Rattle.grammar.specs.Grammar.{Rows, Tells, Best, default_of}
use Rattle.grammar.specs.Sending.{sending_into}

-- the answer and the output are what sending the rows into that room gives: the bytes, and what stood behind them; or the fault, and what stood there
abbrev pub Sent : Rows → List ℕ → Result (ℕ × ℕ) SendFault → List ℕ → Type 0
Sent rows before (Ok (n, d)) after =
    (sending_into rows (length before) ≡ Ok (take n after)) × (length (take n after) ≡ n) × (d ≡ default_of (take n after)) × (drop n after ≡ drop n before)
Sent rows before (Err f) after = (sending_into rows (length before) ≡ Err f) × (after ≡ before)

-- of all legal containers that tell the rows the best was sent; or there is none; or the best needs more room
abbrev pub SentBest : Rows → List ℕ → Result (ℕ × ℕ) SendFault → List ℕ → Type 0
SentBest rows before (Ok (n, d)) after = Best rows (take n after) × (n ≤ length before)
SentBest rows before (Err NoContainer) after = (bytes : List ℕ) → Tells bytes rows → ⊥
SentBest rows before (Err (NoRoom n)) after = (bytes : List ℕ) × Best rows bytes × (length bytes ≡ n) × (length before < n)
