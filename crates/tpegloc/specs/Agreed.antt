-- What sending two locations gives, and what their bytes say of their rows.
use Rattle.std.specs.Prelude.{◌≡◌, ℕ, ◌≤◌, Bool, false, List, length, take, Ok, Err, Decides, Result}
use Rattle.grammar.specs.declared.fault.SendFault.{SendFault}
use Rattle.grammar.specs.declared.fault.SendFault.TheVariants.{NoContainer}
use Rattle.grammar.specs.Grammar.{Rows, Tells}
use Rattle.sender.specs.Sent.{Sent, SentBest}
use Rattle.tpegloc.specs.declared.pair.Agreement.{Agreement}

-- what was sent lies in the output
abbrev pub Within : Result (ℕ × ℕ) SendFault → List ℕ → Type 0
Within (Ok (n, d)) out = n ≤ length out
Within (Err f) out = Unit {0}

-- where both were sent, the answer says whether the bytes are equal; where one was not it is no
abbrev pub SameSent : Result (ℕ × ℕ) SendFault → List ℕ → Result (ℕ × ℕ) SendFault → List ℕ → Bool → Type 0
SameSent (Ok (n, d)) left (Ok (m, e)) right same = Decides same (take n left ≡ take m right)
SameSent (Ok x) left (Err f) right same = same ≡ false
SameSent (Err f) left y right same = same ≡ false

-- where both were sent, the bytes are equal exactly when the rows are
abbrev pub SameRows : Rows → Rows → Result (ℕ × ℕ) SendFault → List ℕ → Result (ℕ × ℕ) SendFault → List ℕ → Type 0
SameRows a b (Ok (n, d)) left (Ok (m, e)) right = (take n left ≡ take m right → a ≡ b) × (a ≡ b → take n left ≡ take m right)
SameRows a b (Ok x) left (Err f) right = Unit {0}
SameRows a b (Err f) left y right = Unit {0}

-- rows are sent exactly when some legal container tells them, and else the fault says that none does
abbrev pub RefusedExactly : Rows → Result (ℕ × ℕ) SendFault → Type 0
RefusedExactly rows (Ok x) = (bytes : List ℕ) × Tells bytes rows
RefusedExactly rows (Err f) = (f ≡ NoContainer) × ((bytes : List ℕ) → Tells bytes rows → ⊥)

-- each output holds what its location sends, by the same promise as for one; and with room for the longest container none is refused but for want of a container
pub record Agreed (a b : Rows) (left left' right right' : List ℕ) (r : Agreement) : Type 0 where
  pub left_sent : Sent a left r.left left'
  pub left_best : SentBest a left r.left left'
  pub right_sent : Sent b right r.right right'
  pub right_best : SentBest b right r.right right'
  pub same : SameSent r.left left' r.right right' r.same
  pub same_rows : SameRows a b r.left left' r.right right'
  pub left_refused : 65535 ≤ length left → RefusedExactly a r.left
  pub right_refused : 65535 ≤ length right → RefusedExactly b r.right
