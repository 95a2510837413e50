-- What the call for C hands on, by what was sent.
-- Assumes nothing.
use Rattle.std.proofs.Common.{◌≡◌, ℕ, ◌+◌, ◌≤◌, List, ◌++◌, length, take, drop, Ok, Err, Result, sym, refl, ap, ◌∙◌, subst, ap₂, inl, inr, arith, take-append-drop}
use Rattle.grammar.specs.declared.fault.SendFault.{SendFault}
use Rattle.grammar.specs.declared.fault.SendFault.TheVariants.{NoContainer, NoRoom}
use Rattle.grammar.specs.Grammar.{Rows, Tells}
use Rattle.grammar.specs.Faults.{send_number_of}
use Rattle.grammar.specs.Reading.{Read}
use Rattle.grammar.specs.Sending.{sending_into}
use Rattle.grammar.proofs.Complete.{reading_complete}
use Rattle.sender.specs.Sent.{Sent, SentBest}
use Rattle.tpegloc.specs.Coded.{code, handed, sent_on, restated, Restates}

module _ (rows : Rows) (before after : List ℕ) where
  handed_ok : (n d : ℕ) → Sent rows before (Ok (n, d)) after → handed (sending_into rows (length before)) before ≡ (n, after)
  handed_ok n d s =
      ap (λ (x : Result (List ℕ) SendFault). handed x before) s.0
      ∙ ap₂ (λ (m : ℕ) (xs : List ℕ). (m, xs)) s.1
      (ap (λ (m : ℕ). take n after ++ drop m before) s.1 ∙ (ap (λ (xs : List ℕ). take n after ++ xs) (sym s.3) ∙ take-append-drop n after))

  handed_err : (f : SendFault) → Sent rows before (Err f) after → handed (sending_into rows (length before)) before ≡ (1000000 + send_number_of f, after)
  handed_err f s =
      ap (λ (x : Result (List ℕ) SendFault). handed x before) s.0 ∙ ap (λ (xs : List ℕ). (1000000 + send_number_of f, xs)) (sym s.1)

  module _ (bytes : List ℕ) (tells : Tells bytes rows) where
    read : restated bytes before ≡ handed (sending_into rows (length before)) before
    read = ap (λ (x : Read Rows). sent_on x before) (reading_complete bytes rows tells)

    restated_ok : (n d : ℕ) → Sent rows before (Ok (n, d)) after → restated bytes before ≡ (n, after)
    restated_ok n d s = read ∙ handed_ok n d s

    restated_err : (f : SendFault) → Sent rows before (Err f) after → restated bytes before ≡ (1000000 + send_number_of f, after)
    restated_err f s = read ∙ handed_err f s

  -- what is sent is short
  short : (n d : ℕ) → Sent rows before (Ok (n, d)) after → SentBest rows before (Ok (n, d)) after → n ≤ 65535
  short n d s b =
      let tree = b.0.0 in
      let e : length (take n after) ≡ n = s.1 in
      let q = ap length tree.2 in
      let m = tree.1.2 in
      omega arith

restates_ok : (bytes : List ℕ) (rows : Rows) (before after : List ℕ) (n d : ℕ) → Tells bytes rows
    → Sent rows before (Ok (n, d)) after → SentBest rows before (Ok (n, d)) after → Restates bytes before n after
restates_ok bytes rows before after n d t s b = inl (rows, t, b.0, b.1, s.3)

restates_err : (bytes : List ℕ) (rows : Rows) (before after : List ℕ) (f : SendFault) → Tells bytes rows
    → Sent rows before (Err f) after → SentBest rows before (Err f) after → Restates bytes before (1000000 + send_number_of f) after
restates_err bytes rows before after NoContainer t s b = absurd (b bytes t)
restates_err bytes rows before after (NoRoom n) t s b =
    let e = b.2 in let h = b.3 in inr (s.1, omega arith, inr (rows, b.0, t, b.1, refl, omega arith))

-- what is answered, and handed on, for rows that were sent
pub passed : (rows : Rows) (before after bytes : List ℕ) (r : Result (ℕ × ℕ) SendFault) (n d : ℕ) → Tells bytes rows
    → Sent rows before r after → SentBest rows before r after → r ≡ Ok (n, d)
    → (restated bytes before ≡ (n, after)) × Restates bytes before n after × (n ≤ 65535)
passed rows before after bytes r n d t s b e =
    let s' : Sent rows before (Ok (n, d)) after = subst (λ x. Sent rows before x after) e s in
    let b' : SentBest rows before (Ok (n, d)) after = subst (λ x. SentBest rows before x after) e b in
    (restated_ok rows before after bytes t n d s', restates_ok bytes rows before after n d t s' b', short rows before after n d s' b')

-- the same for rows that were not, where x is the refusal's number
pub turned_down : (rows : Rows) (before after bytes : List ℕ) (r : Result (ℕ × ℕ) SendFault) (x : Result ℕ ℕ) → Tells bytes rows
    → Sent rows before r after → SentBest rows before r after → (f : SendFault) × (r ≡ Err f) × (x ≡ Err (send_number_of f))
    → (restated bytes before ≡ (code x, after)) × Restates bytes before (code x) after
turned_down rows before after bytes r x t s b p =
    let s' : Sent rows before (Err p.0) after = subst (λ y. Sent rows before y after) p.1 s in
    let b' : SentBest rows before (Err p.0) after = subst (λ y. SentBest rows before y after) p.1 b in
    subst (λ (y : Result ℕ ℕ). (restated bytes before ≡ (code y, after)) × Restates bytes before (code y) after) (sym p.2)
    (restated_err rows before after bytes t p.0 s', restates_err bytes rows before after p.0 t s' b')
