-- What is promised of sending, from what was sent.
-- Assumes nothing.
use Rattle.std.proofs.Common.{◌≡◌, ℕ, ◌<◌, ◌≤◌, List, ◌++◌, length, take, drop, Some, None, Ok, Err, Option, Result, sym, refl, ap, ◌∙◌, subst, arith, take_at, drop_at, le-ltb, lt-ltb}
use Rattle.std.specs.Option.{ok_or}
use Rattle.grammar.specs.declared.fault.SendFault.{SendFault}
use Rattle.grammar.specs.declared.fault.SendFault.TheVariants.{NoContainer, NoRoom}
use Rattle.grammar.specs.Grammar.{Rows, Best, default_of}
use Rattle.grammar.specs.Sending.{sending, into}
use Rattle.grammar.proofs.Sends.{sends}
use Rattle.sender.specs.Sent.{Sent, SentBest}

-- no container
pub refused_none : (rows : Rows) (before : List ℕ) → sending rows ≡ None → Sent rows before (Err NoContainer) before
refused_none rows before q = (ap (λ (o : Option (List ℕ)). into o (length before)) q, refl)

pub refused_none_best : (rows : Rows) (before : List ℕ) → sending rows ≡ None → SentBest rows before (Err NoContainer) before
refused_none_best rows before q = sends.1 rows q

module _ (rows : Rows) (before bytes : List ℕ) (q : sending rows ≡ Some bytes) where
  -- too little room
  pub refused_room : (n : ℕ) → length bytes ≡ n → length before < n → Sent rows before (Err (NoRoom n)) before
  refused_room n e h = (
    ap (λ (o : Option (List ℕ)). into o (length before)) q ∙ rw (lt-ltb (length before) (length bytes) (omega arith)) (ap (λ (m : ℕ). Err (NoRoom m)) e),
    refl,
  )

  pub refused_room_best : (n : ℕ) → length bytes ≡ n → length before < n → SentBest rows before (Err (NoRoom n)) before
  refused_room_best n e h = (bytes, sends.0 rows bytes q, e, h)

  -- sent
  module _ (n d : ℕ) (after : List ℕ) (e : length bytes ≡ n) (h : n ≤ length before) (is-d : d ≡ default_of bytes) (w : after ≡ bytes ++ drop n before) where
    front : take n after ≡ bytes
    front = ap (take n) w ∙ take_at bytes (drop n before) n e

    back : drop n after ≡ drop n before
    back = ap (drop n) w ∙ drop_at bytes (drop n before) n e

    pub sent : Sent rows before (Ok (n, d)) after
    sent = (
      ap (λ (o : Option (List ℕ)). into o (length before)) q ∙ rw (le-ltb (length before) (length bytes) (omega arith)) (ap Ok (sym front)),
      ap length front ∙ e,
      is-d ∙ ap default_of (sym front),
      back,
    )

    pub sent_best : SentBest rows before (Ok (n, d)) after
    sent_best = (subst (Best rows) (sym front) (sends.0 rows bytes q), h)

-- a refusal says that there was nothing
pub nothing_there : (o : Option (ℕ × ℕ)) (r : Result (ℕ × ℕ) SendFault) (f : SendFault)
    → r ≡ ok_or o NoContainer → r ≡ Err f → (o ≡ None) × (f ≡ NoContainer)
nothing_there None r f a b = (refl, cc)
nothing_there (Some x) r f a b = let z : ◌≡◌ {A = ℕ} 0 1 = cc in absurd (omega arith)

pub something_there : (o : Option (ℕ × ℕ)) (r : Result (ℕ × ℕ) SendFault) (x : ℕ × ℕ) → r ≡ ok_or o NoContainer → r ≡ Ok x → o ≡ Some x
something_there None r x a b = let z : ◌≡◌ {A = ℕ} 0 1 = cc in absurd (omega arith)
something_there (Some y) r x a b = cc
