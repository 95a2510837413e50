-- Bytes that are sent, and the rows that they were sent for.
-- Assumes nothing.
use Rattle.std.proofs.Common.{◌≡◌, ℕ, ◌≤◌, List, length, take, Ok, Err, Result, sym, refl, ap, subst, arith}
use Rattle.grammar.specs.declared.fault.SendFault.{SendFault}
use Rattle.grammar.specs.declared.fault.SendFault.TheVariants.{NoContainer, NoRoom}
use Rattle.grammar.specs.Grammar.{Rows, Tells, Best}
use Rattle.grammar.proofs.Exact.{one_meaning}
use Rattle.grammar.proofs.Sends.{unique}
use Rattle.sender.specs.Sent.{SentBest}
use Rattle.tpegloc.specs.Agreed.{SameRows, Within, RefusedExactly}

-- the best containers of two lists are equal exactly when the lists are
pub best_same : (a b : Rows) (x y : List ℕ) → Best a x → Best b y → x ≡ y → a ≡ b
best_same a b x y p q e = one_meaning x a b p.0 (subst (λ (z : List ℕ). Tells z b) (sym e) q.0)

pub same_best : (a b : Rows) (x y : List ℕ) → Best a x → Best b y → a ≡ b → x ≡ y
same_best a b x y p q e = unique b x y (subst (λ (rows : Rows). Best rows x) e p) q

-- the longest container has 65,535 bytes
best_short : (rows : Rows) (x : List ℕ) → Best rows x → length x ≤ 65535
best_short rows x p = let q = ap length p.0.2 in let m = p.0.1.2 in omega arith

pub refused_exactly : (rows : Rows) (before after : List ℕ) (r : Result (ℕ × ℕ) SendFault) → SentBest rows before r after
    → 65535 ≤ length before → RefusedExactly rows r
refused_exactly rows before after (Ok (n, d)) s h = (take n after, s.0.0)
refused_exactly rows before after (Err NoContainer) s h = (refl, s)
refused_exactly rows before after (Err (NoRoom n)) s h =
    let l = best_short rows s.0 s.1 in let e = s.2 in let k = s.3 in absurd (omega arith)

pub same_rows : (a b : Rows) (left left' right right' : List ℕ) (x y : Result (ℕ × ℕ) SendFault)
    → SentBest a left x left' → SentBest b right y right' → SameRows a b x left' y right'
same_rows a b left left' right right' (Ok (n, d)) (Ok (m, e)) p q = (
  best_same a b (take n left') (take m right') p.0 q.0,
  same_best a b (take n left') (take m right') p.0 q.0,
)
same_rows a b left left' right right' (Ok x) (Err f) p q = tt
same_rows a b left left' right right' (Err f) y p q = tt

-- what was sent lies in the output, which is as long as it was
pub within : (rows : Rows) (before after : List ℕ) (r : Result (ℕ × ℕ) SendFault) → length after ≡ length before → SentBest rows before r after
    → Within r after
within rows before after (Ok (n, d)) e s = let h = s.1 in omega arith
within rows before after (Err f) e s = tt
