-- The reading accepts exactly the legal containers, in the forms that contracts use.
-- Assumes nothing.
use Rattle.std.proofs.Common.{◌≡◌, ℕ, zero, suc, ◌<◌, List, [], ◌∷◌, get_or, Ok, Err, sym, refl, ◌∙◌, subst}
use Rattle.grammar.specs.declared.fault.ReadFault.{ReadFault}
use Rattle.grammar.specs.Grammar.{Rows, Bytes, Tells}
use Rattle.grammar.specs.Reading.{Read, reading}
use Rattle.grammar.specs.Checks.{many}
use Rattle.grammar.specs.Theorems.{OneMeaning, RefusesRightly, ToldExactly}
use Rattle.grammar.proofs.Cut.{ok_ok, err_ok}
use Rattle.grammar.proofs.Sound.{reading_sound}
use Rattle.grammar.proofs.Complete.{reading_complete}
use Rattle.grammar.proofs.Same.{reading_same}
use Rattle.grammar.proofs.Walked.{walk_tells}
use Rattle.grammar.specs.Walk.{told_from}

pub one_meaning : OneMeaning
one_meaning bytes r s h k = ok_ok (sym (reading_complete bytes r h) ∙ reading_complete bytes s k)

pub refuses_rightly : RefusesRightly
refuses_rightly bytes f h (rows, tells) = err_ok (sym h ∙ reading_complete bytes rows tells)

-- a list each of whose elements is a byte
pub bytes_each : (bs : List ℕ) → ((i : ℕ) → get_or bs i 0 < 256) → Bytes bs
bytes_each [] h = tt
bytes_each (b ∷ bs) h = (h zero, bytes_each bs (λ i. h (suc i)))

-- what is counted is told
pub told_exactly : (bs : List ℕ) → ((i : ℕ) → get_or bs i 0 < 256) → (r : Read ℕ) → r ≡ many (reading bs) → ToldExactly bs r
told_exactly bs h r e = go (reading bs) refl r e
  where
    go : (x : Read Rows) → reading bs ≡ x → (r : Read ℕ) → r ≡ many x → ToldExactly bs r
    go (Ok rows) q (Ok n) e = (rows, reading_sound bs rows (bytes_each bs h) q, sym (ok_ok e))
    go (Ok rows) q (Err f) e = absurd (err_ok e)
    go (Err f) q (Ok n) e = absurd (err_ok (sym e))
    go (Err f) q (Err g) e = refuses_rightly bs f q

-- what a walk tells is told
pub walk_told : (bs : List ℕ) (rows : Rows) → Tells bs rows → Tells bs (told_from bs)
walk_told bs rows t = subst (Tells bs) (sym (walk_tells bs rows (reading_same bs ∙ reading_complete bs rows t))) t

pub fault_read : (r : Read Rows) (f : ReadFault) → ◌≡◌ {A = Read ℕ} (Err f) (many r) → r ≡ Err f
fault_read (Ok rows) f e = absurd (err_ok e)
fault_read (Err g) f e = cc
