-- Holders on a stack.
-- Assumes nothing.
use Rattle.std.proofs.Common.{◌≡◌, ℕ, zero, suc, ◌<◌, ◌≤◌, ◌≢◌, List, ◌∷◌, length, set, refl, ap, ap₂, arith, get_or-set_other, get_or-set_same}
use Rattle.grammar.specs.Walk.{Frame as Holder}
use Rattle.reader.specs.declared.marks.Frame.{Frame}
use Rattle.reader.specs.Marks.{blank_frame, stack}

holder : Frame → Holder
holder f = record { end = f.end; spot = f.spot }

below : (fs : List Frame) (f : Frame) (n m : ℕ) → m ≤ n → stack (set fs n f) m ≡ stack fs m
below fs f n zero h = refl
below fs f n (suc m) h =
    let ne : m ≢ n = omega arith in
    ap₂ (λ (x : Frame) (xs : List Holder). record { end = x.end; spot = x.spot } ∷ xs) (get_or-set_other fs n m f blank_frame ne) (below fs f n m (omega arith))

pub stacked : (fs : List Frame) (f : Frame) (n : ℕ) → n < length fs → stack (set fs n f) (suc n) ≡ record { end = f.end; spot = f.spot } ∷ stack fs n
stacked fs f n h =
    ap₂ (λ (x : Frame) (xs : List Holder). record { end = x.end; spot = x.spot } ∷ xs) (get_or-set_same fs n f blank_frame h) (below fs f n n (omega arith))

pub stack_length : (fs : List Frame) (n : ℕ) → length (stack fs n) ≡ n
stack_length fs zero = refl
stack_length fs (suc n) = ap suc (stack_length fs n)
