-- The rows of a location, taken one by one.
-- Assumes nothing.
use Rattle.std.proofs.Common.{◌≡◌, ℕ, ◌+◌, ◌-◌, ◌<◌, ◌≤◌, Bool, true, cond, leb, List, [], ◌∷◌, ◌++◌, length, take, drop, Some, sym, ap, ◌∙◌, ap₂, append_assoc, arith, length-append, length-drop, length-take-le, take_all, take_at, le-leb}
use borrow.Rule.Slice.PartMut.{put_mid}
use Rattle.grammar.specs.Grammar.{Rows, Row as Told}
use Rattle.location.specs.declared.Row.{Row}
use Rattle.location.specs.Answers.{seen, head_row, head_text, laid_over}
use Rattle.location.specs.Steps.{rest_of}
use Rattle.grammar.specs.Sheet.{cost, cost_of}
use Rattle.sheet.specs.Records.{with_text}
use Rattle.sheet.proofs.Encoded.{cost_append}

pub head_length : (xs : Rows) (row : Row) → Some row ≡ head_row xs → row.length ≡ length (head_text xs)
head_length [] row e = cc
head_length (x ∷ xs) row e = cc

-- a text that had room, copied behind what is there
pub copied_behind : (xs new t : List ℕ) (at n : ℕ) (r : Bool) → at + length t ≤ length xs → n ≡ length xs - at → r ≡ leb (length t) (length (take n (drop at xs)))
    → new ≡ cond r (laid_over t (take n (drop at xs))) (take n (drop at xs)) → take (at + length t) (put_mid at n xs new) ≡ take at xs ++ t
copied_behind xs new t at n r h e told wrote =
    let l = length-drop at xs in
    let old : List ℕ = take n (drop at xs) in
    let all = ap length (take_all n (drop at xs) (omega arith)) in
    let good : r ≡ true = told ∙ le-leb (length t) (length old) (omega arith) in
    let w : new ≡ t ++ drop (length t) old = wrote ∙ ap (λ (b : Bool). cond b (laid_over t old) old) good in
    let k : length (take at xs ++ t) ≡ at + length t = omega (arith, length-append (take at xs) t, length-take-le at xs (omega arith)) in
    let rest : List ℕ = drop n (drop at xs) in
    ap (λ (ys : List ℕ). take (at + length t) (take at xs ++ (ys ++ rest))) w
    ∙ ap (λ (ys : List ℕ). take (at + length t) (take at xs ++ ys)) (append_assoc t (drop (length t) old) rest)
    ∙ ap (take (at + length t)) (sym (append_assoc (take at xs) t (drop (length t) old ++ rest)))
    ∙ take_at (take at xs ++ t) (drop (length t) old ++ rest) (at + length t) k

-- the row of a step with its text, and the rows after it
pub step_first : (xs ys : Rows) (row : Row) → Some row ≡ head_row xs → ys ≡ xs → xs ≡ with_text row (head_text ys) ∷ rest_of xs
step_first [] ys row e h = cc
step_first (x ∷ xs) ys row e h =
    let s : row ≡ seen x = cc in
    sym (ap₂ (λ (r : Row) (t : List ℕ). with_text r t ∷ xs) s (ap head_text h))

-- a row more is held, and one less is to come
pub taken_over : (hs ys rest all new : Rows) (r : Told) → hs ++ ys ≡ all → ys ≡ r ∷ rest → new ≡ hs ++ (r ∷ []) → new ++ rest ≡ all
taken_over hs ys rest all new r whole first took =
    ap (λ (xs : Rows). xs ++ rest) took ∙ append_assoc hs (r ∷ []) rest ∙ ap (λ (xs : Rows). hs ++ xs) (sym first) ∙ whole

-- there is a place and room for the first of the rows that are to come
module _ (hs ys rest all : Rows) (r : Told) (whole : hs ++ ys ≡ all) (first : ys ≡ r ∷ rest) where
  pub place_left : (n most : ℕ) → length hs ≡ n → length all ≤ most → n < most
  place_left n most e h = let k = ap length whole in let l = ap length first in omega (arith, length-append hs ys)

  pub room_left : (used size : ℕ) → cost hs ≡ used → cost all ≤ size → used + cost_of r ≤ size
  room_left used size e h = let k = ap cost whole in let l = ap cost first in omega (arith, cost_append hs ys)
