-- A text copied byte by byte.
-- Assumes nothing.
use Rattle.std.proofs.Common.{◌≡◌, ℕ, ◌+◌, ◌<◌, ◌≤◌, List, [], ◌∷◌, ◌++◌, length, take, drop, set, Some, None, sym, refl, ap, ◌∙◌, subst, append_assoc, append-nil, arith, length-take-le, drop-drop}
use Rattle.std.specs.List.{slice_get}
use Rattle.std.proofs.lemmas.List.{take_more, take_all, drop_all}
use Rattle.std.proofs.lemmas.Option.{slice_get-get_or, slice_get_past}
use Rattle.std.proofs.lemmas.Bool.{cases_lt}
use Rattle.grammar.specs.Grammar.{Rows, Bytes}
use Rattle.location.specs.declared.Row.{Row}
use Rattle.location.specs.Answers.{head_row, head_text}

pub head_long : (xs : Rows) (row : Row) → Some row ≡ head_row xs → row.length ≡ length (head_text xs)
head_long [] row e = cc
head_long (x ∷ xs) row e = cc

take_nth : (t : List ℕ) (i b : ℕ) → Some b ≡ slice_get t i → take (i + 1) t ≡ take i t ++ b ∷ []
take_nth t i b e = grind (arith, cases_lt i (length t), slice_get-get_or t i 0, slice_get_past t i, take_more t i 0)

pub nth_some : (t : List ℕ) (i : ℕ) → None ≡ slice_get t i → length t ≤ i
nth_some t i e = grind (arith, cases_lt i (length t), slice_get-get_or t i 0)

set_at : (xs ys : List ℕ) (b : ℕ) → 0 < length ys → set (xs ++ ys) (length xs) b ≡ xs ++ b ∷ drop 1 ys
set_at [] [] b h = absurd (omega arith)
set_at [] (y ∷ ys) b h = refl
set_at (x ∷ xs) ys b h = ap (λ (r : List ℕ). x ∷ r) (set_at xs ys b h)

pub copied_one : (t old out : List ℕ) (i b : ℕ) → out ≡ take i t ++ drop i old → i < length t → i < length old → Some b ≡ slice_get t i
    → set out i b ≡ take (i + 1) t ++ drop (i + 1) old
copied_one t old out i b e h k n =
    let l : length (take i t) ≡ i = length-take-le i t (omega arith) in
    let m : 0 < length (drop i old) = omega (arith, lib.ListN.length-drop i old) in
    ap (λ (r : List ℕ). set r i b) e
    ∙ ap (λ (j : ℕ). set (take i t ++ drop i old) j b) (sym l)
    ∙ set_at (take i t) (drop i old) b m
    ∙ ap (λ (r : List ℕ). take i t ++ b ∷ r) (drop-drop 1 i old)
    ∙ sym (append_assoc (take i t) (b ∷ []) (drop (i + 1) old))
    ∙ ap (λ (r : List ℕ). r ++ drop (i + 1) old) (sym (take_nth t i b n))

bytes_append : (xs ys : List ℕ) → Bytes xs → Bytes ys → Bytes (xs ++ ys)
bytes_append [] ys h k = k
bytes_append (x ∷ xs) ys h k = (h.0, bytes_append xs ys h.1 k)

pub bytes_one : (t : List ℕ) (i b : ℕ) → Bytes (take i t) → Some b ≡ slice_get t i → b < 256 → Bytes (take (i + 1) t)
bytes_one t i b h n k = subst Bytes (sym (take_nth t i b n)) (bytes_append (take i t) (b ∷ []) h (k, tt))

pub copied_all : (t old places : List ℕ) (i n : ℕ) → places ≡ take i t ++ drop i (take n old) → length t ≡ n → n ≤ length old → length (take n old) ≤ i
    → places ++ drop n old ≡ t ++ drop (length t) old
copied_all t old places i n e l h k =
    let m : length (take n old) ≡ n = length-take-le n old h in
    let a : take i t ≡ t = take_all i t (omega arith) in
    let b : drop i (take n old) ≡ [] = drop_all i (take n old) k in
    rw (e, a, b, l) (ap (λ (r : List ℕ). r ++ drop n old) (append-nil t))
