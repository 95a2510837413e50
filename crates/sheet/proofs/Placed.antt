-- The rows of a place, by what stands there.
-- Assumes nothing.
use Rattle.std.proofs.Common.{◌≡◌, ℕ, suc, ◌+◌, ◌-◌, ◌*◌, ◌<◌, ◌≤◌, List, [], ◌∷◌, length, get_or, take, drop, ℤ, is_some, Some, None, Option, MatchOption, sym, refl, ap, ◌∙◌, subst, arith, length-drop, get_or-drop, get_or-take, drop-drop, w32, to_z}
use Rattle.grammar.specs.Grammar.{Rows}
use Rattle.grammar.specs.Reading.{signed, number, value}
use Rattle.fields.proofs.Places.{halved}
use Rattle.location.specs.declared.Row.{Row}
use Rattle.location.specs.Answers.{any_row, head_row, head_text, Next}
use Rattle.sheet.specs.declared.place.Place.{Place}
use Rattle.sheet.specs.Records.{record_size, first_row, rows_in}
use Rattle.sheet.specs.Places.{rows_at, IsRecord}
use Rattle.sheet.proofs.Encoded.{rows_whole, rows_cut, rows_none, text_long}

-- four bytes as a signed number
first_four : (xs : List ℕ) → 4 ≤ length xs → take 4 xs ≡ get_or xs 0 0 ∷ get_or xs 1 0 ∷ get_or xs 2 0 ∷ get_or xs 3 0 ∷ []
first_four (a ∷ b ∷ c ∷ d ∷ xs) h = refl
first_four [] h = absurd (omega arith)
first_four (a ∷ []) h = absurd (omega arith)
first_four (a ∷ b ∷ []) h = absurd (omega arith)
first_four (a ∷ b ∷ c ∷ []) h = absurd (omega arith)

signed_at : (bs : List ℕ) (at : ℕ) → at + 4 ≤ length bs
    → to_z w32 (get_or bs at 0 * 16777216 + get_or bs (at + 1) 0 * 65536 + get_or bs (at + 2) 0 * 256 + get_or bs (at + 3) 0) ≡ signed 4 (drop at bs)
signed_at bs at h =
    let xs : List ℕ = drop at bs in
    let l = length-drop at bs in
    let f = first_four xs (omega arith) in
    let e₀ : get_or xs 0 0 ≡ get_or bs at 0 = get_or-drop at bs 0 0 ∙ ap (λ (i : ℕ). get_or bs i 0) (omega arith) in
    let e₁ = get_or-drop at bs 1 0 in
    let e₂ = get_or-drop at bs 2 0 in
    let e₃ = get_or-drop at bs 3 0 in
    let v = ap value f in
    ap (to_z w32) (omega arith) ∙ halved 2147483648 (number 4 xs)

module _ (bs : List ℕ) (p : Place) where
  pub no_left : p.left ≡ 0 → rows_at bs p ≡ []
  no_left e = ap (λ (n : ℕ). rows_in n (drop p.at bs)) e ∙ rows_none (drop p.at bs)

  pub no_record : length (drop p.at bs) < record_size (drop p.at bs) → rows_at bs p ≡ []
  no_record h = rows_cut p.left (drop p.at bs) h

  module _ (head text : List ℕ) (r : IsRecord bs p head text) where
    pub record_there : rows_at bs p ≡ first_row (drop p.at bs) ∷ rows_at bs (record { at = p.at + 12 + length text; left = p.left - 1 })
    record_there =
        let here : List ℕ = drop p.at bs in
        let n : p.left ≡ suc (p.left - 1) = omega (arith, r.0) in
        let s : p.at + record_size here ≡ p.at + 12 + length text = omega (arith, ap length r.3, text_long here r.1) in
        ap (λ (k : ℕ). rows_in k here) n
        ∙ rows_whole (p.left - 1) here r.1
        ∙ ap (λ (xs : List ℕ). first_row here ∷ rows_in (p.left - 1) xs) (drop-drop (record_size here) p.at bs)
        ∙ ap (λ (k : ℕ). first_row here ∷ rows_in (p.left - 1) (drop k bs)) s

    pub next_is : Next (rows_at bs) (rows_at bs p) (Some (record { at = p.at + 12 + length text; left = p.left - 1 }))
    next_is = subst (λ (xs : Rows). Next (rows_at bs) xs (Some (record { at = p.at + 12 + length text; left = p.left - 1 }))) (sym record_there) refl

    pub text_is : text ≡ head_text (rows_at bs p)
    text_is = r.3 ∙ sym (ap head_text record_there)

    -- the row of a record, from its bytes before the text
    pub row_is : (a b : ℤ) → a ≡ to_z w32 (get_or head 2 0 * 16777216 + get_or head 3 0 * 65536 + get_or head 4 0 * 256 + get_or head 5 0)
        → b ≡ to_z w32 (get_or head 6 0 * 16777216 + get_or head 7 0 * 65536 + get_or head 8 0 * 256 + get_or head 9 0)
        → ◌≡◌ {A = Option Row}
        (Some (record { depth = get_or head 0 0; kind = get_or head 1 0; a = a; b = b; language = get_or head 10 0; length = get_or head 11 0 }))
        (head_row (rows_at bs p))
    row_is a b ea eb =
        let here : List ℕ = drop p.at bs in
        let byte : (i : ℕ) → i < 12 → get_or head i 0 ≡ get_or here i 0 =
        λ i h. ap (λ (xs : List ℕ). get_or xs i 0) r.2 ∙ get_or-take 12 here i 0 h in
        let d = byte 0 (omega arith) in
        let k = byte 1 (omega arith) in
        let l = byte 10 (omega arith) in
        let n = byte 11 (omega arith) ∙ sym (text_long here r.1) in
        let x : a ≡ signed 4 (drop 2 here) =
        ea
        ∙ ap (to_z w32) (omega (arith, byte 2 (omega arith), byte 3 (omega arith), byte 4 (omega arith), byte 5 (omega arith)))
        ∙ signed_at here 2 (omega (arith, r.1)) in
        let y : b ≡ signed 4 (drop 6 here) =
        eb
        ∙ ap (to_z w32) (omega (arith, byte 6 (omega arith), byte 7 (omega arith), byte 8 (omega arith), byte 9 (omega arith)))
        ∙ signed_at here 6 (omega (arith, r.1)) in
        ap Some (λ i. record { depth = d i; kind = k i; a = x i; b = y i; language = l i; length = n i }) ∙ sym (ap head_row record_there)

pub here_is : {H T : Type 0} (bs : List ℕ) (p : Place) (r : Option (H × T)) (head : H → List ℕ) (text : T → List ℕ)
    → MatchOption r (rows_at bs p ≡ []) (λ r. IsRecord bs p (head r.0) (text r.1)) → is_some r ≡ any_row (rows_at bs p)
here_is bs p (Some r) head text h = sym (ap any_row (record_there bs p (head r.0) (text r.1) h))
here_is bs p None head text h = sym (ap any_row h)
