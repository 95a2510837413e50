-- What a reading that succeeds has passed; and a component cut off its holder's bytes.
-- Assumes nothing.
use Rattle.std.proofs.Common.{◌≡◌, ℕ, ◌^◌, ◌<◌, Bool, true, false, ltb, List, [], ◌∷◌, ◌++◌, length, take, drop, Ok, Err, sym, refl, ap, ◌∙◌, subst, append_assoc, arith, length-append, take-append-drop, length-take-le, take_at, drop_at, ltb-false, le-ltb}
use Rattle.grammar.specs.Format.{big}
use Rattle.grammar.specs.Grammar.{Byte, Bytes}
use Rattle.grammar.specs.declared.fault.ReadFault.{ReadFault}
use Rattle.grammar.specs.Reading.{Read, if, then, cut, Piece, number}
use Rattle.grammar.proofs.Numbers.{length_big, number_big, number_lt, big_number, bytes_take, bytes_drop}

module _ {X : Type 0} where
  pub err_ok : {e : ReadFault} {x : X} → ◌≡◌ {A = Read X} (Err e) (Ok x) → ⊥
  err_ok {e} {x} h = let z : ◌≡◌ {A = ℕ} 0 1 = cc in omega arith

  pub ok_ok : {x y : X} → ◌≡◌ {A = Read X} (Ok x) (Ok y) → x ≡ y
  ok_ok h = cc

  -- a test that would have been a fault has failed
  pub by_test : {Z : Type 0} (b : Bool) (e : ReadFault) (next : Unit {0} → Read X) {x : X} → if b (λ _. Err e) next ≡ Ok x → (b ≡ false → next tt ≡ Ok x → Z) → Z
  by_test true e next h k = absurd (err_ok h)
  by_test false e next h k = k refl h

  pub pass : (b : Bool) (e : ReadFault) (next : Unit {0} → Read X) {x : Read X} → b ≡ false → next tt ≡ x → if b (λ _. Err e) next ≡ x
  pass b e next q h = rw q h

pub by_then : {X Y Z : Type 0} (r : Read X) (next : X → Read Y) {y : Y} → then r next ≡ Ok y → ((x : X) → r ≡ Ok x → next x ≡ Ok y → Z) → Z
by_then (Ok x) next h k = k x refl h
by_then (Err e) next h k = absurd (err_ok h)

-- the two ways of a test, each with what it says
pub by_cases : {Z : Type 0} (b : Bool) → (b ≡ true → Z) → (b ≡ false → Z) → Z
by_cases true y n = y refl
by_cases false y n = n refl

pub go_then : {X Y : Type 0} (r : Read X) (next : X → Read Y) {x : X} {y : Read Y} → r ≡ Ok x → next x ≡ y → then r next ≡ y
go_then r next q h = rw q h

pub record Cuts (w : ℕ) (bs : List ℕ) (p : Piece) : Type 0 where
  pub whole : bs ≡ ((p.id ∷ big w (length p.body)) ++ p.body) ++ p.rest
  pub small : length p.body < 256 ^ w
  pub id_byte : Byte p.id
  pub body_bytes : Bytes p.body
  pub rest_bytes : Bytes p.rest

pub cut_sound : (w level at : ℕ) (bs : List ℕ) (p : Piece) → Bytes bs → cut w level at bs ≡ Ok p → Cuts w bs p
cut_sound w level at [] p b h = absurd (err_ok h)
cut_sound w level at (x ∷ xs) p b h =
    by_test (ltb (length xs) w) _ _ h λ q₁ h₁.
    by_test (ltb (length (drop w xs)) (number w xs)) _ _ h₁ λ q₂ h₂.
    let lo = ltb-false (length xs) w q₁ in
    let hi = ltb-false (length (drop w xs)) (number w xs) q₂ in
    let n = length-take-le (number w xs) (drop w xs) hi in
    let joined : xs ≡ (take w xs ++ take (number w xs) (drop w xs)) ++ drop (number w xs) (drop w xs) =
    sym (append_assoc (take w xs) _ _ ∙ ap (λ (r : List ℕ). take w xs ++ r) (take-append-drop (number w xs) (drop w xs)) ∙ take-append-drop w xs) in
    subst (λ (r : Piece). Cuts w (x ∷ xs) r) (ok_ok h₂)
    (record {
      whole = rw (n, big_number w xs b.1 lo) (ap (λ (r : List ℕ). x ∷ r) joined);
      small = rw n (number_lt w xs b.1 lo);
      id_byte = b.0;
      body_bytes = bytes_take (number w xs) (drop w xs) (bytes_drop w xs b.1);
      rest_bytes = bytes_drop (number w xs) (drop w xs) (bytes_drop w xs b.1);
    })

pub cut_complete : (w level at id : ℕ) (body rest : List ℕ) → length body < 256 ^ w
    → cut w level at (((id ∷ big w (length body)) ++ body) ++ rest) ≡ Ok (record { id = id; body = body; rest = rest })
cut_complete w level at id body rest h =
    let assoc : (big w (length body) ++ body) ++ rest ≡ big w (length body) ++ (body ++ rest) = append_assoc (big w (length body)) body rest in
    let l = length-append (big w (length body)) (body ++ rest) in
    let k = length_big w (length body) in
    let m = length-append body rest in
    rw (assoc, number_big w (length body) (body ++ rest) h, drop_at (big w (length body)) (body ++ rest) w k)
    (pass (ltb (length (big w (length body) ++ (body ++ rest))) w) _ _ (le-ltb _ _ (omega arith))
    (pass (ltb (length (body ++ rest)) (length body)) _ _ (le-ltb _ _ (omega arith))
    (rw (take_at body rest (length body) refl, drop_at body rest (length body) refl))))
