-- Hexadecimal text, character by character.
use Rattle.std.proofs.Common.{◌≡◌, ℕ, ◌+◌, ◌*◌, ◌/◌, ◌%◌, ◌<◌, ◌==◌, Bool, true, false, not, cond, T, eqb, List, [], ◌∷◌, ◌++◌, Some, None, Option, sym, refl, ap, ◌∙◌, ap₂, append_assoc, append-nil, div-add-mod', arith, eqb→eq}
use Rattle.std.specs.List.{filter}
use Rattle.std.specs.Iterator.{AlwaysYields}
use Rattle.std.specs.Option.{MatchOption}
use Rattle.std.proofs.lemmas.Iterator.{YieldsList}
use Rattle.grammar.proofs.Lines.{below_at}
use Rattle.listing.specs.Listed.{hex_digit, hex, hexes}
use Rattle.listing.specs.Unhexed.{digit_of, on_character, unhex_from, unhex, put_first, ReadsBack}

-- a text with its blanks left out
abbrev pub unblanked : List ℕ → List ℕ
unblanked text = filter (λ c. not (c == 32)) text

-- the bytes of a text without blanks
abbrev pairs : List ℕ → Option ℕ → Option (List ℕ)
pairs [] None = Some []
pairs [] (Some h) = None
pairs (c ∷ cs) high = on_character false (digit_of c) high (pairs cs)

keep : (c : ℕ) (xs : List ℕ) (b : Bool) (digit high : Option ℕ) (r : Option ℕ → Option (List ℕ)) → ((h : Option ℕ) → r h ≡ pairs xs h) → digit_of c ≡ digit
    → on_character b digit high r ≡ pairs (cond (not b) (c ∷ xs) xs) high
keep c xs true digit high r h e = h high
keep c xs false None high r h e = ap (λ (x : Option ℕ). on_character false x high (pairs xs)) (sym e)
keep c xs false (Some d) None r h e = h (Some d) ∙ ap (λ (x : Option ℕ). on_character false x None (pairs xs)) (sym e)
keep c xs false (Some d) (Some k) r h e = ap (put_first (k * 16 + d)) (h None) ∙ ap (λ (x : Option ℕ). on_character false x (Some k) (pairs xs)) (sym e)

unblank : (text : List ℕ) (high : Option ℕ) → unhex_from text high ≡ pairs (unblanked text) high
unblank [] None = refl
unblank [] (Some h) = refl
unblank (c ∷ cs) high = keep c (unblanked cs) (c == 32) (digit_of c) high (unhex_from cs) (unblank cs) refl

-- bytes before those of a text, where it has any
abbrev pub put_before : List ℕ → Option (List ℕ) → Option (List ℕ)
put_before xs None = None
put_before xs (Some ys) = Some (xs ++ ys)

before_none : (o : Option (List ℕ)) → o ≡ put_before [] o
before_none None = refl
before_none (Some ys) = refl

before_first : (xs : List ℕ) (b : ℕ) (o : Option (List ℕ)) → put_before xs (put_first b o) ≡ put_before (xs ++ b ∷ []) o
before_first xs b None = refl
before_first xs b (Some ys) = ap Some (sym (append_assoc xs (b ∷ []) ys))

no_first : (c : ℕ) (out more : List ℕ) → None ≡ digit_of c → put_before out (pairs (c ∷ more) None) ≡ None
no_first c out more n = ap (λ (o : Option ℕ). put_before out (on_character false o None (pairs more))) (sym n)

no_second : (c h : ℕ) (out : List ℕ) → Some h ≡ digit_of c → put_before out (pairs (c ∷ []) None) ≡ None
no_second c h out e = ap (λ (o : Option ℕ). put_before out (on_character false o None (pairs []))) (sym e)

bad_second : (c d h : ℕ) (out more : List ℕ) → Some h ≡ digit_of c → None ≡ digit_of d → put_before out (pairs (c ∷ d ∷ more) None) ≡ None
bad_second c d h out more e n =
    ap₂ (λ (o p : Option ℕ). put_before out (on_character false o None (λ high. on_character false p high (pairs more)))) (sym e) (sym n)

one_pair : (c d h l : ℕ) (out more : List ℕ) → Some h ≡ digit_of c → Some l ≡ digit_of d
    → put_before out (pairs (c ∷ d ∷ more) None) ≡ put_before (out ++ (h * 16 + l) ∷ []) (pairs more None)
one_pair c d h l out more e f =
    ap₂ (λ (o p : Option ℕ). put_before out (on_character false o None (λ high. on_character false p high (pairs more)))) (sym e) (sym f)
    ∙ before_first out (h * 16 + l) (pairs more None)

module _ {S : Type 0} (steps : S → Option ℕ → S → Type 0) where
  -- what is read of a text, and what an iterator still gives of it, are its bytes
  abbrev pub IsReadTo : List ℕ → List ℕ → S → Type 0
  IsReadTo text out s = (rest : List ℕ) × AlwaysYields steps (λ x. x) s rest × (unhex text ≡ put_before out (pairs rest None))

  pub read_none : (text : List ℕ) (s : S) → YieldsList steps (λ x. x) s (unblanked text) → IsReadTo text [] s
  read_none text s y = (unblanked text, y.runs, unblank text None ∙ before_none (pairs (unblanked text) None))

  ended : (s t : S) (rest : List ℕ) → AlwaysYields steps (λ x. x) s rest → steps s None t → rest ≡ []
  ended s t [] y n = refl
  ended s t (x ∷ xs) y n = absurd (y.0 t n)

  taken : (s t : S) (c : ℕ) (rest : List ℕ) → AlwaysYields steps (λ x. x) s rest → steps s (Some c) t → (more : List ℕ) × (rest ≡ c ∷ more) × AlwaysYields steps (λ x. x) t more
  taken s t c [] y one = absurd (y c t one)
  taken s t c (x ∷ xs) y one = let q = y.1 c t one in (xs, ap (λ z. z ∷ xs) (sym q.0), q.1)

  module _ (text out : List ℕ) (s t : S) (r : IsReadTo text out s) where
    -- no digit is left
    pub read_all : steps s None t → unhex text ≡ Some out
    read_all n = r.2 ∙ ap (λ (ys : List ℕ). put_before out (pairs ys None)) (ended s t r.0 r.1 n) ∙ ap Some (append-nil out)

    module _ (c : ℕ) (one : steps s (Some c) t) where
      -- what comes is no digit
      pub read_bad : None ≡ digit_of c → unhex text ≡ None
      read_bad n =
          let a = taken s t c r.0 r.1 one in
          r.2 ∙ ap (λ (ys : List ℕ). put_before out (pairs ys None)) a.1 ∙ no_first c out a.0 n

      module _ (h : ℕ) (e : Some h ≡ digit_of c) (u : S) (P : ℕ → Type 0) (r' : Option ℕ) (same : (d : ℕ) → P d → r' ≡ digit_of d) where
        -- no digit comes after a digit
        pub read_half : (o : Option ℕ) → steps t o u → MatchOption o (r' ≡ None) P → r' ≡ None → unhex text ≡ None
        read_half None two p n =
            let a = taken s t c r.0 r.1 one in
            r.2 ∙ ap (λ (ys : List ℕ). put_before out (pairs ys None)) (a.1 ∙ ap (λ (ys : List ℕ). c ∷ ys) (ended t u a.0 a.2 two)) ∙ no_second c h out e
        read_half (Some d) two p n =
            let a = taken s t c r.0 r.1 one in
            let b = taken t u d a.0 a.2 two in
            r.2 ∙ ap (λ (ys : List ℕ). put_before out (pairs ys None)) (a.1 ∙ ap (λ (ys : List ℕ). c ∷ ys) b.1) ∙ bad_second c d h out b.0 e (sym n ∙ same d p)

        -- two digits make a byte
        pub read_pair : (o : Option ℕ) → steps t o u → MatchOption o (r' ≡ None) P → (l : ℕ) (new : List ℕ) → r' ≡ Some l → new ≡ out ++ (h * 16 + l) ∷ [] → IsReadTo text new u
        read_pair None two p l new f g = let z : ◌≡◌ {A = ℕ} 0 1 = cc in absurd (omega arith)
        read_pair (Some d) two p l new f g =
            let a = taken s t c r.0 r.1 one in
            let b = taken t u d a.0 a.2 two in (
              b.0,
              b.2,
              r.2 ∙ ap (λ (ys : List ℕ). put_before out (pairs ys None)) (a.1 ∙ ap (λ (ys : List ℕ). c ∷ ys) b.1) ∙ one_pair c d h l out b.0 e (sym f ∙ same d p)
                  ∙ ap (λ (ys : List ℕ). put_before ys (pairs b.0 None)) (sym g),
            )

-- each digit that is written is no blank, and has its value
abbrev says : ℕ → Option ℕ → Bool
says d None = false
says d (Some e) = eqb e d

says_so : (d : ℕ) (o : Option ℕ) → T (says d o) → o ≡ Some d
says_so d None t = absurd t
says_so d (Some e) t = ap Some (eqb→eq e d t)

seen_false : (b : Bool) → T (not b) → b ≡ false
seen_false true t = absurd t
seen_false false t = refl

digit_back : (d : ℕ) → d < 16 → digit_of (hex_digit d) ≡ Some d
digit_back d h = says_so d (digit_of (hex_digit d)) (below_at (λ (d : ℕ). says d (digit_of (hex_digit d))) 16 tt d h)

digit_seen : (d : ℕ) → d < 16 → eqb (hex_digit d) 32 ≡ false
digit_seen d h = seen_false (eqb (hex_digit d) 32) (below_at (λ (d : ℕ). not (eqb (hex_digit d) 32)) 16 tt d h)

byte_back : (b : ℕ) (rest : List ℕ) → b < 256 → unhex_from (hex b ++ rest) None ≡ put_first b (unhex_from rest None)
byte_back b rest h =
    let p : b / 16 < 16 = omega arith in
    let q : b % 16 < 16 = omega arith in
    let k : Option ℕ → Option (List ℕ) = unhex_from rest in
    ap₂ (λ (x : Bool) (y : Option ℕ). on_character x y None (λ high. on_character (eqb (hex_digit (b % 16)) 32) (digit_of (hex_digit (b % 16))) high k)) (digit_seen (b / 16) p) (digit_back (b / 16) p)
    ∙ ap₂ (λ (x : Bool) (y : Option ℕ). on_character x y (Some (b / 16)) k) (digit_seen (b % 16) q) (digit_back (b % 16) q)
    ∙ ap (λ (x : ℕ). put_first x (k None)) (div-add-mod' b 16)

pub reads_back : ReadsBack
reads_back [] h = refl
reads_back (b ∷ bs) h = byte_back b (hexes bs) h.0 ∙ ap (put_first b) (reads_back bs h.1)
