-- What follows a text: the reader accepts exactly the legal tails, and hears what they say.
-- Assumes nothing.
use Rattle.std.proofs.Common.{◌≡◌, ℕ, zero, suc, ◌+◌, ◌<◌, true, not, eqb, List, [], ◌∷◌, ◌++◌, length, get_or, Some, Ok, sym, refl, ap, ◌∙◌, mod-eq_of_lt, div-one, arith, length-append, ne_eqb, eqb-true}
use Rattle.std.proofs.lemmas.Bool.{eqb-false, not-false}
use Rattle.grammar.specs.Format.{big}
use Rattle.grammar.specs.Grammar.{Bytes, Tail, bare, other, spoken, tail_bytes, TailLegal, said}
use Rattle.grammar.specs.Reading.{cut, Piece, Spoken, heard, or_else, tail}
use Rattle.grammar.proofs.Cut.{err_ok, ok_ok, by_test, pass, by_then, by_cases, go_then, Cuts, cut_sound, cut_complete}

pub big_one : (x : ℕ) → x < 256 → big 1 x ≡ x ∷ []
big_one x h = rw (div-one, mod-eq_of_lt h)

whole_one : (bs : List ℕ) (p : Piece) → Cuts 1 bs p → bs ≡ p.id ∷ length p.body ∷ (p.body ++ p.rest)
whole_one bs p k = k.whole ∙ ap (λ (r : List ℕ). p.id ∷ (r ++ p.body ++ p.rest)) (big_one (length p.body) k.small)

spoken_whole : (bs body rest more : List ℕ) (id c : ℕ) → bs ≡ id ∷ length body ∷ (body ++ rest) → id ≡ 0 → body ≡ c ∷ [] → more ≡ rest
    → 0 ∷ 1 ∷ c ∷ more ≡ bs
spoken_whole bs body rest more id c w i o m = rw (w, i, o, m)

other_whole : (bs body rest more : List ℕ) (id : ℕ) → bs ≡ id ∷ length body ∷ (body ++ rest) → more ≡ rest → (id ∷ length body ∷ body) ++ more ≡ bs
other_whole bs body rest more id w m = rw (w, m)

pub single : (xs : List ℕ) → length xs ≡ 1 → xs ≡ get_or xs 0 0 ∷ []
single [] h = absurd (omega arith)
single (x ∷ []) h = refl
single (x ∷ y ∷ xs) h = absurd (omega arith)

said_once : (c : ℕ) (t : Tail) → TailLegal true t → said c t ≡ c
said_once c bare h = refl
said_once c (other id bs rest) h = said_once c rest h.4
said_once c (spoken l rest) h = let z = h.0 in cc

pub record Tailed (l : Spoken) (bs : List ℕ) (told : Spoken) : Type 0 where
  pub tree : Tail
  pub spells : tail_bytes tree ≡ bs
  pub legal : TailLegal (heard l) tree
  pub tells : (d : ℕ) → or_else d told ≡ said (or_else d l) tree

pub tail_sound : (f level : ℕ) (l : Spoken) (at : ℕ) (bs : List ℕ) (told : Spoken) → Bytes bs → tail f level l at bs ≡ Ok told → Tailed l bs told
tail_sound zero level l at bs told b h = absurd (err_ok h)
tail_sound (suc f) level l at [] told b h = record { tree = bare; spells = refl; legal = tt; tells = λ d. ap (or_else d) (sym (ok_ok h)) }
tail_sound (suc f) level l at (x ∷ xs) told b h =
    by_then (cut 1 level at (x ∷ xs)) _ h λ p c h₁.
    let k = cut_sound 1 level at (x ∷ xs) p b c in
    by_cases (eqb p.id 0)
    (λ q.
    by_test (heard l) _ _ (rw q at h₁) λ q₂ h₂.
    by_test (not (eqb (length p.body) 1)) _ _ h₂ λ q₃ h₃.
    let r = tail_sound f level (Some (get_or p.body 0 0)) (at + 3) p.rest told k.rest_bytes h₃ in
    let n = eqb-true (length p.body) 1 (not-false _ q₃) in
    let one = single p.body n in
    record {
      tree = spoken (get_or p.body 0 0) r.tree;
      spells = spoken_whole (x ∷ xs) p.body p.rest (tail_bytes r.tree) p.id _ (whole_one _ p k) (eqb-true p.id 0 q) one r.spells;
      legal = (q₂, (rw one at k.body_bytes).0, r.legal);
      tells = λ d. r.tells d ∙ said_once (get_or p.body 0 0) r.tree r.legal;
    })
    (λ q.
    let r = tail_sound f level l (at + 2 + length p.body) p.rest told k.rest_bytes (rw q at h₁) in
    let z = eqb-false p.id 0 q in
    record {
      tree = other p.id p.body r.tree;
      spells = other_whole (x ∷ xs) p.body p.rest (tail_bytes r.tree) p.id (whole_one _ p k) r.spells;
      legal = (omega arith, k.id_byte, k.body_bytes, k.small, r.legal);
      tells = r.tells;
    })

cut_one : (level at id : ℕ) (body rest : List ℕ) → length body < 256
    → cut 1 level at ((id ∷ length body ∷ body) ++ rest) ≡ Ok (record { id = id; body = body; rest = rest })
cut_one level at id body rest h =
    ap (λ (r : List ℕ). cut 1 level at (id ∷ (r ++ body ++ rest))) (sym (big_one (length body) h)) ∙ cut_complete 1 level at id body rest h

pub tail_complete : (t : Tail) (f level : ℕ) (l : Spoken) (at : ℕ) → length (tail_bytes t) < f → TailLegal (heard l) t
    → (told : Spoken) × (tail f level l at (tail_bytes t) ≡ Ok told) × ((d : ℕ) → or_else d told ≡ said (or_else d l) t)
tail_complete t zero level l at n h = absurd (omega arith)
tail_complete bare (suc f) level l at n h = (l, refl, λ d. refl)
tail_complete (other id bs rest) (suc f) level l at n h =
    let m = length-append bs (tail_bytes rest) in
    let r = tail_complete rest f level l (at + 2 + length bs) (omega arith) h.4 in
    let z = h.0 in
    (r.0, go_then (cut 1 level at ((id ∷ length bs ∷ bs) ++ tail_bytes rest)) _ (cut_one level at id bs (tail_bytes rest) h.3) (rw (ne_eqb id 0 (omega arith)) r.1), r.2)
tail_complete (spoken c rest) (suc f) level l at n h =
    let r = tail_complete rest f level (Some c) (at + 3) (omega arith) h.2 in (
      r.0,
      go_then (cut 1 level at ((0 ∷ 1 ∷ c ∷ []) ++ tail_bytes rest)) _ (cut_one level at 0 (c ∷ []) (tail_bytes rest) (omega arith)) (pass (heard l) _ _ h.0 r.1),
      λ d. r.2 d ∙ said_once c rest h.2,
    )
