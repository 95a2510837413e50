-- Rows that have the shape of a tree are told by the tree that they are gathered to, and the rows that a legal tree tells have it.
use Rattle.std.proofs.Common.{◌≡◌, ℕ, zero, suc, ◌<◌, ◌≤◌, Bool, true, false, List, [], ◌∷◌, ◌++◌, pos, sym, refl, ap, ◌∙◌, subst, append_assoc, append-nil, arith}
use native.Mathlib.Decide.{dec_lt}
use Rattle.grammar.specs.declared.table.Spot.{Spot}
use Rattle.grammar.specs.Format.{layout}
use Rattle.grammar.specs.Grammar.{Row, Parts, none, unknown, named, held, how_many, said, tell, deeper, PartsLegal}
use Rattle.grammar.specs.Reading.{is_text}
use Rattle.grammar.specs.Deciding.{Plain, next, Shaped}
use Rattle.grammar.specs.Sending.{part, gather}
use Rattle.grammar.proofs.Gathered.{gather_here, gather_above, gather_below, held_no_text}

-- what the gathered parts below depth m tell, the deepest first
abbrev unwind : ℕ → List Row → ℕ → List Row
unwind d rows zero = []
unwind d rows (suc m) = tell d m (gather rows m) ++ unwind d rows m

module _ (d : ℕ) (r : Row) (rs : List Row) where
  unwind_above : (m : ℕ) → m ≤ r.depth → unwind d (r ∷ rs) m ≡ unwind d rs m
  unwind_above zero h = refl
  unwind_above (suc m) h = λ i. tell d m (gather_above r rs m h i) ++ unwind_above m (omega arith) i

  unwind_below : (m : ℕ) → r.depth < m → unwind d (r ∷ rs) m ≡ unwind d (r ∷ rs) (suc r.depth)
  unwind_below zero h = absurd (omega arith)
  unwind_below (suc m) h =
      elim (dec_lt r.depth m) [
        | yes k ↦ (λ i. tell d m (gather_below r rs m k i) ++ unwind d (r ∷ rs) m) ∙ unwind_below m k
        | no k ↦ let e : m ≡ r.depth = omega arith in ap (λ (x : ℕ). unwind d (r ∷ rs) (suc x)) e
      ]

  -- the row's component, with what it holds and what follows
  unwind_part : (b : Bool) → Plain b r
      → tell d r.depth (part b r (gather rs (suc r.depth)) (gather rs r.depth)) ++ unwind d rs r.depth ≡ r ∷ unwind d rs (suc (next b r.depth))
  unwind_part true p =
      λ i. record { depth = r.depth; kind = r.kind; a = sym p.0 i; b = sym p.1 i; language = r.language; text = r.text }
      ∷ unwind d rs (suc r.depth)
  unwind_part false p =
      λ i. record { depth = r.depth; kind = r.kind; a = r.a; b = r.b; language = sym p.0 i; text = sym p.1 i }
      ∷ append_assoc (tell d (suc r.depth) (gather rs (suc r.depth))) (tell d r.depth (gather rs r.depth)) (unwind d rs r.depth) i

  unwind_cons : (m : ℕ) → r.depth ≤ m → Plain (is_text (layout r.kind).fields) r
      → unwind d (r ∷ rs) (suc m) ≡ r ∷ unwind d rs (suc (next (is_text (layout r.kind).fields) r.depth))
  unwind_cons m h p =
      unwind_below (suc m) (omega arith)
      ∙ ((λ i. tell d r.depth (gather_here r rs r.depth refl i) ++ unwind_above r.depth (omega arith) i)
      ∙ unwind_part (is_text (layout r.kind).fields) p)

unwinds : (d m : ℕ) (rows : List Row) → Shaped m rows → unwind d rows (suc m) ≡ rows
unwinds d zero [] s = refl
unwinds d (suc m) [] s = unwinds d m [] s
unwinds d m (r ∷ rs) s =
    unwind_cons d r rs m s.0 s.1 ∙ (λ i. r ∷ unwinds d (next (is_text (layout r.kind).fields) r.depth) rs s.2 i)

pub tell_gather : (d : ℕ) (rows : List Row) → Shaped 0 rows → tell d 0 (gather rows 0) ≡ rows
tell_gather d rows s = sym (append-nil (tell d 0 (gather rows 0))) ∙ unwinds d 0 rows s

shapes : (d : ℕ) (s : Spot) (k n : ℕ) (p : Parts) (more : List Row) (m : ℕ)
    → PartsLegal s k p → n ≤ m → ((x : ℕ) → n ≤ x → Shaped x more) → Shaped m (tell d n p ++ more)
shapes d s k n none more m l h g = g m h
shapes d s k n (unknown id bs rest) more m l h g = shapes d s k n rest more m l.5 h g
shapes d s k n (named kind t tail rest) more m l h g =
    let r : Row = record { depth = n; kind = kind; a = pos 0; b = pos 0; language = said d tail; text = t } in
    subst (λ (b : Bool). (n ≤ m) × Plain b r × Shaped (next b n) (tell d n rest ++ more)) (sym (ap is_text l.1))
    (h, (refl, refl), shapes d s k n rest more n l.6 (omega arith) g)
shapes d s k n (held kind a b inner rest) more m l h g =
    let r : Row = record { depth = n; kind = kind; a = a; b = b; language = 0; text = [] } in
    subst (λ (c : Bool). (n ≤ m) × Plain c r × Shaped (next c n) ((tell d (suc n) inner ++ tell d n rest) ++ more))
    (sym (held_no_text (layout kind).fields a b (how_many inner) l.2)) (
      h,
      (refl, refl),
      subst (Shaped (suc n)) (sym (append_assoc (tell d (suc n) inner) (tell d n rest) more))
          (shapes d (layout kind).inside (deeper (layout kind).inside k) (suc n) inner (tell d n rest ++ more) (suc n) l.4 (omega arith)
          (λ x q. shapes d s k n rest more x l.6 (omega arith) g)),
    )

pub tell_shaped : (d : ℕ) (s : Spot) (k : ℕ) (p : Parts) → PartsLegal s k p → Shaped 0 (tell d 0 p)
tell_shaped d s k p l = subst (Shaped 0) (append-nil (tell d 0 p)) (shapes d s k 0 p [] 0 l (omega arith) (λ x q. tt))
