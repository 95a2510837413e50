-- A tree is legal under a default where its kinds stand right, its texts fit under that default, and the whole is within its limit.
use Rattle.std.proofs.Common.{◌≡◌, ℕ, suc, ◌+◌, ◌^◌, ◌<◌, ◌≤◌, Bool, true, false, T, eqb, ◌⊎◌, List, [], ◌∷◌, ◌++◌, length, pos, sym, refl, ap, subst, inl, inr, arith, length-append}
use Rattle.grammar.proofs.Cut.{by_cases}
use Rattle.grammar.proofs.Complete.{is_nowhere}
use Rattle.grammar.proofs.Lines.{all_below, below_at, text_known}
use Rattle.grammar.specs.declared.table.Spot.TheVariants.{Descriptions, Node, Reference, Place, Modes, Associated, Nowhere}
use Rattle.grammar.specs.declared.table.Spot.{Spot}
use Rattle.grammar.specs.declared.table.Fields.{Fields}
use Rattle.grammar.specs.declared.table.Fields.TheVariants.{Nothing, Code, Text, Globe, Floor, Count, Radius, Height}
use Rattle.grammar.specs.Format.{width, layout, fixed, kind_at}
use Rattle.grammar.specs.Grammar.{Row, Tail, bare, other, spoken, Parts, none, unknown, named, held, tail_bytes, how_many, bytes_of, said, tell, Byte, TailLegal, deeper, PartsLegal}
use Rattle.grammar.specs.Reading.{is_text, closed}
use Rattle.grammar.specs.Deciding.{Sound, text_frame, RowFits, RowsFit}
use Rattle.grammar.specs.Sending.{spoken_unless, tail_for, normal, fields_size}
use Rattle.grammar.proofs.Normal.{on_eqb, at_most, tail_shortens, size_named, size_held, normal_fewer, fit_fewer}
use Rattle.grammar.proofs.Gathered.{held_no_text}
use Rattle.grammar.proofs.Sizes.{kind_below, width_is, fields_size_is}

said_byte : (d : ℕ) (b : Bool) (t : Tail) → Byte d → TailLegal b t → Byte (said d t)
said_byte d b bare h l = h
said_byte d b (other id bs rest) h l = said_byte d b rest h l.4
said_byte d b (spoken m rest) h l = l.1

tail_for_legal : (d l : ℕ) → Byte l → TailLegal false (tail_for d l)
tail_for_legal d l h = on_eqb (λ b. TailLegal false (spoken_unless b l)) l d (λ e. tt) (λ n. (refl, h, tt))

tail_frame : (d l : ℕ) → suc (length (tail_bytes (tail_for d l))) ≡ text_frame (eqb l d)
tail_frame d l = on_eqb (λ b. suc (length (tail_bytes (spoken_unless b l))) ≡ text_frame b) l d (λ e. refl) (λ n. refl)

fit_join : (d : ℕ) (xs ys : List Row) → RowsFit d xs → RowsFit d ys → RowsFit d (xs ++ ys)
fit_join d [] ys p q = q
fit_join d (x ∷ xs) ys p q = (p.0, fit_join d xs ys p.1 q)

fit_split : (d : ℕ) (xs ys : List Row) → RowsFit d (xs ++ ys) → RowsFit d xs × RowsFit d ys
fit_split d [] ys p = (tt, p)
fit_split d (x ∷ xs) ys p = let q = fit_split d xs ys p.1 in ((p.0, q.0), q.1)

pub tell_fits : (d : ℕ) (s : Spot) (k n : ℕ) (p : Parts) → Byte d → PartsLegal s k p → RowsFit d (tell d n p)
tell_fits d s k n none h l = tt
tell_fits d s k n (unknown id bs rest) h l = tell_fits d s k n rest h l.5
tell_fits d s k n (named kind t tail rest) h l =
    let r : Row = record { depth = n; kind = kind; a = pos 0; b = pos 0; language = said d tail; text = t } in
    let w : width s ≡ width (layout kind).holder = width_is s kind l.0 (text_known kind l.1) in
    let z : suc (length (t ++ tail_bytes tail)) < 256 ^ width (layout kind).holder = subst (λ (x : ℕ). suc (length (t ++ tail_bytes tail)) < 256 ^ x) w l.5 in
    let g : length (tail_bytes (tail_for d (said d tail))) ≤ length (tail_bytes tail) = at_most tail_bytes _ _ (tail_shortens d tail) in
    let f : length t + text_frame (eqb (said d tail) d) < 256 ^ width (layout kind).holder =
    omega (arith, length-append t (tail_bytes tail), tail_frame d (said d tail)) in
    subst (λ (b : Bool). RowFits b d r × RowsFit d (tell d n rest)) (sym (ap is_text l.1))
    ((said_byte d false tail h l.4, l.2, l.3, f), tell_fits d s k n rest h l.6)
tell_fits d s k n (held kind a b inner rest) h l =
    let r : Row = record { depth = n; kind = kind; a = a; b = b; language = 0; text = [] } in
    subst (λ (c : Bool). RowFits c d r × RowsFit d (tell d (suc n) inner ++ tell d n rest))
    (sym (held_no_text (layout kind).fields a b (how_many inner) l.2)) (
      tt,
      fit_join d (tell d (suc n) inner) (tell d n rest)
          (tell_fits d (layout kind).inside (deeper (layout kind).inside k) (suc n) inner h l.4) (tell_fits d s k n rest h l.6),
    )

-- a component whose length has one byte holds no parts
abbrev flat : Spot → ℕ → Bool
flat s k = elim (eqb (kind_at s (layout k).id) k) [ false ↦ true | true ↦ closed (layout k).inside ]

holds_none : (s : Spot) (k : ℕ) → T (all_below (flat s) 28) → kind_at s (layout k).id ≡ k → (layout k).inside ≡ Nowhere
holds_none s k c e =
    let b : k < 28 = subst (λ (x : ℕ). x < 28) e (kind_below s (layout k).id) in
    on_eqb (λ x. T (elim x [ false ↦ true | true ↦ closed (layout k).inside ]) → (layout k).inside ≡ Nowhere)
    (kind_at s (layout k).id) k (λ q t. by_cases (closed (layout k).inside) (is_nowhere (layout k).inside) (λ c. absurd (subst T c t))) (λ n. absurd (n e)) (below_at (flat s) 28 c k b)

narrow : (s : Spot) (k : ℕ) → kind_at s (layout k).id ≡ k → (256 ^ width s ≡ 65536) ⊎ ((256 ≤ 256 ^ width s) × ((layout k).inside ≡ Nowhere))
narrow Descriptions k e = inl refl
narrow Node k e = inl refl
narrow Reference k e = inr (omega arith, holds_none Reference k tt e)
narrow Place k e = inr (omega arith, holds_none Place k tt e)
narrow Modes k e = inr (omega arith, holds_none Modes k tt e)
narrow Associated k e = inl refl
narrow Nowhere k e = inr (omega arith, holds_none Nowhere k tt e)

pub none_nowhere : (n : ℕ) (p : Parts) → Sound Nowhere n p → p ≡ none
none_nowhere n none l = refl
none_nowhere n (unknown id bs rest) l = absurd l
none_nowhere n (named k t tail rest) l = let e : 0 ≡ k = l.0 in let h : 0 < k = text_known k l.1 in absurd (omega arith)
none_nowhere n (held k a b inner rest) l = let e : 0 ≡ k = l.0 in let h : 0 < k = l.1 in absurd (omega arith)

pub fields_small : (f : Fields) → fields_size f ≤ 8
fields_small Nothing = omega arith
fields_small Code = omega arith
fields_small Text = omega arith
fields_small Globe = omega arith
fields_small Floor = omega arith
fields_small Count = omega arith
fields_small Radius = omega arith
fields_small Height = omega arith

held_fits : (d : ℕ) (s i : Spot) (n f : ℕ) (p : Parts) → f ≤ 8 → f + length (bytes_of i (normal d p)) < 65536
    → Sound i n p → (256 ^ width s ≡ 65536) ⊎ ((256 ≤ 256 ^ width s) × (i ≡ Nowhere)) → f + length (bytes_of i (normal d p)) < 256 ^ width s
held_fits d s i n f p small h l (inl e) = omega arith
held_fits d s i n f p small h l (inr e) =
    let q : p ≡ none = none_nowhere n p (subst (λ (x : Spot). Sound x n p) e.1 l) in
    let z : length (bytes_of i (normal d p)) ≡ 0 = ap (λ (x : Parts). length (bytes_of i (normal d x))) q in
    let w : 256 ≤ 256 ^ width s = e.0 in
    omega arith

pub legal_from : (d : ℕ) (s : Spot) (k n : ℕ) (p : Parts)
    → Sound s k p → RowsFit d (tell d n p) → length (bytes_of s (normal d p)) < 65536 → PartsLegal s k (normal d p)
legal_from d s k n none l f h = tt
legal_from d s k n (unknown id bs rest) l f h = absurd l
legal_from d s k n (named kind t tail rest) l f h =
    let r : Row = record { depth = n; kind = kind; a = pos 0; b = pos 0; language = said d tail; text = t } in
    let g : RowFits true d r = subst (λ (b : Bool). RowFits b d r) (ap is_text l.1) f.0 in
    let w : width s ≡ width (layout kind).holder = width_is s kind l.0 (text_known kind l.1) in
    let z : length t + text_frame (eqb (said d tail) d) < 256 ^ width s = subst (λ (x : ℕ). length t + text_frame (eqb (said d tail) d) < 256 ^ x) (sym w) g.3 in (
      l.0,
      l.1,
      g.1,
      g.2,
      tail_for_legal d (said d tail) g.0,
      omega (arith, length-append t (tail_bytes (tail_for d (said d tail))), tail_frame d (said d tail)),
      legal_from d s k n rest l.2 f.1 (omega (arith, size_named s kind t (tail_for d (said d tail)) (normal d rest))),
    )
legal_from d s k n (held kind a b inner rest) l f h =
    let i : Spot = (layout kind).inside in
    let c : ℕ = how_many (normal d inner) in
    let v = fit_split d (tell d (suc n) inner) (tell d n rest) f.1 in
    let z = size_held s kind a b (normal d inner) (normal d rest) in
    let y = fields_size_is (layout kind).fields a b c in
    let x = fields_small (layout kind).fields in
    let u : fields_size (layout kind).fields + length (bytes_of i (normal d inner)) < 256 ^ width s =
    held_fits d s i (deeper i k) (fields_size (layout kind).fields) inner x (omega arith) l.4 (narrow s kind l.0) in (
      l.0,
      l.1,
      fit_fewer (layout kind).fields a b (how_many inner) c (normal_fewer d inner) l.2,
      l.3,
      legal_from d i (deeper i k) (suc n) inner l.4 v.0 (omega arith),
      omega (arith, length-append (fixed (layout kind).fields a b c) (bytes_of i (normal d inner))),
      legal_from d s k n rest l.5 v.1 (omega arith),
    )
