-- Rows are admitted row by row exactly when they have the shape of a tree and the tree that they are gathered to is sound.
-- Assumes nothing.
use Rattle.std.proofs.Common.{◌≡◌, ℕ, suc, ◌-◌, ◌<◌, ◌≤◌, Bool, true, false, not, ◌&&◌, ◌||◌, eqb, ltb, leb, List, [], ◌∷◌, length, drop, ℤ, pos, negsuc, sym, refl, ap, ◌∙◌, subst, arith}
use Rattle.grammar.proofs.Flattened.{part_many, count_gather}
use Rattle.grammar.proofs.Sound.{text_of}
use Rattle.std.specs.Bool.{Decides}
use Rattle.std.proofs.lemmas.Bool.Decides.{Decides-and, Decides-like, Decides-eqb, Decides-ltb}
use Rattle.std.proofs.Math.Nat.{ne_of_gt}
use Rattle.grammar.proofs.Legal.{none_nowhere}
use native.Mathlib.Decide.{dec_lt}
use Rattle.std.proofs.lemmas.Bool.{and_parts, and_from, or_parts, ltb-true, leb-true, lt-ltb, le-leb, false≢true}
use Rattle.grammar.specs.declared.table.Spot.{Spot}
use Rattle.grammar.specs.declared.table.Spot.TheVariants.{Descriptions}
use Rattle.grammar.specs.declared.table.Fields.{Fields}
use Rattle.grammar.specs.declared.table.Fields.TheVariants.{Nothing, Code, Text, Globe, Floor, Count, Radius, Height}
use Rattle.grammar.specs.Format.{layout, kind_at, is_zero, below, ranges, fits, Fit, UpTo, Between}
use Rattle.grammar.specs.Grammar.{Row, Parts, none, how_many, deeper}
use Rattle.grammar.specs.Reading.{if, is_text, is_count, closed, empty}
use Rattle.grammar.specs.Deciding.{Plain, next, Shaped, Sound}
use Rattle.grammar.specs.Sending.{part, gather}
use Rattle.grammar.specs.Flat.{held_count}
use Rattle.grammar.specs.Admits.{Level, plain_row, row_stands, within, level_room, opened, at_depth, admits, top_level, AdmitsStands}
use Rattle.grammar.proofs.Lines.{text_closed, text_known}
use Rattle.grammar.proofs.Complete.{is_nowhere}
use Rattle.grammar.proofs.Gathered.{gather_here, gather_above, gather_below}
use Rattle.grammar.proofs.Walked.{room_most, room_grows}

-- of two tests, the second may need what the first says
decides_then : {P Q : Type 0} (a b : Bool) → Decides a P → (P → Decides b Q) → Decides (a && b) (P × Q)
decides_then a b s t = (
  λ h. let p = and_parts a b h in (s.0 p.0, (t (s.0 p.0)).0 p.1),
  λ h. and_from a b (s.1 h.0) ((t h.0).1 h.1),
)

decides_le : (m n : ℕ) → Decides (leb m n) (m ≤ n)
decides_le m n = (leb-true m n, le-leb m n)

decides_is : (b : Bool) → Decides b (b ≡ true)
decides_is b = (λ h. h, λ h. h)

decides_zero : (z : ℤ) → Decides (is_zero z) (z ≡ pos 0)
decides_zero (pos x) = Decides-like (eqb x 0) (λ (e : x ≡ 0). ap pos e) (λ e. cc) (Decides-eqb x 0)
decides_zero (negsuc x) = (λ h. absurd (false≢true h), λ h. cc)

decides_below : (m : ℕ) (z : ℤ) → Decides (below m z) (UpTo m z)
decides_below m (pos x) = Decides-ltb x m
decides_below m (negsuc x) = (λ h. absurd (false≢true h), λ h. absurd h)

decides_ranges : (m n : ℕ) (z : ℤ) → Decides (ranges m n z) (Between m n z)
decides_ranges m n (pos x) = decides_le x n
decides_ranges m n (negsuc x) = decides_le (suc x) m

decides_empty : (xs : List ℕ) → Decides (empty xs) (xs ≡ [])
decides_empty [] = (λ h. refl, λ h. refl)
decides_empty (x ∷ xs) = (λ h. absurd (false≢true h), λ h. cc)

-- numbers fit, and where parts are counted there are not too many
abbrev few_held : Fields → ℕ → Bool
few_held f n = not (is_count f) || ltb n 256

fits_fit : (f : Fields) (a b : ℤ) (n : ℕ) → fits f a b ≡ true → few_held f n ≡ true → Fit f a b n
fits_fit Nothing a b n h k = (Decides-and _ _ (decides_zero a) (decides_zero b)).0 h
fits_fit Code a b n h k = (Decides-and _ _ (decides_below 256 a) (decides_zero b)).0 h
fits_fit Text a b n h k = absurd (false≢true h)
fits_fit Globe a b n h k = (Decides-and _ _ (decides_ranges 18000000 18000000 a) (decides_ranges 9000000 9000000 b)).0 h
fits_fit Floor a b n h k = (Decides-and _ _ (decides_ranges 128 127 a) (decides_zero b)).0 h
fits_fit Count a b n h k = let p = (Decides-and _ _ (decides_zero a) (decides_zero b)).0 h in (p.0, p.1, ltb-true n 256 k)
fits_fit Radius a b n h k = (Decides-and _ _ (decides_below 65536 a) (decides_zero b)).0 h
fits_fit Height a b n h k = (Decides-and _ _ (decides_below 256 a) (decides_ranges 32768 32767 b)).0 h

fit_fits : (f : Fields) (a b : ℤ) (n : ℕ) → Fit f a b n → (fits f a b ≡ true) × (few_held f n ≡ true)
fit_fits Nothing a b n h = ((Decides-and _ _ (decides_zero a) (decides_zero b)).1 h, refl)
fit_fits Code a b n h = ((Decides-and _ _ (decides_below 256 a) (decides_zero b)).1 h, refl)
fit_fits Text a b n h = absurd h
fit_fits Globe a b n h = ((Decides-and _ _ (decides_ranges 18000000 18000000 a) (decides_ranges 9000000 9000000 b)).1 h, refl)
fit_fits Floor a b n h = ((Decides-and _ _ (decides_ranges 128 127 a) (decides_zero b)).1 h, refl)
fit_fits Count a b n h = ((Decides-and _ _ (decides_zero a) (decides_zero b)).1 (h.0, h.1), lt-ltb n 256 h.2)
fit_fits Radius a b n h = ((Decides-and _ _ (decides_below 65536 a) (decides_zero b)).1 h, refl)
fit_fits Height a b n h = ((Decides-and _ _ (decides_below 256 a) (decides_ranges 32768 32767 b)).1 h, refl)

-- what `plain_row` tests, of a text and of others
abbrev PlainFits : Bool → Row → Type 0
PlainFits true r = Plain true r
PlainFits false r = (fits (layout r.kind).fields r.a r.b ≡ true) × Plain false r

abbrev plain_on : Bool → Row → Bool
plain_on b r =
    if b (λ _. is_zero r.a && is_zero r.b)
    (λ _. fits (layout r.kind).fields r.a r.b && (eqb r.language 0 && empty r.text))

decides_plain : (b : Bool) (r : Row) → Decides (plain_on b r) (PlainFits b r)
decides_plain true r = Decides-and (is_zero r.a) (is_zero r.b) (decides_zero r.a) (decides_zero r.b)
decides_plain false r =
    Decides-and (fits (layout r.kind).fields r.a r.b) _ (decides_is _)
    (Decides-and (eqb r.language 0) (empty r.text) (Decides-eqb r.language 0) (decides_empty r.text))

-- what `row_stands` tests
abbrev RowStands : Bool → Level → Row → ℕ → Type 0
RowStands b l r n =
    ((0 < r.kind) × (kind_at l.spot (layout r.kind).id ≡ r.kind))
    × (PlainFits b r × ((deeper (layout r.kind).inside l.nodes ≤ 8) × (few_held (layout r.kind).fields n ≡ true)))

decides_row : (l : Level) (r : Row) (n : ℕ) → Decides (row_stands l r n) (RowStands (is_text (layout r.kind).fields) l r n)
decides_row l r n =
    Decides-and (ltb 0 r.kind && eqb (kind_at l.spot (layout r.kind).id) r.kind) _
    (Decides-and (ltb 0 r.kind) _ (Decides-ltb 0 r.kind) (Decides-eqb (kind_at l.spot (layout r.kind).id) r.kind))
    (Decides-and (plain_row r) _ (decides_plain (is_text (layout r.kind).fields) r)
    (Decides-and (leb (deeper (layout r.kind).inside l.nodes) 8) _ (decides_le _ 8) (decides_is _)))

part_some : (b : Bool) (r : Row) (inner rest : Parts) → part b r inner rest ≡ none → ⊥
part_some b r inner rest h = let m = part_many b r inner rest in let z = ap how_many h in omega arith

none_closed : (s : Spot) (n : ℕ) (p : Parts) → closed s ≡ true → Sound s n p → p ≡ none
none_closed s n p c h = none_nowhere n p (rw (is_nowhere s c) at h)

-- where nothing is gathered one deeper, the next row is no deeper
shaped_less : (m : ℕ) (rs : List Row) → gather rs (suc m) ≡ none → Shaped (suc m) rs → Shaped m rs
shaped_less m [] e s = tt
shaped_less m (r ∷ rs) e s =
    let h : r.depth ≤ suc m = s.0 in
    let n : suc m ≡ r.depth → ⊥ = λ q. part_some (is_text (layout r.kind).fields) r _ _ (sym (gather_here r rs (suc m) q) ∙ e) in
    (omega arith, s.1, s.2)

shaped_more : (m : ℕ) (rs : List Row) → Shaped m rs → Shaped (suc m) rs × (gather rs (suc m) ≡ none)
shaped_more m [] s = (tt, refl)
shaped_more m (r ∷ rs) s = let h : r.depth ≤ m = s.0 in ((omega arith, s.1, s.2), gather_below r rs (suc m) (omega arith))

-- what is gathered at each open level is sound there
abbrev Sounds : List Level → List Row → Type 0
Sounds [] rows = Unit {0}
Sounds (l ∷ more) rows = Sound l.spot l.nodes (gather rows (length more)) × Sounds more rows

-- no level is inside a ninth node
abbrev WithinEight : List Level → Type 0
WithinEight [] = Unit {0}
WithinEight (l ∷ more) = (l.nodes ≤ 8) × WithinEight more

sounds_none : (ls : List Level) → Sounds ls []
sounds_none [] = tt
sounds_none (l ∷ more) = (tt, sounds_none more)

module _ (r : Row) (rs : List Row) where
  -- a row says nothing of the levels above its own
  sounds_after : (ls : List Level) → length ls ≤ r.depth → Sounds ls (r ∷ rs) → Sounds ls rs
  sounds_after [] h s = tt
  sounds_after (l ∷ more) h s = (subst (Sound l.spot l.nodes) (gather_above r rs (length more) h) s.0, sounds_after more (omega arith) s.1)

  sounds_before : (ls : List Level) → length ls ≤ r.depth → Sounds ls rs → Sounds ls (r ∷ rs)
  sounds_before [] h s = tt
  sounds_before (l ∷ more) h s =
      (subst (Sound l.spot l.nodes) (sym (gather_above r rs (length more) h)) s.0, sounds_before more (omega arith) s.1)

  -- the levels that are open at a row's depth; at those deeper there is nothing
  record Reached (ls : List Level) : Type 0 where
    pub level : Level
    pub more : List Level
    pub is : at_depth r.depth ls ≡ level ∷ more
    pub deep : length more ≡ r.depth
    pub eight : WithinEight ls → WithinEight (level ∷ more)
    pub down : Sounds ls (r ∷ rs) → Sounds (level ∷ more) (r ∷ rs)
    pub up : Sounds (level ∷ more) (r ∷ rs) → Sounds ls (r ∷ rs)

  reach : (ls : List Level) → r.depth < length ls → Reached ls
  reach [] h = absurd (omega arith)
  reach (x ∷ xs) h =
      elim (dec_lt r.depth (length xs)) [
        | yes k ↦
            let i : Reached xs = reach xs k in
            let e : suc (length xs) - suc r.depth ≡ suc (length xs - suc r.depth) = omega arith in
            record {
              level = i.level;
              more = i.more;
              is = ap (λ (n : ℕ). drop n (x ∷ xs)) e ∙ i.is;
              deep = i.deep;
              eight = λ w. i.eight w.1;
              down = λ s. i.down s.1;
              up = λ s. (subst (Sound x.spot x.nodes) (sym (gather_below r rs (length xs) k)) tt, i.up s);
            }
        | no k ↦
            let e : suc (length xs) - suc r.depth ≡ 0 = omega arith in
            record {
              level = x;
              more = xs;
              is = ap (λ (n : ℕ). drop n (x ∷ xs)) e;
              deep = omega arith;
              eight = λ w. w;
              down = λ s. s;
              up = λ s. s;
            }
      ]

  -- the levels are right for the rows that follow
  abbrev Follows : Type 0
  Follows = (l : Level) (more : List Level) → WithinEight (l ∷ more) → Decides (admits (l ∷ more) rs) (Shaped (length more) rs × Sounds (l ∷ more) rs)

  module _ (l : Level) (more : List Level) (deep : length more ≡ r.depth) (eight : WithinEight (l ∷ more)) (follows : Follows) where
    abbrev own : Bool → Parts
    own b = part b r (gather rs (suc (length more))) (gather rs (length more))

    gathered : (b : Bool) → is_text (layout r.kind).fields ≡ b → gather (r ∷ rs) (length more) ≡ own b
    gathered b e = gather_here r rs (length more) deep ∙ ap own e

    taken : (b : Bool) → is_text (layout r.kind).fields ≡ b → Sounds (l ∷ more) (r ∷ rs) → Sound l.spot l.nodes (own b) × Sounds more rs
    taken b e s = (subst (Sound l.spot l.nodes) (gathered b e) s.0, sounds_after more (omega arith) s.1)

    put : (b : Bool) → is_text (layout r.kind).fields ≡ b → Sound l.spot l.nodes (own b) → Sounds more rs → Sounds (l ∷ more) (r ∷ rs)
    put b e s t = (subst (Sound l.spot l.nodes) (sym (gathered b e)) s, sounds_before more (omega arith) t)

    counted : how_many (gather rs (suc (length more))) ≡ held_count r.depth rs
    counted = count_gather (length more) rs ∙ ap (λ (m : ℕ). held_count m rs) deep

    -- what the row and those after it must be
    abbrev Asked : Bool → Type 0
    Asked b = Plain b r × Shaped (next b r.depth) rs × Sounds (l ∷ more) (r ∷ rs)

    row_decides : (b : Bool) → is_text (layout r.kind).fields ≡ b → Decides (row_stands l r (held_count r.depth rs)) (RowStands b l r (held_count r.depth rs))
    row_decides b e =
        subst (λ (x : Bool). Decides (row_stands l r (held_count r.depth rs)) (RowStands x l r (held_count r.depth rs))) e
        (decides_row l r (held_count r.depth rs))

    abbrev goes_on : Bool → Bool → Bool
    goes_on b c = row_stands l r (held_count r.depth rs) && admits (if (b || c) (λ _. l ∷ more) (λ _. within l r ∷ l ∷ more)) rs

    -- a row that stands has a sound component, if what it holds and what follows are sound
    sound_held : RowStands false l r (held_count r.depth rs)
        → Sound (within l r).spot (within l r).nodes (gather rs (suc (length more))) → Sound l.spot l.nodes (gather rs (length more))
        → Sound l.spot l.nodes (own false)
    sound_held row inner rest =
        let f : Fields = (layout r.kind).fields in
        let fit : Fit f r.a r.b (held_count r.depth rs) = fits_fit f r.a r.b (held_count r.depth rs) row.1.0.0 row.1.1.1 in
        (row.0.1, row.0.0, subst (λ (n : ℕ). Fit f r.a r.b n) (sym counted) fit, row.1.1.0, inner, rest)

    -- and a row with a sound component stands
    held_stands : Plain false r → Sound l.spot l.nodes (own false) → RowStands false l r (held_count r.depth rs)
    held_stands p s =
        let f : Fields = (layout r.kind).fields in
        let fit : Fit f r.a r.b (held_count r.depth rs) = subst (λ (n : ℕ). Fit f r.a r.b n) counted s.2 in
        let q = fit_fits f r.a r.b (held_count r.depth rs) fit in
        ((s.1, s.0), ((q.0, p), (s.3, q.1)))

    text_stands : is_text (layout r.kind).fields ≡ true → Plain true r → Sound l.spot l.nodes (own true)
        → RowStands true l r (held_count r.depth rs)
    text_stands e p s =
        let o : r.kind ≡ 0 → ⊥ = ne_of_gt (text_known r.kind s.1) in
        let w : deeper (layout r.kind).inside l.nodes ≡ l.nodes =
        ap (λ (x : Spot). deeper x l.nodes) (is_nowhere (layout r.kind).inside (text_closed r.kind e)) in
        let few : few_held (layout r.kind).fields (held_count r.depth rs) ≡ true = ap (λ (f : Fields). few_held f (held_count r.depth rs)) s.1 in
        let m : l.nodes ≤ 8 = eight.0 in
        ((omega arith, s.0), (p, (omega arith, few)))

    -- after a text
    step_text : (c : Bool) → is_text (layout r.kind).fields ≡ true → Decides (goes_on true c) (Asked true)
    step_text c e =
        Decides-like (goes_on true c)
        (λ h. (h.0.1.0, subst (λ (m : ℕ). Shaped m rs) deep h.1.0, put true e (h.0.0.1, text_of (layout r.kind).fields e, h.1.1.0) h.1.1.1))
        (λ h.
        let t = taken true e h.2 in
        (text_stands e h.0 t.0, (subst (λ (m : ℕ). Shaped m rs) (sym deep) h.1, (t.0.2, t.1))))
        (Decides-and (row_stands l r (held_count r.depth rs)) (admits (l ∷ more) rs) (row_decides true e) (follows l more eight))

    -- after a row that can hold nothing
    step_closed : is_text (layout r.kind).fields ≡ false → closed (layout r.kind).inside ≡ true → Decides (goes_on false true) (Asked false)
    step_closed e q =
        Decides-like (goes_on false true)
        (λ h.
        let m = shaped_more (length more) rs h.1.0 in (
          h.0.1.0.1,
          subst (λ (x : ℕ). Shaped (suc x) rs) deep m.0,
          put false e (sound_held h.0 (subst (Sound (within l r).spot (within l r).nodes) (sym m.1) tt) h.1.1.0) h.1.1.1,
        ))
        (λ h.
        let t = taken false e h.2 in
        let n = none_closed (layout r.kind).inside (within l r).nodes (gather rs (suc (length more))) q t.0.4 in (
          held_stands h.0 t.0,
          (shaped_less (length more) rs n (subst (λ (x : ℕ). Shaped (suc x) rs) (sym deep) h.1), (t.0.5, t.1)),
        ))
        (Decides-and (row_stands l r (held_count r.depth rs)) (admits (l ∷ more) rs) (row_decides false e) (follows l more eight))

    -- after a row whose parts may follow
    step_open : is_text (layout r.kind).fields ≡ false → Decides (goes_on false false) (Asked false)
    step_open e =
        Decides-like (goes_on false false)
        (λ h. (h.0.1.0.1, subst (λ (x : ℕ). Shaped (suc x) rs) deep h.1.0, put false e (sound_held h.0 h.1.1.0 h.1.1.1.0) h.1.1.1.1))
        (λ h.
        let t = taken false e h.2 in
        (held_stands h.0 t.0, (subst (λ (x : ℕ). Shaped (suc x) rs) (sym deep) h.1, (t.0.4, (t.0.5, t.1)))))
        (decides_then (row_stands l r (held_count r.depth rs)) (admits (within l r ∷ l ∷ more) rs) (row_decides false e)
        (λ row. follows (within l r) (l ∷ more) (row.1.1.0, eight)))

    step_on : (b c : Bool) → is_text (layout r.kind).fields ≡ b → closed (layout r.kind).inside ≡ c → Decides (goes_on b c) (Asked b)
    step_on true c e q = step_text c e
    step_on false true e q = step_closed e q
    step_on false false e q = step_open e

    step : Decides (row_stands l r (held_count r.depth rs) && admits (opened l more r) rs) (Asked (is_text (layout r.kind).fields))
    step = step_on (is_text (layout r.kind).fields) (closed (layout r.kind).inside) refl refl

-- the rest of the test of a row, by the levels that are open at its depth
abbrev at_levels : Row → List Row → List Level → Bool
at_levels r rs ls = elim ls [ [] ↦ false | l ∷ more ↦ row_stands l r (held_count r.depth rs) && admits (opened l more r) rs ]

module _ (r : Row) (rs : List Row) (follows : Follows r rs) (l : Level) (more : List Level) (eight : WithinEight (l ∷ more)) where
  at_reached : (i : Reached r rs (l ∷ more))
      → Decides (at_levels r rs (at_depth r.depth (l ∷ more)))
      (Asked r rs i.level i.more i.deep (i.eight eight) follows (is_text (layout r.kind).fields))
  at_reached i =
      subst
      (λ (ls : List Level). Decides (at_levels r rs ls) (Asked r rs i.level i.more i.deep (i.eight eight) follows (is_text (layout r.kind).fields)))
      (sym i.is) (step r rs i.level i.more i.deep (i.eight eight) follows)

  one_more : Decides (admits (l ∷ more) (r ∷ rs)) (Shaped (length more) (r ∷ rs) × Sounds (l ∷ more) (r ∷ rs))
  one_more =
      Decides-like (admits (l ∷ more) (r ∷ rs))
      (λ h.
      let d : r.depth < suc (length more) = h.0 in
      let i : Reached r rs (l ∷ more) = reach r rs (l ∷ more) d in
      let a = (at_reached i).0 h.1 in
      ((omega arith, a.0, a.1), i.up a.2))
      (λ h.
      let m : r.depth ≤ length more = h.0.0 in
      let d : r.depth < suc (length more) = omega arith in
      let i : Reached r rs (l ∷ more) = reach r rs (l ∷ more) d in
      (d, (at_reached i).1 (h.0.1, h.0.2, i.down h.1)))
      (Decides-and (ltb r.depth (suc (length more))) (at_levels r rs (at_depth r.depth (l ∷ more))) (Decides-ltb r.depth (suc (length more))) (decides_is _))

admitted : (rows : List Row) (l : Level) (more : List Level) → WithinEight (l ∷ more)
    → Decides (admits (l ∷ more) rows) (Shaped (length more) rows × Sounds (l ∷ more) rows)
admitted [] l more w = (λ h. (tt, sounds_none (l ∷ more)), λ h. refl)
admitted (r ∷ rs) l more w = one_more r rs (admitted rs) l more w

pub admits_stands : AdmitsStands
admits_stands = (
  λ rows h. let a = (at_top rows).0 h in (a.0, a.1.0),
  λ rows h. (at_top rows).1 (h.0, (h.1, tt)),
)
  where
    at_top : (rows : List Row) → Decides (admits top_level rows) (Shaped 0 rows × (Sound Descriptions 0 (gather rows 0) × Unit {0}))
    at_top rows = admitted rows (record { spot = Descriptions; nodes = 0 }) [] (omega arith, tt)

-- the level that a row opens has room for itself and those around it, and never for more than 17
pub levels_few : (l : Level) (more : List Level) (r : Row) (n : ℕ) → length (l ∷ more) ≤ level_room l → row_stands l r n ≡ true
    → (is_text (layout r.kind).fields || closed (layout r.kind).inside) ≡ false
    → (length (within l r ∷ l ∷ more) ≤ level_room (within l r)) × (level_room (within l r) ≤ 17)
levels_few l more r n h s o =
    let row = (decides_row l r n).0 s in
    let c = (or_parts (is_text (layout r.kind).fields) (closed (layout r.kind).inside) o).1 in
    let g = room_grows l.spot (layout r.kind).id r.kind l.nodes row.0.1 row.0.0 c in
    (omega arith, room_most (within l r).spot (within l r).nodes row.1.1.0)
