-- A look over the rows of a location, underway: what is kept from row to row, and what follows at the end or where it is given up.
-- Assumes nothing.
use Rattle.std.proofs.Common.{◌≡◌, ℕ, zero, suc, ◌+◌, ◌-◌, ◌*◌, ◌<◌, ◌≤◌, Bool, true, false, not, ◌&&◌, ◌||◌, eqb, ltb, leb, List, [], ◌∷◌, length, ◌++◌, get_or, drop, take, replicate, Some, None, Option, sym, refl, ap, ◌∙◌, subst, inl, inr, arith, length-append, length-take-le}
use native.Mathlib.Decide.{dec_lt}
use lib.ListN.{get_or-replicate, length-replicate}
use Rattle.std.proofs.Math.ListN.{get_or-append}
use Rattle.std.proofs.Math.Seq.{get_or-append_seam}
use Rattle.std.proofs.lemmas.List.{get_or-take}
use Rattle.std.proofs.lemmas.Bool.{and_parts, and_cases, and_left, and_right, ltb-true, leb-true, eqb-true, lt-ltb, ne_eqb, cases_lt}
use Rattle.grammar.specs.declared.table.Spot.TheVariants.{Descriptions}
use Rattle.grammar.specs.declared.table.Layout.{Layout}
use Rattle.grammar.specs.Format.{layout, kind_at, is_zero, fits}
use Rattle.grammar.specs.Grammar.{Rows, Row as Told, Byte, Bytes, deeper}
use Rattle.grammar.specs.Reading.{if, is_text, is_count, empty}
use Rattle.grammar.specs.Flat.{held_count}
use Rattle.grammar.specs.Sending.{counts, texts_in, full_size, frame, Stands, stands?, stands, is_yes}
use Rattle.grammar.specs.Admits.{Level, plain_row, row_stands, within, level_room, opened, at_depth, admits, top_level}
use Rattle.grammar.specs.Choice.{over, tight, any_over, suits, bare_size, base_size, texts as texts_of, ByteRows}
use Rattle.grammar.proofs.Admitted.{admits_stands, levels_few}
use Rattle.grammar.proofs.Choosing.{texts_in_le, full_is, rows_fit_not}
use Rattle.location.specs.Answers.{seen}
use Rattle.sender.specs.declared.survey.Open.{Open}
use Rattle.sender.specs.declared.survey.Sums.{Sums}
use Rattle.sender.specs.Tested.{plain_by, stands_in, shut, blank_open, level, open_levels, Roomy, Opened}
use Rattle.sender.specs.Surveyed.{must_be, Added}
use Rattle.sender.specs.Heads.{own_long}
use Rattle.sender.proofs.Looked.{own_bare}

clash : {X : Type 0} → true ≡ false → X
clash e = let z : ◌≡◌ {A = ℕ} 0 1 = cc in absurd (omega arith)

-- What is kept: the levels that are open, the sums and the tally so far, for the rows that are left of all.
pub record Underway (os : List Open) (s : Sums) (ts : List ℕ) (rest all : Rows) : Type 0 where
  pub roomy : Roomy os
  pub tree : admits top_level all ≡ admits (open_levels os (length os)) rest
  pub fit : any_over all ≡ any_over rest
  pub bytes : ByteRows rest → ByteRows all
  pub suit : (d : ℕ) → suits d all ≡ (must_be s.must d && suits d rest)
  pub base : s.base + base_size rest ≡ base_size all
  pub texts : s.texts + texts_of rest ≡ texts_of all
  pub long : length ts ≡ 256
  pub tally : (k : ℕ) → k < 256 → get_or ts k 0 + texts_in k rest ≡ texts_in k all
  pub each : (k : ℕ) → k < 256 → get_or ts k 0 ≤ s.texts
  pub small : s.texts ≤ s.base
  pub few : s.base ≤ 65531

-- At the start only the descriptions are open.
abbrev pub top_open : Open
top_open = record { spot = Descriptions; nodes = 0 }

abbrev first_sums : Sums
first_sums = record { base = 0; texts = 0; must = None }

start_all : (all : Rows) → Underway (top_open ∷ []) first_sums (replicate 256 0) all all
start_all all =
    record {
      roomy =
          record {
            room = λ j h. let z : j ≡ 0 = omega arith in rw z (omega arith);
            eight = λ j h. let z : j ≡ 0 = omega arith in rw z (omega arith);
          };
      tree = refl;
      fit = refl;
      bytes = λ h. h;
      suit = λ d. refl;
      base = omega arith;
      texts = omega arith;
      long = length-replicate {A = ℕ} 256 0;
      tally = λ k h. let z : get_or {A = ℕ} (replicate 256 0) k 0 ≡ 0 = get_or-replicate 256 k 0 0 h in omega arith;
      each = λ k h. let z : get_or {A = ℕ} (replicate 256 0) k 0 ≡ 0 = get_or-replicate 256 k 0 0 h in omega arith;
      small = omega arith;
      few = omega arith;
    }

pub start : (all rows : Rows) (os : List Open) → rows ≡ all → os ≡ top_open ∷ [] → Underway os first_sums (replicate 256 0) rows all
start all rows os e f =
    subst (λ (o : List Open). Underway o first_sums (replicate 256 0) rows all) (sym f)
    (subst (λ (r : Rows). Underway (top_open ∷ []) first_sums (replicate 256 0) r all) (sym e) (start_all all))

-- The levels that are open at a depth.
levels_length : (os : List Open) (n : ℕ) → length (open_levels os n) ≡ n
levels_length os zero = refl
levels_length os (suc n) = ap suc (levels_length os n)

levels_drop : (os : List Open) (n d : ℕ) → d < n → drop (n - suc d) (open_levels os n) ≡ open_levels os (suc d)
levels_drop os zero d h = absurd (omega arith)
levels_drop os (suc n) d h =
    elim (dec_lt d n) [
      | yes k ↦
          let e : suc n - suc d ≡ suc (n - suc d) = omega arith in
          ap (λ (m : ℕ). drop m (open_levels os (suc n))) e ∙ levels_drop os n d k
      | no k ↦
          let e : suc n - suc d ≡ 0 = omega arith in
          let q : n ≡ d = omega arith in
          ap (λ (m : ℕ). drop m (open_levels os (suc n))) e ∙ ap (λ (m : ℕ). open_levels os (suc m)) q
    ]

levels_at : (os : List Open) (n d : ℕ) → d < n → at_depth d (open_levels os n) ≡ open_levels os (suc d)
levels_at os n d h = ap (λ (m : ℕ). drop (m - suc d) (open_levels os n)) (levels_length os n) ∙ levels_drop os n d h

levels_kept : (os after : List Open) (m : ℕ) → ((j : ℕ) → j < m → get_or after j blank_open ≡ get_or os j blank_open)
    → open_levels after m ≡ open_levels os m
levels_kept os after zero h = refl
levels_kept os after (suc m) h = λ i. level (h m (omega arith) i) ∷ levels_kept os after m (λ j k. h j (omega arith)) i

-- A row is tested by its text's length as by the text.
empty_is : (t : List ℕ) → eqb (length t) 0 ≡ empty t
empty_is [] = refl
empty_is (x ∷ t) = ne_eqb (length (x ∷ t)) 0 (λ h. omega arith)

module _ (o : Open) (x : Told) (n : ℕ) where
  abbrev enough : Bool
  enough = not (is_count (layout x.kind).fields) || ltb n 256

  abbrev stands_if : Bool → Bool
  stands_if e =
      (ltb 0 x.kind && eqb (kind_at o.spot (layout x.kind).id) x.kind)
      && (if (is_text (layout x.kind).fields) (λ _. is_zero x.a && is_zero x.b)
      (λ _. fits (layout x.kind).fields x.a x.b && (eqb x.language 0 && e))
      && (leb (deeper (layout x.kind).inside o.nodes) 8 && enough))

  stands_row : stands_in o (seen x) enough ≡ row_stands (level o) x n
  stands_row = ap stands_if (empty_is x.text)

-- the rest of the test of a row, by the levels that are open at its depth
abbrev at_levels : Told → Rows → List Level → Bool
at_levels r rs ls = elim ls [ [] ↦ false | l ∷ more ↦ row_stands l r (held_count r.depth rs) && admits (opened l more r) rs ]

and_same : (a b c : Bool) → (a ≡ true → b ≡ c) → (a && b) ≡ (a && c)
and_same true b c h = h refl
and_same false b c h = refl

admits_step : (os : List Open) (n : ℕ) (x : Told) (xs : Rows)
    → admits (open_levels os n) (x ∷ xs) ≡ (ltb x.depth n && at_levels x xs (open_levels os (suc x.depth)))
admits_step os n x xs =
    ap (λ (m : ℕ). ltb x.depth m && at_levels x xs (at_depth x.depth (open_levels os n))) (levels_length os n)
    ∙ and_same (ltb x.depth n) _ _ (λ h. ap (at_levels x xs) (levels_at os n x.depth (ltb-true x.depth n h)))

-- Where rows stand under no default.
is_no_of : {A : Type 0} (x : Dec A) → (A → ⊥) → is_yes x ≡ false
is_no_of (yes a) b = absurd (b a)
is_no_of (no n) b = refl

stands_not : (all : Rows) (d : ℕ) → (Stands all d → ⊥) → stands all d ≡ false
stands_not all d h = is_no_of (stands? all d) h

stands_least : (all : Rows) (d : ℕ) → Stands all d → frame all + base_size all ≤ 65535
stands_least all d st =
    let m : frame all + full_size all ≤ 65535 + 3 * texts_in d all = st.3 in
    let t = texts_in_le d all in
    let f = full_is all in
    omega arith

frame_some : (all : Rows) → 0 < base_size all → frame all ≡ 4
frame_some [] h = absurd (omega arith)
frame_some (r ∷ rs) h = refl

module _ (os : List Open) (s : Sums) (ts : List ℕ) (x : Told) (xs all : Rows) (u : Underway os s ts (x ∷ xs) all) where
  abbrev deep : ℕ
  deep = length os

  abbrev held : ℕ
  held = held_count x.depth xs

  abbrev lay : Layout
  lay = layout x.kind

  -- the holder that the row is in
  abbrev here : Open
  here = get_or os x.depth blank_open

  abbrev passes : Bool
  passes = ltb x.depth deep && stands_in here (seen x) (enough here x held)

  -- A row that may not stand where it does.
  pub stray : passes ≡ false → (d : ℕ) → d < 256 → stands all d ≡ false
  stray h d k =
      stands_not all d (λ st. clash (sym (admits_stands.1 all (st.0, st.1)) ∙ (u.tree ∙ (admits_step os deep x xs ∙ not_here))))
    where
      not_here : (ltb x.depth deep && (row_stands (level here) x held && admits (opened (level here) (open_levels os x.depth) x) xs)) ≡ false
      not_here =
          elim (and_cases (ltb x.depth deep) (stands_in here (seen x) (enough here x held)) h) [
            | inl p ↦ and_left (ltb x.depth deep) _ p
            | inr p ↦ and_right (ltb x.depth deep) _ (and_left (row_stands (level here) x held) _ (sym (stands_row here x held) ∙ p))
          ]

  -- A row that no default can serve together with those before it.
  pub unfit : Added s (seen x) None → (d : ℕ) → d < 256 → stands all d ≡ false
  unfit (inl o) d k = stands_not all d (λ st. clash (sym (u.fit ∙ or_here (any_over xs) o) ∙ (rows_fit_not d all st.2).0))
    where
      or_here : (b : Bool) → over x ≡ true → (over x || b) ≡ true
      or_here b h = rw h
  unfit (inr (inl t)) d k =
      stands_not all d (λ st.
      let a = and_parts (must_be s.must d) _ (sym (u.suit d) ∙ (rows_fit_not d all st.2).1) in
      let b = and_parts (not (tight x) || eqb x.language d) _ a.1 in
      let c : eqb x.language d ≡ true = subst (λ (v : Bool). (not v || eqb x.language d) ≡ true) t.0 b.0 in
      clash (sym a.0 ∙ (ap (must_be s.must) (sym (eqb-true x.language d c)) ∙ t.1)))
  unfit (inr (inr h)) d k =
      stands_not all d (λ st.
      let m = stands_least all d st in
      let b : s.base + (bare_size x + base_size xs) ≡ base_size all = u.base in
      let n : 65531 < s.base + own_long x.language (seen x) = h in
      let o = own_bare x in
      let p : 0 < base_size all = omega arith in
      let f = frame_some all p in
      omega arith)

  module _ (pass : passes ≡ true) where
    shallow : x.depth < deep
    shallow = ltb-true x.depth deep (and_parts (ltb x.depth deep) _ pass).0

    row_ok : row_stands (level here) x held ≡ true
    row_ok = sym (stands_row here x held) ∙ (and_parts (ltb x.depth deep) _ pass).1

    roomy_here : length (open_levels os (suc x.depth)) ≤ level_room (level here)
    roomy_here = let e = levels_length os (suc x.depth) in let r = u.roomy.room x.depth shallow in omega arith

    grown : shut (seen x) ≡ false → (suc (suc x.depth) ≤ level_room (within (level here) x)) × (level_room (within (level here) x) ≤ 17)
    grown h =
        let g = levels_few (level here) (open_levels os x.depth) x held roomy_here row_ok h in
        let e = levels_length os x.depth in
        let a : suc (suc (length (open_levels os x.depth))) ≤ level_room (within (level here) x) = g.0 in
        (omega arith, g.1)

    -- there is room for what the row opens
    pub row_room : shut (seen x) ≡ false → suc x.depth < 17
    row_room h = let g = grown h in let a = g.0 in let b = g.1 in omega arith

    inner_eight : deeper lay.inside here.nodes ≤ 8
    inner_eight =
        let a = (and_parts (ltb 0 x.kind && eqb (kind_at here.spot lay.id) x.kind) _ row_ok).1 in
        let b = (and_parts (plain_row x) _ a).1 in
        leb-true (deeper lay.inside here.nodes) 8 (and_parts (leb (deeper lay.inside here.nodes) 8) _ b).0

    abbrev inner : Open
    inner = record { spot = lay.inside; nodes = deeper lay.inside here.nodes }

    -- The levels after the row.
    record After (after : List Open) : Type 0 where
      pub roomy : Roomy after
      pub are : open_levels after (length after) ≡ opened (level here) (open_levels os x.depth) x

    abbrev opened_if : Bool → List Level
    opened_if b =
        if b (λ _. level here ∷ open_levels os x.depth) (λ _. within (level here) x ∷ level here ∷ open_levels os x.depth)

    -- those around the row stay
    abbrev around : List Open
    around = take (suc x.depth) os

    around_long : length around ≡ suc x.depth
    around_long = length-take-le (suc x.depth) os shallow

    around_same : (j : ℕ) → j < suc x.depth → get_or around j blank_open ≡ get_or os j blank_open
    around_same j h = get_or-take (suc x.depth) os j blank_open h

    around_room : (o : Open) (j : ℕ) → o ≡ get_or os j blank_open → j < suc x.depth → (suc j ≤ level_room (level o)) × (o.nodes ≤ 8)
    around_room o j e h =
        let l = shallow in
        subst (λ (p : Open). (suc j ≤ level_room (level p)) × (p.nodes ≤ 8)) (sym e) (u.roomy.room j (omega arith), u.roomy.eight j (omega arith))

    after_shut : shut (seen x) ≡ true → After around
    after_shut q =
        let n = around_long in
        record {
          roomy = record {
            room = λ j h. let k : j < suc x.depth = omega arith in (around_room (get_or around j blank_open) j (around_same j k) k).0;
            eight = λ j h. let k : j < suc x.depth = omega arith in (around_room (get_or around j blank_open) j (around_same j k) k).1;
          };
          are = ap (open_levels around) n ∙ levels_kept os around (suc x.depth) around_same ∙ ap opened_if (sym q);
        }

    module _ (q : shut (seen x) ≡ false) where
      abbrev more : List Open
      more = around ++ inner ∷ []

      more_long : length more ≡ suc (suc x.depth)
      more_long = omega (arith, length-append around (inner ∷ []), around_long)

      more_same : (j : ℕ) → j < suc x.depth → get_or more j blank_open ≡ get_or os j blank_open
      more_same j h = get_or-append around (inner ∷ []) blank_open j (omega (arith, around_long)) ∙ around_same j h

      same : get_or more (suc x.depth) blank_open ≡ inner
      same = subst (λ (n : ℕ). get_or more n blank_open ≡ inner) around_long (get_or-append_seam around inner [] blank_open)

      rooms : (j : ℕ) → j < length more → (suc j ≤ level_room (level (get_or more j blank_open))) × ((get_or more j blank_open).nodes ≤ 8)
      rooms j h =
          let n = more_long in
          elim (cases_lt j (suc x.depth)) [
            | inl k ↦ around_room (get_or more j blank_open) j (more_same j k) k
            | inr k ↦
                let eq : suc x.depth ≡ j = omega arith in
                subst (λ (n : ℕ). (suc n ≤ level_room (level (get_or more n blank_open))) × ((get_or more n blank_open).nodes ≤ 8)) eq
                (subst (λ (o : Open). (suc (suc x.depth) ≤ level_room (level o)) × (o.nodes ≤ 8)) (sym same) ((grown q).0, inner_eight))
          ]

      after_open : After more
      after_open =
          record {
            roomy = record { room = λ j h. (rooms j h).0; eight = λ j h. (rooms j h).1 };
            are =
                ap (open_levels more) more_long
                ∙ (λ i. level (same i) ∷ levels_kept os more (suc x.depth) more_same i)
                ∙ ap opened_if (sym q);
          }

    after_row : (b : Bool) → shut (seen x) ≡ b → (after : List Open) → Opened b os (seen x) after → After after
    after_row true q after o = subst After (sym o) (after_shut q)
    after_row false q after o = subst After (sym o) (after_open q)

    -- a row that is no text has none
    no_text : is_text lay.fields ≡ false → x.text ≡ []
    no_text q = none_of x.text (sym (empty_is x.text) ∙ (and_parts (eqb x.language 0) (eqb (length x.text) 0) plain).1)
      where
        none_of : (t : List ℕ) → empty t ≡ true → t ≡ []
        none_of [] h = refl
        none_of (y ∷ t) h = clash (sym h)

        plain_at : stands_if here x held (eqb (length x.text) 0) ≡ true
        plain_at = (and_parts (ltb x.depth deep) _ pass).1

        plain : (eqb x.language 0 && eqb (length x.text) 0) ≡ true
        plain =
            let a = (and_parts (ltb 0 x.kind && eqb (kind_at here.spot lay.id) x.kind) _ plain_at).1 in
            let b = (and_parts (plain_by (seen x)) _ a).0 in
            (and_parts (fits lay.fields x.a x.b) _
            (subst (λ (v : Bool). if v (λ _. is_zero x.a && is_zero x.b)
            (λ _. fits lay.fields x.a x.b && (eqb x.language 0 && eqb (length x.text) 0)) ≡ true) q b)).1

    -- The look goes on after the row.
    pub go_on : (os' : List Open) (t : Sums) (ts' : List ℕ) → Opened (shut (seen x)) os (seen x) os' → Added s (seen x) (Some t)
        → length ts' ≡ 256 → ((k : ℕ) → get_or ts' k 0 ≡ counts (is_text lay.fields) (eqb x.language k) (get_or ts k 0))
        → (is_text lay.fields ≡ true → Bytes x.text) → Byte x.language → length x.text < 256
        → Underway os' t ts' xs all
    go_on os' t ts' o a l c b g n =
        let f = after_row (shut (seen x)) refl os' o in
        record {
          roomy = f.roomy;
          tree = u.tree ∙ (admits_step os deep x xs ∙ (goes ∙ ap (λ (ls : List Level). admits ls xs) (sym f.are)));
          fit = u.fit ∙ ap (λ (v : Bool). v || any_over xs) a.0;
          bytes = λ h. u.bytes ((g, bytes_here (is_text lay.fields) refl, n), h);
          suit = λ d. u.suit d ∙ suited d (tight x) refl;
          base = let e : s.base + (bare_size x + base_size xs) ≡ base_size all = u.base in let w : t.base ≡ s.base + own_long x.language (seen x) = a.3 in let o = own_bare x in omega arith;
          texts = texts_on (is_text lay.fields) u.texts a.5;
          long = l;
          tally = λ k h. tally_on (is_text lay.fields) (eqb x.language k) k (u.tally k h) (c k);
          each = λ k h. each_on (is_text lay.fields) (eqb x.language k) k (u.each k h) (c k) a.5;
          small = small_on (is_text lay.fields) u.small a.5;
          few = a.4;
        }
      where
        goes : (ltb x.depth deep && (row_stands (level here) x held && admits (opened (level here) (open_levels os x.depth) x) xs))
            ≡ admits (opened (level here) (open_levels os x.depth) x) xs
        goes = rw (lt-ltb x.depth deep shallow, row_ok)

        bytes_here : (v : Bool) → is_text lay.fields ≡ v → Bytes x.text
        bytes_here true q = b q
        bytes_here false q = subst Bytes (sym (no_text q)) tt

        narrowed : (d : ℕ) (v w : Bool) → eqb x.language d ≡ v → (v ≡ true → must_be s.must d ≡ true) → (must_be s.must d && (v && w)) ≡ (v && w)
        narrowed d true w q h = rw (h refl)
        narrowed d false w q h = and_right (must_be s.must d) false refl

        suited : (d : ℕ) (v : Bool) → tight x ≡ v
            → (must_be s.must d && ((not v || eqb x.language d) && suits d xs)) ≡ (must_be t.must d && suits d xs)
        suited d true q =
            let m = a.1 q in
            narrowed d (eqb x.language d) (suits d xs) refl (λ h. ap (must_be s.must) (sym (eqb-true x.language d h)) ∙ m.0)
            ∙ ap (λ (y : Option ℕ). must_be y d && suits d xs) (sym m.1)
        suited d false q = ap (λ (y : Option ℕ). must_be y d && suits d xs) (sym (a.2 q))

        texts_on : (v : Bool) → s.texts + if v (λ _. suc (texts_of xs)) (λ _. texts_of xs) ≡ texts_of all
            → t.texts ≡ if v (λ _. suc s.texts) (λ _. s.texts) → t.texts + texts_of xs ≡ texts_of all
        texts_on true h k = omega arith
        texts_on false h k = omega arith

        tally_on : (v w : Bool) (k : ℕ) → get_or ts k 0 + counts v w (texts_in k xs) ≡ texts_in k all → get_or ts' k 0 ≡ counts v w (get_or ts k 0)
            → get_or ts' k 0 + texts_in k xs ≡ texts_in k all
        tally_on true true k h e = omega arith
        tally_on true false k h e = omega arith
        tally_on false w k h e = omega arith

        each_on : (v w : Bool) (k : ℕ) → get_or ts k 0 ≤ s.texts → get_or ts' k 0 ≡ counts v w (get_or ts k 0)
            → t.texts ≡ if v (λ _. suc s.texts) (λ _. s.texts) → get_or ts' k 0 ≤ t.texts
        each_on true true k h e m = omega arith
        each_on true false k h e m = omega arith
        each_on false w k h e m = omega arith

        small_on : (v : Bool) → s.texts ≤ s.base → t.texts ≡ if v (λ _. suc s.texts) (λ _. s.texts) → t.texts ≤ t.base
        small_on true h e = let w : t.base ≡ s.base + own_long x.language (seen x) = a.3 in let o = own_bare x in let p : 0 < bare_size x = omega arith in omega arith
        small_on false h e = let w : t.base ≡ s.base + own_long x.language (seen x) = a.3 in let o = own_bare x in omega arith
