-- A default stands by what one look over the rows finds; and the chosen one is the one with most texts, the lowest among equals.
-- Assumes nothing.
use Rattle.std.proofs.Common.{◌≡◌, ℕ, suc, ◌+◌, ◌*◌, ◌^◌, ◌<◌, ◌≤◌, Bool, true, false, not, ◌&&◌, ◌||◌, eqb, leb, ◌⊎◌, List, [], ◌∷◌, length, Some, None, Option, sym, refl, ap, ◌∙◌, inl, inr, arith, leb-false, leb-true}
use Rattle.grammar.proofs.Sends.{is_yes_of}
use Rattle.std.proofs.lemmas.Bool.{lt-leb, or_parts, and_parts, or_right, true≢false}
use Rattle.grammar.specs.declared.table.Fields.{Fields}
use Rattle.grammar.specs.declared.table.Fields.TheVariants.{Nothing, Code, Text, Globe, Floor, Count, Radius, Height}
use Rattle.grammar.specs.Format.{layout, width, fixed_bytes}
use Rattle.grammar.specs.Grammar.{Row, Byte, Bytes}
use Rattle.grammar.specs.Reading.{if, is_text}
use Rattle.grammar.specs.Deciding.{RowsFit, RowFits}
use Rattle.grammar.specs.Sending.{counts, texts_in, fields_size, body_size, full_size, frame, stands?, stands, is_yes, score, most, sent, sending}
use Rattle.grammar.specs.Admits.{admits, top_level}
use Rattle.grammar.specs.Choice.{over, tight, any_over, suits, base_size, texts, ByteRows, length_under, StandsBy}
use Rattle.grammar.proofs.Cut.{by_cases}
use Rattle.grammar.proofs.Chosen.{Most, most_is}
use Rattle.grammar.proofs.Admitted.{admits_stands}

-- no more texts are in a language than there are
pub texts_in_le : (d : ℕ) (rows : List Row) → texts_in d rows ≤ texts rows
texts_in_le d [] = omega arith
texts_in_le d (r ∷ rs) =
    let h = texts_in_le d rs in go (is_text (layout r.kind).fields) (eqb r.language d) h
  where
    go : (b c : Bool) → texts_in d rs ≤ texts rs → counts b c (texts_in d rs) ≤ if b (λ _. suc (texts rs)) (λ _. texts rs)
    go true true h = omega arith
    go true false h = omega arith
    go false c h = h

fields_fixed : (f : Fields) → is_text f ≡ false → fields_size f ≡ fixed_bytes f
fields_fixed Nothing h = refl
fields_fixed Code h = refl
fields_fixed Text h = absurd (true≢false h)
fields_fixed Globe h = refl
fields_fixed Floor h = refl
fields_fixed Count h = refl
fields_fixed Radius h = refl
fields_fixed Height h = refl

-- with a language part for every text, three bytes come on for each
pub full_is : (rows : List Row) → full_size rows ≡ base_size rows + 3 * texts rows
full_is [] = refl
full_is (r ∷ rs) = let h = full_is rs in go (is_text (layout r.kind).fields) refl h
  where
    go : (b : Bool) → is_text (layout r.kind).fields ≡ b → full_size rs ≡ base_size rs + 3 * texts rs
        → suc (width (layout r.kind).holder) + body_size b r + full_size rs
        ≡ (suc (width (layout r.kind).holder) + if b (λ _. length r.text + 1) (λ _. fixed_bytes (layout r.kind).fields)) + base_size rs
        + 3 * if b (λ _. suc (texts rs)) (λ _. texts rs)
    go true q h = omega arith
    go false q h = omega (arith, fields_fixed (layout r.kind).fields q)

-- a text fits under d
row_fits : (d : ℕ) (r : Row) (b : Bool) → is_text (layout r.kind).fields ≡ b → Byte r.language × Bytes r.text × (length r.text < 256)
    → over r ≡ false → (not (tight r) || eqb r.language d) ≡ true → RowFits b d r
row_fits d r false q (l, t, n) o s = tt
row_fits d r true q (l, t, n) o s =
    let w : ℕ = 256 ^ width (layout r.kind).holder in
    let o' = leb-false w (length r.text + 1) (rw q at o) in
    by_cases (eqb r.language d)
    (λ e. (l, t, n, rw e (omega arith)))
    (λ e.
    let s' : (not (leb w (length r.text + 4)) || false) ≡ true = rw (q, e) at s in
    by_cases (leb w (length r.text + 4))
    (λ k. absurd (true≢false (sym (rw k at s'))))
    (λ k. let k' = leb-false w (length r.text + 4) k in (l, t, n, rw e (omega arith))))

row_fits_not : (d : ℕ) (r : Row) (b : Bool) → is_text (layout r.kind).fields ≡ b → RowFits b d r
    → (over r ≡ false) × ((not (tight r) || eqb r.language d) ≡ true)
row_fits_not d r false q h = (rw q, rw q)
row_fits_not d r true q (l, t, n, k) =
    let w : ℕ = 256 ^ width (layout r.kind).holder in
    by_cases (eqb r.language d)
    (λ e.
    let k' : length r.text + 1 < w = rw e at k in
    (rw (q, lt-leb w (length r.text + 1) k'), rw (q, e) (or_right (not (leb w (length r.text + 4))) true refl)))
    (λ e.
    let k' : length r.text + 4 < w = rw e at k in
    (rw (q, lt-leb w (length r.text + 1) (omega arith)), rw (q, lt-leb w (length r.text + 4) k')))

pub rows_fit : (d : ℕ) (rows : List Row) → ByteRows rows → any_over rows ≡ false → suits d rows ≡ true → RowsFit d rows
rows_fit d [] h o s = tt
rows_fit d (r ∷ rs) h o s =
    let o' = or_parts (over r) (any_over rs) o in
    let s' = and_parts (not (tight r) || eqb r.language d) (suits d rs) s in
    (row_fits d r (is_text (layout r.kind).fields) refl h.0 o'.0 s'.0, rows_fit d rs h.1 o'.1 s'.1)

pub rows_fit_not : (d : ℕ) (rows : List Row) → RowsFit d rows → (any_over rows ≡ false) × (suits d rows ≡ true)
rows_fit_not d [] h = (refl, refl)
rows_fit_not d (r ∷ rs) h =
    let x = row_fits_not d r (is_text (layout r.kind).fields) refl h.0 in
    let y = rows_fit_not d rs h.1 in
    (rw (x.0, y.0), rw (x.1, y.1))

is_no_of : {A : Type 0} (x : Dec A) → (A → ⊥) → is_yes x ≡ false
is_no_of (yes a) b = absurd (b a)
is_no_of (no n) b = refl

pub size_under : (d : ℕ) (rows : List Row) → frame rows + full_size rows ≡ length_under d rows + 3 * texts_in d rows
size_under d rows = let t = texts_in_le d rows in let f = full_is rows in omega arith

pub stands_by : StandsBy
stands_by rows d h = go (admits top_level rows) (any_over rows) (suits d rows) (leb (length_under d rows) 65535) refl refl refl refl
  where
    go : (a o s l : Bool) → admits top_level rows ≡ a → any_over rows ≡ o → suits d rows ≡ s → leb (length_under d rows) 65535 ≡ l
        → stands rows d ≡ ((a && not o) && (s && l))
    go false o s l qa qo qs ql = is_no_of (stands? rows d) (λ st. absurd (true≢false (sym (admits_stands.1 rows (st.0, st.1)) ∙ qa)))
    go true true s l qa qo qs ql = is_no_of (stands? rows d) (λ st. absurd (true≢false (sym qo ∙ (rows_fit_not d rows st.2).0)))
    go true false false l qa qo qs ql = is_no_of (stands? rows d) (λ st. absurd (true≢false (sym (rows_fit_not d rows st.2).1 ∙ qs)))
    go true false true false qa qo qs ql =
        let k = leb-false (length_under d rows) 65535 ql in
        is_no_of (stands? rows d) (λ st. let m = st.3 in absurd (omega (arith, size_under d rows)))
    go true false true true qa qo qs ql =
        let k = leb-true (length_under d rows) 65535 ql in
        let t = admits_stands.0 rows qa in
        is_yes_of (stands? rows d) (t.0, t.1, rows_fit d rows h qo qs, omega (arith, size_under d rows))

-- only one number is the highest
most_one : (test : ℕ → Bool) (w : ℕ → ℕ) (n : ℕ) (o : Option ℕ) → Most test w n o → (d : ℕ) → d < n → test d ≡ true
    → ((e : ℕ) → e < n → test e ≡ true → (w e < w d) ⊎ ((w e ≡ w d) × (d ≤ e))) → o ≡ Some d
most_one test w n None l d h t k = absurd (l d h t)
most_one test w n (Some e) l d h t k = ap Some (go (l.2 d h t) (k e l.0 l.1))
  where
    go : (w d < w e) ⊎ ((w d ≡ w e) × (e ≤ d)) → (w e < w d) ⊎ ((w e ≡ w d) × (d ≤ e)) → e ≡ d
    go (inl x) (inl y) = absurd (omega arith)
    go (inl x) (inr y) = let z = y.0 in absurd (omega arith)
    go (inr x) (inl y) = let z = x.0 in absurd (omega arith)
    go (inr x) (inr y) = let a = x.1 in let b = y.1 in omega arith

pub chosen : (rows : List Row) (d : ℕ) → d < 256 → stands rows d ≡ true
    → ((e : ℕ) → e < 256 → stands rows e ≡ true → (texts_in e rows < texts_in d rows) ⊎ ((texts_in e rows ≡ texts_in d rows) × (d ≤ e)))
    → sending rows ≡ sent rows (Some d)
chosen rows d h t k = ap (sent rows) (most_one (stands rows) (score rows) 256 (most (stands rows) (score rows) 256) (most_is (stands rows) (score rows) 256) d h t k)

pub none_chosen : (rows : List Row) → ((d : ℕ) → d < 256 → stands rows d ≡ false) → sending rows ≡ None
none_chosen rows h = go (most (stands rows) (score rows) 256) (most_is (stands rows) (score rows) 256)
  where
    go : (o : Option ℕ) → Most (stands rows) (score rows) 256 o → sent rows o ≡ None
    go None l = refl
    go (Some d) l = absurd (true≢false (sym l.1 ∙ h d l.0))
