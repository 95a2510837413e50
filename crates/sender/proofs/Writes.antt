-- Rows that have a tree, whose texts fit under a default and whose bytes are within the limit, can be written one by one.
-- Assumes nothing.
use Rattle.std.proofs.Common.{◌≡◌, ℕ, suc, ◌+◌, ◌-◌, ◌^◌, ◌<◌, ◌≤◌, Bool, true, false, not, ◌&&◌, ◌||◌, T, eqb, ltb, leb, List, [], ◌∷◌, ◌++◌, length, sym, refl, ap, subst, arith, leb→le, length-append, length-drop}
use Rattle.std.proofs.lemmas.Bool.{and_parts, ltb-true, false≢true}
use Rattle.grammar.specs.declared.table.Layout.{Layout}
use Rattle.grammar.specs.Format.{layout, table, blank, fixed, fits, kind_at, is_zero}
use Rattle.grammar.specs.Grammar.{Row, Rows, deeper}
use Rattle.grammar.specs.Reading.{if, is_text, is_count, closed, empty}
use Rattle.grammar.specs.Deciding.{RowFits, RowsFit, text_frame}
use Rattle.grammar.specs.Flat.{language_part, front, inside_size, held_count, flat}
use Rattle.grammar.specs.Admits.{Level, plain_row, row_stands, within, opened, at_depth, admits}
use Rattle.grammar.proofs.Lines.{line_at}
use Rattle.grammar.proofs.Sizes.{fields_size_is}
use Rattle.grammar.proofs.Legal.{fields_small}
use Rattle.grammar.proofs.Flattened.{column_width, inside_bound, inside_stops, flat_cons_length}
use Rattle.sender.specs.Writable.{RowWritable, Writable}

both : (a b : Bool) → T (a && b) → T a × T b
both true b h = (tt, h)
both false b h = absurd h

-- a component's length has room for 255 bytes, and for 65535 where parts may stand in it
abbrev roomy : Layout → Bool
roomy l = leb 256 (256 ^ l.width) && (closed l.inside || leb 65536 (256 ^ l.width))

wide : (b : Bool) (n : ℕ) → T (b || leb 65536 n) → b ≡ false → 65536 ≤ n
wide true n t q = absurd (false≢true (sym q))
wide false n t q = leb→le 65536 n t

module _ (k : ℕ) where
  line : T (roomy (layout k))
  line = line_at roomy blank tt table tt k

  narrow : 256 ≤ 256 ^ (layout k).width
  narrow = leb→le 256 (256 ^ (layout k).width) (both (leb 256 (256 ^ (layout k).width)) _ line).0

  wider : closed (layout k).inside ≡ false → 65536 ≤ 256 ^ (layout k).width
  wider = wide (closed (layout k).inside) (256 ^ (layout k).width) (both (leb 256 (256 ^ (layout k).width)) _ line).1

part_frame : (b : Bool) (l : ℕ) → suc (length (if {X = List ℕ} b (λ _. []) (λ _. 0 ∷ 1 ∷ l ∷ []))) ≡ text_frame b
part_frame true l = refl
part_frame false l = refl

abbrev front_on : ℕ → Row → Bool → List ℕ
front_on d r b = if b (λ _. (length r.text ∷ r.text) ++ language_part d r.language) (λ _. fixed (layout r.kind).fields r.a r.b 0)

-- what stands before the parts fits by itself
front_fits : (d : ℕ) (r : Row) → RowFits (is_text (layout r.kind).fields) d r → length (front d r 0) < 256 ^ (layout r.kind).width
front_fits d r f = go (is_text (layout r.kind).fields) f
  where
    go : (b : Bool) → RowFits b d r → length (front_on d r b) < 256 ^ (layout r.kind).width
    go true h =
        let w : length r.text + text_frame (eqb r.language d) < 256 ^ (layout r.kind).width =
        subst (λ (x : ℕ). length r.text + text_frame (eqb r.language d) < 256 ^ x) (column_width r.kind) h.3 in
        let p = part_frame (eqb r.language d) r.language in
        let a = length-append (length r.text ∷ r.text) (language_part d r.language) in
        omega arith
    go false h =
        let n = narrow r.kind in
        let s = fields_size_is (layout r.kind).fields r.a r.b 0 in
        let m = fields_small (layout r.kind).fields in
        omega arith

-- where no level is open deeper than a row, nothing stands inside it
none_inside : (d : ℕ) (ls : List Level) (m : ℕ) (rs : Rows) → length ls ≡ suc m → admits ls rs ≡ true → inside_size d m rs ≡ 0
none_inside d ls m [] e h = refl
none_inside d ls m (r ∷ rs) e h =
    let k = ltb-true r.depth (length ls) (and_parts (ltb r.depth (length ls)) _ h).0 in
    inside_stops d m r rs (omega arith)

module _ (d : ℕ) (r : Row) (rs : Rows) (l : Level) (more : List Level) where
  abbrev held : ℕ
  held = held_count r.depth rs

  abbrev on : Bool → List Level
  on b = if b (λ _. l ∷ more) (λ _. within l r ∷ l ∷ more)

  abbrev plain_on : Bool → Bool
  plain_on b =
      if b (λ _. is_zero r.a && is_zero r.b)
      (λ _. fits (layout r.kind).fields r.a r.b && (eqb r.language 0 && empty r.text))

  numbers : (b : Bool) → plain_on b ≡ true → b ≡ false → fits (layout r.kind).fields r.a r.b ≡ true
  numbers true h q = absurd (false≢true (sym q))
  numbers false h q = (and_parts (fits (layout r.kind).fields r.a r.b) _ h).0

  few : (b : Bool) → (not b || ltb held 256) ≡ true → b ≡ true → held < 256
  few true h q = ltb-true held 256 h
  few false h q = absurd (false≢true q)

  sized : length more ≡ r.depth → (b : Bool) → closed (layout r.kind).inside ≡ b → admits (on (is_text (layout r.kind).fields || b)) rs ≡ true
      → RowFits (is_text (layout r.kind).fields) d r → length (flat d (r ∷ rs)) ≤ 65535
      → length (front d r 0) + inside_size d r.depth rs < 256 ^ (layout r.kind).width
  sized deep true q a f n =
      let o : (is_text (layout r.kind).fields || true) ≡ true = or_true (is_text (layout r.kind).fields) in
      let z = none_inside d (l ∷ more) r.depth rs (ap suc deep) (subst (λ (b : Bool). admits (on b) rs ≡ true) o a) in
      let w = front_fits d r f in
      omega arith
    where
      or_true : (b : Bool) → (b || true) ≡ true
      or_true true = refl
      or_true false = refl
  sized deep false q a f n =
      let w = wider r.kind q in
      let i = inside_bound d r.depth rs in
      let e = flat_cons_length d r rs in
      omega arith

  row_writable : length more ≡ r.depth → row_stands l r held ≡ true → admits (opened l more r) rs ≡ true
      → RowFits (is_text (layout r.kind).fields) d r → length (flat d (r ∷ rs)) ≤ 65535 → RowWritable d r rs
  row_writable deep h a f n =
      let p = (and_parts (ltb 0 r.kind && eqb (kind_at l.spot (layout r.kind).id) r.kind) _ h).1 in
      let q = and_parts (plain_row r) _ p in
      let s = and_parts (leb (deeper (layout r.kind).inside l.nodes) 8) _ q.1 in
      let i = inside_bound d r.depth rs in
      let e = flat_cons_length d r rs in (
        numbers (is_text (layout r.kind).fields) q.0,
        sized deep (closed (layout r.kind).inside) refl a f n,
        few (is_count (layout r.kind).fields) s.1,
        omega arith,
      )

abbrev GoesOn : Row → Rows → List Level → Type 0
GoesOn r rs ls = elim ls [ [] ↦ false | l ∷ more ↦ row_stands l r (held_count r.depth rs) && admits (opened l more r) rs ] ≡ true

-- a row and those after it, where they can be written whatever levels are open
at_levels : (d : ℕ) (r : Row) (rs : Rows) (ls : List Level) → length ls ≡ suc r.depth → GoesOn r rs ls
    → RowFits (is_text (layout r.kind).fields) d r → length (flat d (r ∷ rs)) ≤ 65535
    → ((xs : List Level) → admits xs rs ≡ true → Writable d rs) → RowWritable d r rs × Writable d rs
at_levels d r rs [] q e f n w = absurd (false≢true e)
at_levels d r rs (l ∷ more) q e f n w =
    let g = and_parts (row_stands l r (held_count r.depth rs)) _ e in
    (row_writable d r rs l more (omega arith) g.0 g.1 f n, w (opened l more r) g.1)

pub writable : (d : ℕ) (ls : List Level) (rows : Rows) → admits ls rows ≡ true → RowsFit d rows → length (flat d rows) ≤ 65535 → Writable d rows
writable d ls [] h f n = tt
writable d ls (r ∷ rs) h f n =
    let p = and_parts (ltb r.depth (length ls)) _ h in
    let k = ltb-true r.depth (length ls) p.0 in
    let e = length-drop (length ls - suc r.depth) ls in
    let c = flat_cons_length d r rs in
    at_levels d r rs (at_depth r.depth ls) (omega arith) p.1 f.0 n (λ xs a. writable d xs rs a f.1 (omega arith))
