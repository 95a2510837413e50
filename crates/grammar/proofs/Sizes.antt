-- The length of a normal tree's bytes, by its rows and the default alone.
use Rattle.std.proofs.Common.{◌≡◌, ℕ, suc, ◌+◌, ◌*◌, ◌<◌, Bool, true, false, T, eqb, List, [], ◌∷◌, ◌++◌, length, ℤ, pos, sym, refl, ap, ◌∙◌, subst, arith, eqb→eq, length-append}
use Rattle.grammar.proofs.Numbers.{twos_length}
use Rattle.grammar.proofs.Lines.{all_below, below_at, text_known}
use Rattle.grammar.specs.declared.table.Spot.TheVariants.{Descriptions, Node, Reference, Place, Modes, Associated, Nowhere}
use Rattle.grammar.specs.declared.table.Spot.{Spot}
use Rattle.grammar.specs.declared.table.Fields.{Fields}
use Rattle.grammar.specs.declared.table.Fields.TheVariants.{Nothing, Code, Text, Globe, Floor, Count, Radius, Height}
use Rattle.grammar.specs.Format.{width, layout, fixed, kind_at}
use Rattle.grammar.specs.Grammar.{Row, Parts, none, unknown, named, held, tail_bytes, how_many, bytes_of, said, tell, deeper}
use Rattle.grammar.specs.Reading.{is_text}
use Rattle.grammar.specs.Deciding.{Sound}
use Rattle.grammar.specs.Sending.{normal, tail_for, spoken_unless, counts, texts_in, fields_size, body_size, full_size}
use Rattle.grammar.proofs.Normal.{on_eqb, size_named, size_held}
use Rattle.grammar.proofs.Gathered.{on_ltb, held_no_text}

-- each known kind has the width of the spot where the table has it
pub kind_below : (s : Spot) (i : ℕ) → kind_at s i < 28
kind_below Descriptions i = on_eqb (λ b. elim b [ true ↦ 1 | false ↦ 0 ] < 28) i 2 (λ e. omega arith) (λ n. omega arith)
kind_below Node i = on_ltb (λ b. elim b [ true ↦ 2 + i | false ↦ 0 ] < 28) i 6 (λ e. omega arith) (λ n. omega arith)
kind_below Reference i = on_ltb (λ b. elim b [ true ↦ 16 + i | false ↦ 0 ] < 28) i 12 (λ e. omega arith) (λ n. omega arith)
kind_below Place i = on_ltb (λ b. elim b [ true ↦ 8 + i | false ↦ 0 ] < 28) i 2 (λ e. omega arith) (λ n. omega arith)
kind_below Modes i = on_eqb (λ b. elim b [ true ↦ 10 | false ↦ 0 ] < 28) i 0 (λ e. omega arith) (λ n. omega arith)
kind_below Associated i = on_eqb (λ b. elim b [ true ↦ 1 | false ↦ 0 ] < 28) i 2 (λ e. omega arith) (λ n. omega arith)
kind_below Nowhere i = omega arith

abbrev same_width : Spot → ℕ → Bool
same_width s k = elim (eqb (kind_at s (layout k).id) k) [ false ↦ true | true ↦ elim (eqb k 0) [ true ↦ true | false ↦ eqb (width s) (width (layout k).holder) ] ]

same_widths : (s : Spot) → T (all_below (same_width s) 28)
same_widths Descriptions = tt
same_widths Node = tt
same_widths Reference = tt
same_widths Place = tt
same_widths Modes = tt
same_widths Associated = tt
same_widths Nowhere = tt

pub width_is : (s : Spot) (k : ℕ) → kind_at s (layout k).id ≡ k → 0 < k → width s ≡ width (layout k).holder
width_is s k e h =
    let b : k < 28 = subst (λ (x : ℕ). x < 28) e (kind_below s (layout k).id) in
    on_eqb
    (λ x. T (elim x [ false ↦ true | true ↦ elim (eqb k 0) [ true ↦ true | false ↦ eqb (width s) (width (layout k).holder) ] ])
    → width s ≡ width (layout k).holder)
    (kind_at s (layout k).id) k
    (λ q. on_eqb (λ x. T (elim x [ true ↦ true | false ↦ eqb (width s) (width (layout k).holder) ]) → width s ≡ width (layout k).holder) k 0
    (λ z. absurd (omega arith)) (λ n t. eqb→eq (width s) (width (layout k).holder) t))
    (λ n. absurd (n e))
    (below_at (same_width s) 28 (same_widths s) k b)

pub fields_size_is : (f : Fields) (a b : ℤ) (n : ℕ) → length (fixed f a b n) ≡ fields_size f
fields_size_is Nothing a b n = refl
fields_size_is Code a b n = refl
fields_size_is Text a b n = refl
fields_size_is Globe a b n = simp (length-append, twos_length)
fields_size_is Floor a b n = twos_length 1 a
fields_size_is Count a b n = refl
fields_size_is Radius a b n = refl
fields_size_is Height a b n = ap suc (twos_length 2 b)

counts_plus : (b c : Bool) (n m : ℕ) → counts b c (n + m) ≡ counts b c n + m
counts_plus true true n m = omega arith
counts_plus true false n m = refl
counts_plus false c n m = refl

texts_in_append : (d : ℕ) (xs ys : List Row) → texts_in d (xs ++ ys) ≡ texts_in d xs + texts_in d ys
texts_in_append d [] ys = omega arith
texts_in_append d (x ∷ xs) ys =
    let t : Bool = is_text (layout x.kind).fields in
    let e : Bool = eqb x.language d in
    ap (counts t e) (texts_in_append d xs ys) ∙ counts_plus t e (texts_in d xs) (texts_in d ys)

full_size_append : (xs ys : List Row) → full_size (xs ++ ys) ≡ full_size xs + full_size ys
full_size_append [] ys = omega arith
full_size_append (x ∷ xs) ys = omega (arith, full_size_append xs ys)

tail_size : (d l n : ℕ) → length (tail_bytes (tail_for d l)) + 3 * counts true (eqb l d) n ≡ 3 + 3 * n
tail_size d l n = on_eqb (λ b. length (tail_bytes (spoken_unless b l)) + 3 * counts true b n ≡ 3 + 3 * n) l d (λ e. omega arith) (λ e. omega arith)

pub normal_size : (d : ℕ) (s : Spot) (k n : ℕ) (p : Parts) → Sound s k p
    → length (bytes_of s (normal d p)) + 3 * texts_in d (tell d n p) ≡ full_size (tell d n p)
normal_size d s k n none l = omega arith
normal_size d s k n (unknown id bs rest) l = absurd l
normal_size d s k n (named kind t tail rest) l =
    let ih = normal_size d s k n rest l.2 in
    let w = width_is s kind l.0 (text_known kind l.1) in
    let z = size_named s kind t (tail_for d (said d tail)) (normal d rest) in
    let c = tail_size d (said d tail) (texts_in d (tell d n rest)) in
    subst
    (λ (b : Bool). length (bytes_of s (named kind t (tail_for d (said d tail)) (normal d rest))) + 3 * counts b (eqb (said d tail) d) (texts_in d (tell d n rest))
    ≡ suc (width (layout kind).holder) + body_size b (record { depth = n; kind = kind; a = pos 0; b = pos 0; language = said d tail; text = t }) + full_size (tell d n rest))
    (sym (ap is_text l.1))
    (omega arith)
normal_size d s k n (held kind a b inner rest) l =
    let i : Spot = (layout kind).inside in
    let ij = normal_size d i (deeper i k) (suc n) inner l.4 in
    let ih = normal_size d s k n rest l.5 in
    let w = width_is s kind l.0 l.1 in
    let z = size_held s kind a b (normal d inner) (normal d rest) in
    let f = fields_size_is (layout kind).fields a b (how_many (normal d inner)) in
    let xs : List Row = tell d (suc n) inner in
    let ys : List Row = tell d n rest in
    subst
    (λ (c : Bool). length (bytes_of s (held kind a b (normal d inner) (normal d rest))) + 3 * counts c (eqb 0 d) (texts_in d (xs ++ ys))
    ≡ suc (width (layout kind).holder) + body_size c (record { depth = n; kind = kind; a = a; b = b; language = 0; text = [] }) + full_size (xs ++ ys))
    (sym (held_no_text (layout kind).fields a b (how_many inner) l.2))
    (omega (arith, texts_in_append d xs ys, full_size_append xs ys))
