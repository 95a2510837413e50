-- Row by row, the bytes are those of the tree that the rows are gathered to.
-- The rows that a tree tells, with others after them, are written as the tree's bytes with the others' after them; and rows that have the shape of a tree
-- are what their tree tells.
use Rattle.std.proofs.Common.{◌≡◌, ℕ, suc, ◌+◌, ◌*◌, ◌<◌, ◌≤◌, Bool, true, false, eqb, List, [], ◌∷◌, ◌++◌, length, ℤ, pos, sym, refl, ap, ◌∙◌, subst, append_assoc, append-nil, arith, eqb→eq, length-append}
use Rattle.grammar.proofs.Numbers.{length_big}
use native.Mathlib.Decide.{dec_lt}
use Rattle.grammar.specs.declared.table.Spot.TheVariants.{Descriptions}
use Rattle.grammar.specs.declared.table.Spot.{Spot}
use Rattle.grammar.specs.declared.table.Layout.{Layout}
use Rattle.grammar.specs.Format.{width, layout, table, blank, big, fixed, header, kind_at}
use Rattle.grammar.specs.Grammar.{Row, Tail, Parts, none, unknown, named, held, tail_bytes, how_many, bytes_of, said, tell, deeper, sent_as}
use Rattle.grammar.specs.Reading.{if, is_text}
use Rattle.grammar.specs.Deciding.{Shaped, Sound}
use Rattle.grammar.specs.Sending.{part, gather, normal, tail_for, spoken_unless, tops_for, texts_in, full_size, frame}
use Rattle.grammar.specs.Flat.{language_part, front, own_size, inside_size, held_count, row_bytes, flat, flat_container, FlatStands}
use Rattle.grammar.proofs.Lines.{line_at, text_known}
use Rattle.grammar.proofs.Normal.{on_eqb, size_named, size_held}
use Rattle.grammar.proofs.Gathered.{on_ltb, gather_here, gather_above, gather_below, held_no_text}
use Rattle.grammar.proofs.Shapes.{tell_gather}
use Rattle.grammar.proofs.Sizes.{width_is, fields_size_is, normal_size}

-- the column of widths has for each kind the width of its spot
pub column_width : (k : ℕ) → width (layout k).holder ≡ (layout k).width
column_width k = eqb→eq _ _ (line_at (λ (l : Layout). eqb (width l.holder) l.width) blank tt table tt k)

pub width_of : (s : Spot) (k : ℕ) → kind_at s (layout k).id ≡ k → 0 < k → width s ≡ (layout k).width
width_of s k e h = width_is s k e h ∙ column_width k

-- the data of a row up to its parts, by whether it is a text
abbrev front_by : Bool → ℕ → Row → ℕ → List ℕ
front_by b d r n =
    if b (λ _. (length r.text ∷ r.text) ++ language_part d r.language) (λ _. fixed (layout r.kind).fields r.a r.b n)

language_at : (b : Bool) (l : ℕ) → if {X = List ℕ} b (λ _. []) (λ _. 0 ∷ 1 ∷ l ∷ []) ≡ tail_bytes (spoken_unless b l)
language_at true l = refl
language_at false l = refl

abbrev text_body : ℕ → Row → List ℕ
text_body d r = (length r.text ∷ r.text) ++ tail_bytes (tail_for d r.language)

front_text : (d : ℕ) (r : Row) (n : ℕ) → is_text (layout r.kind).fields ≡ true → front d r n ≡ text_body d r
front_text d r n e =
    subst (λ (b : Bool). front_by b d r n ≡ text_body d r) (sym e)
    (ap (λ (x : List ℕ). (length r.text ∷ r.text) ++ x) (language_at (eqb r.language d) r.language))

front_held : (d : ℕ) (r : Row) (n : ℕ) → is_text (layout r.kind).fields ≡ false → front d r n ≡ fixed (layout r.kind).fields r.a r.b n
front_held d r n e = subst (λ (b : Bool). front_by b d r n ≡ fixed (layout r.kind).fields r.a r.b n) (sym e) refl

-- its length is the same however many parts it holds
front_by_length : (b : Bool) (d : ℕ) (r : Row) (n m : ℕ) → length (front_by b d r n) ≡ length (front_by b d r m)
front_by_length true d r n m = refl
front_by_length false d r n m = fields_size_is (layout r.kind).fields r.a r.b n ∙ sym (fields_size_is (layout r.kind).fields r.a r.b m)

pub front_length : (d : ℕ) (r : Row) (n m : ℕ) → length (front d r n) ≡ length (front d r m)
front_length d r n m = front_by_length (is_text (layout r.kind).fields) d r n m

-- The first of these rows, if any, is at most at depth m.
abbrev pub Ends : ℕ → List Row → Type 0
Ends m [] = Unit {0}
Ends m (r ∷ rs) = r.depth ≤ m

module _ (d m : ℕ) (r : Row) (rs : List Row) where
  abbrev inside_on : Bool → ℕ
  inside_on b = if b (λ _. own_size d r + inside_size d m rs) (λ _. 0)

  abbrev count_here : Bool → ℕ
  count_here b = if b (λ _. suc (held_count m rs)) (λ _. held_count m rs)

  abbrev count_on : Bool → ℕ
  count_on b = if b (λ _. count_here (eqb r.depth (suc m))) (λ _. 0)

  pub inside_deeper : m < r.depth → inside_size d m (r ∷ rs) ≡ own_size d r + inside_size d m rs
  inside_deeper h = on_ltb (λ b. inside_on b ≡ own_size d r + inside_size d m rs) m r.depth (λ g. refl) (λ n. absurd (n h))

  pub inside_stops : r.depth ≤ m → inside_size d m (r ∷ rs) ≡ 0
  inside_stops h = on_ltb (λ b. inside_on b ≡ 0) m r.depth (λ g. absurd (omega arith)) (λ n. refl)

  pub count_next : r.depth ≡ suc m → held_count m (r ∷ rs) ≡ suc (held_count m rs)
  count_next e =
      on_ltb (λ b. count_on b ≡ suc (held_count m rs)) m r.depth
      (λ g. on_eqb (λ b. count_here b ≡ suc (held_count m rs)) r.depth (suc m) (λ f. refl) (λ n. absurd (n e)))
      (λ n. absurd (n (omega arith)))

  pub count_deeper : suc m < r.depth → held_count m (r ∷ rs) ≡ held_count m rs
  count_deeper h =
      on_ltb (λ b. count_on b ≡ held_count m rs) m r.depth
      (λ g. on_eqb (λ b. count_here b ≡ held_count m rs) r.depth (suc m) (λ f. absurd (omega arith)) (λ n. refl))
      (λ n. absurd (n (omega arith)))

  pub count_stops : r.depth ≤ m → held_count m (r ∷ rs) ≡ 0
  count_stops h = on_ltb (λ b. count_on b ≡ 0) m r.depth (λ g. absurd (omega arith)) (λ n. refl)

ends_more : (m : ℕ) (rows : List Row) → Ends m rows → Ends (suc m) rows
ends_more m [] h = tt
ends_more m (r ∷ rs) h = omega arith

inside_ends : (d m : ℕ) (rows : List Row) → Ends m rows → inside_size d m rows ≡ 0
inside_ends d m [] h = refl
inside_ends d m (r ∷ rs) h = inside_stops d m r rs h

count_ends : (m : ℕ) (rows : List Row) → Ends m rows → held_count m rows ≡ 0
count_ends m [] h = refl
count_ends m (r ∷ rs) h = count_stops 0 m r rs h

-- a row's component is one more, whatever it holds
pub part_many : (b : Bool) (r : Row) (inner rest : Parts) → how_many (part b r inner rest) ≡ suc (how_many rest)
part_many true r inner rest = refl
part_many false r inner rest = refl

-- the count is that of the parts gathered one deeper
pub count_gather : (m : ℕ) (rs : List Row) → how_many (gather rs (suc m)) ≡ held_count m rs
count_gather m [] = refl
count_gather m (r ∷ rs) =
    elim (dec_lt (suc m) r.depth) [
      | yes h ↦ ap how_many (gather_above r rs (suc m) h) ∙ (count_gather m rs ∙ sym (count_deeper 0 m r rs h))
      | no h ↦
          elim (dec_lt r.depth (suc m)) [
            | yes g ↦ ap how_many (gather_below r rs (suc m) g) ∙ sym (count_stops 0 m r rs (omega arith))
            | no g ↦
                let e : suc m ≡ r.depth = omega arith in
                ap how_many (gather_here r rs (suc m) e)
                ∙ (part_many (is_text (layout r.kind).fields) r (gather rs (suc (suc m))) (gather rs (suc m))
                ∙ (ap suc (count_gather m rs) ∙ sym (count_next 0 m r rs (sym e))))
          ]
    ]

-- A row takes its own size, so what is inside is no longer than what follows.
pub row_length : (d : ℕ) (r : Row) (rs : List Row) → length (row_bytes d r rs) ≡ own_size d r
row_length d r rs =
    let w : ℕ = (layout r.kind).width in
    let n : ℕ = length (front d r 0) + inside_size d r.depth rs in
    omega (
      arith,
      length-append ((layout r.kind).id ∷ big w n) (front d r (held_count r.depth rs)),
      length_big w n,
      front_length d r (held_count r.depth rs) 0,
    )

pub flat_cons_length : (d : ℕ) (r : Row) (rs : List Row) → length (flat d (r ∷ rs)) ≡ own_size d r + length (flat d rs)
flat_cons_length d r rs = length-append (row_bytes d r rs) (flat d rs) ∙ ap (λ (n : ℕ). n + length (flat d rs)) (row_length d r rs)

pub inside_bound : (d m : ℕ) (rs : List Row) → inside_size d m rs ≤ length (flat d rs)
inside_bound d m [] = omega arith
inside_bound d m (r ∷ rs) =
    let ih : inside_size d m rs ≤ length (flat d rs) = inside_bound d m rs in
    let e : length (flat d (r ∷ rs)) ≡ own_size d r + length (flat d rs) = flat_cons_length d r rs in
    on_ltb (λ b. inside_on d m r rs b ≤ length (flat d (r ∷ rs))) m r.depth (λ g. omega arith) (λ n. omega arith)

-- What a sound tree tells from depth n on, with other rows after it.
ends_tell : (d : ℕ) (s : Spot) (k n : ℕ) (p : Parts) (more : List Row) → Sound s k p → Ends n more → Ends n (tell d n p ++ more)
ends_tell d s k n none more l h = h
ends_tell d s k n (unknown id bs rest) more l h = absurd l
ends_tell d s k n (named kind t tail rest) more l h = omega arith
ends_tell d s k n (held kind a b inner rest) more l h = omega arith

how_many_normal : (d : ℕ) (s : Spot) (k : ℕ) (p : Parts) → Sound s k p → how_many (normal d p) ≡ how_many p
how_many_normal d s k none l = refl
how_many_normal d s k (unknown id bs rest) l = absurd l
how_many_normal d s k (named kind t tail rest) l = ap suc (how_many_normal d s k rest l.2)
how_many_normal d s k (held kind a b inner rest) l = ap suc (how_many_normal d s k rest l.5)

abbrev text_row : ℕ → ℕ → ℕ → List ℕ → Tail → Row
text_row d n kind t tail = record { depth = n; kind = kind; a = pos 0; b = pos 0; language = said d tail; text = t }

abbrev held_row : ℕ → ℕ → ℤ → ℤ → Row
held_row n kind a b = record { depth = n; kind = kind; a = a; b = b; language = 0; text = [] }

-- none of the rows deeper than the next depth counts, and at the next depth each part
count_below : (d : ℕ) (s : Spot) (k m n : ℕ) (p : Parts) (more : List Row) → Sound s k p → suc m < n → held_count m (tell d n p ++ more) ≡ held_count m more
count_below d s k m n none more l h = refl
count_below d s k m n (unknown id bs rest) more l h = absurd l
count_below d s k m n (named kind t tail rest) more l h =
    count_deeper d m (text_row d n kind t tail) (tell d n rest ++ more) h ∙ count_below d s k m n rest more l.2 h
count_below d s k m n (held kind a b inner rest) more l h =
    let i : Spot = (layout kind).inside in
    count_deeper d m (held_row n kind a b) ((tell d (suc n) inner ++ tell d n rest) ++ more) h
    ∙ (ap (held_count m) (append_assoc (tell d (suc n) inner) (tell d n rest) more)
    ∙ (count_below d i (deeper i k) m (suc n) inner (tell d n rest ++ more) l.4 (omega arith)
    ∙ count_below d s k m n rest more l.5 h))

count_tell : (d : ℕ) (s : Spot) (k m : ℕ) (p : Parts) (more : List Row)
    → Sound s k p → held_count m (tell d (suc m) p ++ more) ≡ how_many p + held_count m more
count_tell d s k m none more l = omega arith
count_tell d s k m (unknown id bs rest) more l = absurd l
count_tell d s k m (named kind t tail rest) more l =
    let here = count_next d m (text_row d (suc m) kind t tail) (tell d (suc m) rest ++ more) refl in
    let ih = count_tell d s k m rest more l.2 in
    omega arith
count_tell d s k m (held kind a b inner rest) more l =
    let i : Spot = (layout kind).inside in
    let here = count_next d m (held_row (suc m) kind a b) ((tell d (suc (suc m)) inner ++ tell d (suc m) rest) ++ more) refl in
    let e = ap (held_count m) (append_assoc (tell d (suc (suc m)) inner) (tell d (suc m) rest) more) in
    let ij = count_below d i (deeper i k) m (suc (suc m)) inner (tell d (suc m) rest ++ more) l.4 (omega arith) in
    let ih = count_tell d s k m rest more l.5 in
    omega arith

-- the rows deeper than m take the bytes of the tree
inside_tell : (d : ℕ) (s : Spot) (k m n : ℕ) (p : Parts) (more : List Row) → Sound s k p → m < n
    → inside_size d m (tell d n p ++ more) ≡ length (bytes_of s (normal d p)) + inside_size d m more
inside_tell d s k m n none more l h = omega arith
inside_tell d s k m n (unknown id bs rest) more l h = absurd l
inside_tell d s k m n (named kind t tail rest) more l h =
    let r : Row = text_row d n kind t tail in
    let here = inside_deeper d m r (tell d n rest ++ more) h in
    let ih = inside_tell d s k m n rest more l.2 h in
    let w = width_of s kind l.0 (text_known kind l.1) in
    let f = ap length (front_text d r 0 (ap is_text l.1)) in
    let g = length-append (length t ∷ t) (tail_bytes (tail_for d (said d tail))) in
    let z = size_named s kind t (tail_for d (said d tail)) (normal d rest) in
    omega arith
inside_tell d s k m n (held kind a b inner rest) more l h =
    let i : Spot = (layout kind).inside in
    let r : Row = held_row n kind a b in
    let here = inside_deeper d m r ((tell d (suc n) inner ++ tell d n rest) ++ more) h in
    let e = ap (inside_size d m) (append_assoc (tell d (suc n) inner) (tell d n rest) more) in
    let ij = inside_tell d i (deeper i k) m (suc n) inner (tell d n rest ++ more) l.4 (omega arith) in
    let ih = inside_tell d s k m n rest more l.5 h in
    let w = width_of s kind l.0 l.1 in
    let f = ap length (front_held d r 0 (held_no_text (layout kind).fields a b (how_many inner) l.2)) in
    let g = fields_size_is (layout kind).fields a b 0 in
    let c = fields_size_is (layout kind).fields a b (how_many (normal d inner)) in
    let z = size_held s kind a b (normal d inner) (normal d rest) in
    omega arith

-- the component of a row up to its parts, where it has n bytes of data and holds c parts
row_is : (d : ℕ) (s : Spot) (r : Row) (rs : List Row) (n c : ℕ) (data-front : List ℕ)
    → width s ≡ (layout r.kind).width
    → length (front d r 0) + inside_size d r.depth rs ≡ n
    → held_count r.depth rs ≡ c
    → front d r c ≡ data-front
    → row_bytes d r rs ≡ header s (layout r.kind).id n ++ data-front
row_is d s r rs n c data-front w e q f =
    λ i. ((layout r.kind).id ∷ big (sym w i) (e i)) ++ ((ap (front d r) q ∙ f) i)

held_joined : (a f x y z : List ℕ) → (a ++ f) ++ (x ++ (y ++ z)) ≡ ((a ++ (f ++ x)) ++ y) ++ z
held_joined a f x y z = simp append_assoc

flat_tell : (d : ℕ) (s : Spot) (k n : ℕ) (p : Parts) (more : List Row) → Sound s k p → Ends n more
    → flat d (tell d n p ++ more) ≡ bytes_of s (normal d p) ++ flat d more
flat_tell d s k n none more l h = refl
flat_tell d s k n (unknown id bs rest) more l h = absurd l
flat_tell d s k n (named kind t tail rest) more l h =
    let r : Row = text_row d n kind t tail in
    let rs : List Row = tell d n rest ++ more in
    let body : List ℕ = (length t ∷ t) ++ tail_bytes (tail_for d (said d tail)) in
    let w = width_of s kind l.0 (text_known kind l.1) in
    let f = ap length (front_text d r 0 (ap is_text l.1)) in
    let z = inside_ends d n rs (ends_tell d s k n rest more l.2 h) in
    let here : row_bytes d r rs ≡ header s (layout kind).id (length body) ++ body =
    row_is d s r rs (length body) (held_count n rs) body w (omega arith) refl (front_text d r (held_count n rs) (ap is_text l.1)) in
    (λ i. here i ++ flat_tell d s k n rest more l.2 h i)
    ∙ sym (append_assoc (header s (layout kind).id (length body) ++ body) (bytes_of s (normal d rest)) (flat d more))
flat_tell d s k n (held kind a b inner rest) more l h =
    let i : Spot = (layout kind).inside in
    let r : Row = held_row n kind a b in
    let after : List Row = tell d n rest ++ more in
    let rs : List Row = (tell d (suc n) inner ++ tell d n rest) ++ more in
    let e : rs ≡ tell d (suc n) inner ++ after = append_assoc (tell d (suc n) inner) (tell d n rest) more in
    let stop : Ends n after = ends_tell d s k n rest more l.5 h in
    let text-not = held_no_text (layout kind).fields a b (how_many inner) l.2 in
    let many : ℕ = how_many (normal d inner) in
    let fore : List ℕ = fixed (layout kind).fields a b many in
    let inside : List ℕ = bytes_of i (normal d inner) in
    let w = width_of s kind l.0 l.1 in
    let f = ap length (front_held d r many text-not) in
    let g = front_length d r 0 many in
    let z : inside_size d n rs ≡ length inside =
    ap (inside_size d n) e
    ∙ (inside_tell d i (deeper i k) n (suc n) inner after l.4 (omega arith)
    ∙ (let y = inside_ends d n after stop in omega arith)) in
    let c : held_count n rs ≡ many =
    ap (held_count n) e
    ∙ (count_tell d i (deeper i k) n inner after l.4
    ∙ (let y = count_ends n after stop in let x = how_many_normal d i (deeper i k) inner l.4 in omega arith)) in
    let j = length-append fore inside in
    let here : row_bytes d r rs ≡ header s (layout kind).id (length (fore ++ inside)) ++ fore =
    row_is d s r rs (length (fore ++ inside)) many fore w (omega arith) c (front_held d r many text-not) in
    let deeper-rows : flat d (tell d (suc n) inner ++ after) ≡ inside ++ flat d after =
    flat_tell d i (deeper i k) (suc n) inner after l.4 (ends_more n after stop) in
    let all : flat d rs ≡ inside ++ (bytes_of s (normal d rest) ++ flat d more) =
    ap (flat d) e ∙ (deeper-rows ∙ ap (λ (x : List ℕ). inside ++ x) (flat_tell d s k n rest more l.5 h)) in
    (λ v. here v ++ all v) ∙ held_joined (header s (layout kind).id (length (fore ++ inside))) fore inside (bytes_of s (normal d rest)) (flat d more)

pub flat_tree : (d : ℕ) (s : Spot) (k n : ℕ) (p : Parts) → Sound s k p → flat d (tell d n p) ≡ bytes_of s (normal d p)
flat_tree d s k n p l =
    ap (flat d) (sym (append-nil (tell d n p))) ∙ (flat_tell d s k n p [] l tt ∙ append-nil (bytes_of s (normal d p)))

-- the descriptions' header, before rows if there are any
framed : (bytes body : List ℕ) → bytes ≡ body → (1 ∷ big 2 (length body) ++ body) ++ [] ≡ 1 ∷ (big 2 (length bytes) ++ bytes)
framed bytes body e = append-nil (1 ∷ big 2 (length body) ++ body) ∙ (λ i. 1 ∷ (big 2 (length (sym e i)) ++ sym e i))

container : (d : ℕ) (p : Parts) → Sound Descriptions 0 p
    → sent_as (record { default = d; tops = tops_for (normal d p) }) ≡ flat_container d (tell d 0 p)
container d none l = refl
container d (unknown id bs rest) l = absurd l
container d (named kind t tail rest) l =
    ap (λ (x : List ℕ). d ∷ x)
    (framed (flat d (tell d 0 (named kind t tail rest))) (bytes_of Descriptions (normal d (named kind t tail rest)))
    (flat_tree d Descriptions 0 0 (named kind t tail rest) l))
container d (held kind a b inner rest) l =
    ap (λ (x : List ℕ). d ∷ x)
    (framed (flat d (tell d 0 (held kind a b inner rest))) (bytes_of Descriptions (normal d (held kind a b inner rest)))
    (flat_tree d Descriptions 0 0 (held kind a b inner rest) l))

pub flat_stands : FlatStands
flat_stands d rows s l = container d (gather rows 0) l ∙ ap (flat_container d) (tell_gather d rows s)

-- without the frame
pub flat_gathered : (d : ℕ) (rows : List Row) → Shaped 0 rows → Sound Descriptions 0 (gather rows 0)
    → flat d rows ≡ bytes_of Descriptions (normal d (gather rows 0))
flat_gathered d rows s l = ap (flat d) (sym (tell_gather d rows s)) ∙ flat_tree d Descriptions 0 0 (gather rows 0) l

-- the length by the rows and the default alone
pub flat_length : (d : ℕ) (rows : List Row) → Shaped 0 rows → Sound Descriptions 0 (gather rows 0)
    → length (flat d rows) + 3 * texts_in d rows ≡ full_size rows
flat_length d rows s l =
    let e = ap length (flat_gathered d rows s l) in
    subst (λ (x : List Row). length (flat d rows) + 3 * texts_in d x ≡ full_size x) (tell_gather d rows s)
    (let z = normal_size d Descriptions 0 0 (gather rows 0) l in omega arith)

pub container_length : (d : ℕ) (rows : List Row) → Shaped 0 rows → Sound Descriptions 0 (gather rows 0)
    → length (flat_container d rows) + 3 * texts_in d rows ≡ frame rows + full_size rows
container_length d [] s l = refl
container_length d (r ∷ rs) s l =
    let e = flat_length d (r ∷ rs) s l in
    let a = length-append (big 2 (length (flat d (r ∷ rs)))) (flat d (r ∷ rs)) in
    let b = length_big 2 (length (flat d (r ∷ rs))) in
    omega arith
