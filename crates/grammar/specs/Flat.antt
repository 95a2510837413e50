-- The bytes of rows, row by row: a row's component up to its parts needs only the rows that follow it.
use Rattle.std.specs.Prelude.{◌≡◌, ℕ, suc, ◌+◌, List, [], ◌∷◌, ◌++◌, length, ◌==◌, nat_lt}
use Rattle.grammar.specs.declared.table.Spot.TheVariants.{Descriptions}
use Rattle.grammar.specs.Format.{layout, big, fixed}
use Rattle.grammar.specs.Grammar.{Row, sent_as}
use Rattle.grammar.specs.Reading.{if, is_text}
use Rattle.grammar.specs.Deciding.{Shaped, Sound}
use Rattle.grammar.specs.Sending.{gather, candidate}

-- the language part of a text, where its language is not the default
abbrev pub language_part : ℕ → ℕ → List ℕ
language_part d l = if (l == d) (λ _. []) (λ _. 0 ∷ 1 ∷ l ∷ [])

-- the data of a row's component up to its parts, of which `held` stand right in it
abbrev pub front : ℕ → Row → ℕ → List ℕ
front d r held =
    if (is_text (layout r.kind).fields)
    (λ _. (length r.text ∷ r.text) ++ language_part d r.language)
    (λ _. fixed (layout r.kind).fields r.a r.b held)

-- the bytes of a row's component, its parts not counted
abbrev pub own_size : ℕ → Row → ℕ
own_size d r = suc (layout r.kind).width + length (front d r 0)

-- the bytes of the rows deeper than m, before the next that is not
abbrev pub inside_size : ℕ → ℕ → List Row → ℕ
inside_size d m [] = 0
inside_size d m (r ∷ rs) = if (nat_lt m r.depth) (λ _. own_size d r + inside_size d m rs) (λ _. 0)

-- how many of them are just one deeper
abbrev pub held_count : ℕ → List Row → ℕ
held_count m [] = 0
held_count m (r ∷ rs) =
    if (nat_lt m r.depth) (λ _. if (r.depth == suc m) (λ _. suc (held_count m rs)) (λ _. held_count m rs)) (λ _. 0)

-- the component of a row up to its parts, where these rows follow
abbrev pub row_bytes : ℕ → Row → List Row → List ℕ
row_bytes d r rs =
    ((layout r.kind).id ∷ big (layout r.kind).width (length (front d r 0) + inside_size d r.depth rs)) ++ front d r (held_count r.depth rs)

abbrev pub flat : ℕ → List Row → List ℕ
flat d [] = []
flat d (r ∷ rs) = row_bytes d r rs ++ flat d rs

-- the container of rows under a default
abbrev pub flat_container : ℕ → List Row → List ℕ
flat_container d [] = d ∷ []
flat_container d (r ∷ rs) = d ∷ 1 ∷ (big 2 (length (flat d (r ∷ rs))) ++ flat d (r ∷ rs))

-- row by row, the bytes are those of the tree
abbrev pub FlatStands : Type 0
FlatStands = (d : ℕ) (rows : List Row) → Shaped 0 rows → Sound Descriptions 0 (gather rows 0) → sent_as (candidate rows d) ≡ flat_container d rows
