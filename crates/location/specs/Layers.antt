-- What the layers leave of a list of rows.
use Rattle.std.specs.Prelude.{◌≡◌, ℕ, ◌+◌, ◌*◌, Bool, true, false, cond, not, ◌&&◌, ◌||◌, [], ◌∷◌, Some, None, Option, ◌==◌, nat_le, nat_lt}
use Rattle.grammar.specs.Format.{layout}
use Rattle.grammar.specs.Grammar.{Rows, Row as Told}
use Rattle.grammar.specs.Reading.{is_text, is_count}

-- what is left of rows, where the first of them stays
abbrev pub first_kept : (Rows → Rows) → Rows → Rows
first_kept leaves [] = []
first_kept leaves (x ∷ xs) = x ∷ leaves xs

-- ys begins with the first row of xs that stays
pub record SettledFrom (leaves : Rows → Rows) (xs ys : Rows) : Type 0 where
  pub same : leaves ys ≡ leaves xs
  pub settled : leaves ys ≡ first_kept leaves ys

-- a text stays in its own language alone, and a row of any other kind in each
abbrev pub spoken_in : ℕ → (kind language : ℕ) → Bool
spoken_in l kind language = not (is_text (layout kind).fields) || language == l

-- the rows but for the texts in another language than l
abbrev pub one_language : ℕ → Rows → Rows
one_language l [] = []
one_language l (x ∷ xs) = cond (spoken_in l x.kind x.language) (x ∷ one_language l xs) (one_language l xs)

-- ys begins with the first row of xs that stays
abbrev pub SpokenFrom : ℕ → Rows → Rows → Type 0
SpokenFrom l = SettledFrom (one_language l)

-- a row that holds nodes is left out where those would be past n levels: each level is two rows deep
abbrev pub past_levels : ℕ → (kind depth : ℕ) → Bool
past_levels n kind depth = is_count (layout kind).fields && nat_le (2 * n) (depth + 1)

-- a row is inside of one that was left out at the depth `top`
abbrev pub inside_of : Option ℕ → ℕ → Bool
inside_of None depth = false
inside_of (Some top) depth = nat_lt top depth

-- the rows but for those past n levels, with all inside of them; `out` is the depth of one left out just before
abbrev pub cut_from : ℕ → Option ℕ → Rows → Rows
cut_from n out [] = []
cut_from n out (x ∷ xs) =
    cond (inside_of out x.depth) (cut_from n out xs)
    (cond (past_levels n x.kind x.depth) (cut_from n (Some x.depth) xs) (x ∷ cut_from n None xs))

abbrev pub cut : ℕ → Rows → Rows
cut n = cut_from n None

-- ys begins with the first row of xs that stays
abbrev pub UncutFrom : ℕ → Rows → Rows → Type 0
UncutFrom n = SettledFrom (cut n)

-- the rows from the first that is no deeper than m
abbrev pub drop_deeper : ℕ → Rows → Rows
drop_deeper m [] = []
drop_deeper m (x ∷ xs) = cond (nat_lt m x.depth) (drop_deeper m xs) (x ∷ xs)

-- The cut by its first row: one that stays stands before the cut of the rest; one left out goes with all that is deeper after it.
pub record CutRule : Type 0 where
  pub stays : (n : ℕ) (x : Told) (xs : Rows) → past_levels n x.kind x.depth ≡ false → cut n (x ∷ xs) ≡ x ∷ cut n xs
  pub goes :
      (n : ℕ) (x : Told) (xs : Rows) → past_levels n x.kind x.depth ≡ true
      → cut n (x ∷ xs) ≡ cut n (drop_deeper x.depth xs)
