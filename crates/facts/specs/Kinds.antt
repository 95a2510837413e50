-- The kinds that are more than their number, and the layers by them.
use Rattle.std.specs.Prelude.{◌≡◌, ℕ, ◌+◌, ◌*◌, cond, not, ◌&&◌, ◌||◌, ◌∷◌, ◌==◌, nat_le}
use Rattle.grammar.specs.Format.{layout}
use Rattle.grammar.specs.Grammar.{Row, Rows}
use Rattle.grammar.specs.Reading.{is_text, is_count}
use Rattle.location.specs.Layers.{one_language, past_levels}

pub record KindsByNumber : Type 0 where
  -- the texts are node names and reference names
  pub texts : (k : ℕ) → is_text (layout k).fields ≡ (k == 2 || k == 27)
  -- only associated modes count nodes
  pub counts : (k : ℕ) → is_count (layout k).fields ≡ (k == 7)
  -- the language layer leaves out a row exactly if it is of kind 2 or 27 and in another language
  pub language :
      (l : ℕ) (r : Row) (rs : Rows)
      → one_language l (r ∷ rs)
      ≡ cond ((r.kind == 2 || r.kind == 27) && not (r.language == l)) (one_language l rs) (r ∷ one_language l rs)
  -- the cut layer leaves out a row of kind 7 whose depth plus 1 is at least 2 × n
  pub cut : (n k depth : ℕ) → past_levels n k depth ≡ (k == 7 && nat_le (2 * n) (depth + 1))
