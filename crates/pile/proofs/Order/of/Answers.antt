use Rattle.std.proofs.Common.{◌≡◌, ◌≤◌, List, [], ◌∷◌, ◌++◌, length, drop, refl, arith}
use Rattle.grammar.specs.Grammar.{Rows}
use Rattle.pile.specs.declared.Layer.{Layer}
use Rattle.pile.specs.declared.Layer.TheVariants.{All}
use Rattle.pile.specs.Through.{left_by_all}
use Rattle.pile.proofs.Order.of.Goals as goal

-- four places leave what four layers at most leave
four : (ls : List Layer) → length ls ≤ 4 → (rows : Rows)
    → left_by_all (ls ++ drop (length ls) (All ∷ All ∷ All ∷ All ∷ [])) rows ≡ left_by_all ls rows
four [] h rows = refl
four (p ∷ []) h rows = refl
four (p ∷ (q ∷ [])) h rows = refl
four (p ∷ (q ∷ (r ∷ []))) h rows = refl
four (p ∷ (q ∷ (r ∷ (s ∷ [])))) h rows = refl
four (p ∷ (q ∷ (r ∷ (s ∷ (t ∷ ls))))) h rows = absurd (omega arith)

pub returns : goal.returns
returns c = λ rows. rw c.copy_from_slice.ensures.after (four c.args.layers.now c.if-layers-gt4.false rows)
