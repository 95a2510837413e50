-- The rule of the cut, by its first row; past one left out, by induction on what is deeper.
use Rattle.std.proofs.Common.{◌≡◌, ℕ, true, false, cond, ltb, [], ◌∷◌, Some, None, refl}
use Rattle.grammar.specs.Grammar.{Rows}
use Rattle.location.specs.Layers.{past_levels, cut_from, cut, drop_deeper}
use Rattle.location.proofs.cut.cut_stands.Goals as goal

dropped : (n m : ℕ) (xs : Rows) → cut_from n (Some m) xs ≡ cut n (drop_deeper m xs)
dropped n m [] = refl
dropped n m (x ∷ xs) =
    elim (ltb m x.depth) as
    (λ b. cond b (cut_from n (Some m) xs)
    (cond (past_levels n x.kind x.depth) (cut_from n (Some x.depth) xs) (x ∷ cut_from n None xs))
    ≡ cut n (cond b (drop_deeper m xs) (x ∷ xs)))
    [ true ↦ dropped n m xs | false ↦ refl ]

pub returns : goal.returns
returns c = record { stays = λ n x xs e. rw e refl; goes = λ n x xs e. rw e (dropped n x.depth xs) }
