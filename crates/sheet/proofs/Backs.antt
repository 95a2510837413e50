-- The open kinds, as they lie in a list, the innermost last.
-- Assumes nothing.
use Rattle.std.proofs.Common.{◌≡◌, ℕ, suc, ◌+◌, ◌-◌, ◌<◌, ◌≤◌, List, [], ◌∷◌, length, get_or, take, reverse, sym, ap, ◌∙◌, arith, take_all, length-take-le}
use Rattle.std.proofs.lemmas.List.{take_more, reverse-append, length-reverse}
use Rattle.grammar.specs.declared.table.Spot.{Spot}
use Rattle.grammar.specs.declared.table.Spot.TheVariants.{Descriptions, Node, Reference, Place, Modes, Associated, Nowhere}
use Rattle.grammar.specs.declared.table.Layout.{Layout}
use Rattle.grammar.specs.Grammar.{deeper}
use Rattle.grammar.specs.Format.{layout}
use Rattle.grammar.specs.Sheet.{nodes_open}

-- the kinds up to a place and the one there
pub back_more : (ks : List ℕ) (i : ℕ) → i < length ks → reverse (take (i + 1) ks) ≡ get_or ks i 0 ∷ reverse (take i ks)
back_more ks i h = ap reverse (take_more ks i 0 h) ∙ reverse-append (take i ks) (get_or ks i 0 ∷ [])

-- the innermost comes first
pub back_last : (ks : List ℕ) → 0 < length ks → reverse ks ≡ get_or ks (length ks - 1) 0 ∷ reverse (take (length ks - 1) ks)
back_last ks h =
    ap reverse (sym (take_all (length ks - 1 + 1) ks (omega arith))) ∙ back_more ks (length ks - 1) (omega arith)

pub nodes_few : (ks : List ℕ) → nodes_open ks ≤ length ks
nodes_few [] = omega arith
nodes_few (k ∷ ks) = let h = nodes_few ks in go (layout k).inside (nodes_open ks) (length ks) h
  where
    go : (s : Spot) (n m : ℕ) → n ≤ m → deeper s n ≤ suc m
    go Descriptions n m h = omega arith
    go Node n m h = omega arith
    go Reference n m h = omega arith
    go Place n m h = omega arith
    go Modes n m h = omega arith
    go Associated n m h = omega arith
    go Nowhere n m h = omega arith

-- one row more on the way from the outermost to the innermost
module _ (ks : List ℕ) (i n r : ℕ) (l : Layout) (there : i < length ks) (laid : l ≡ layout (get_or ks i 0)) (before : n ≡ nodes_open (reverse (take i ks)))
    (now : r ≡ deeper l.inside n) where
  pub nodes_more : r ≡ nodes_open (reverse (take (i + 1) ks))
  nodes_more =
      now ∙ ap (λ (x : Layout). deeper x.inside n) laid ∙ ap (deeper (layout (get_or ks i 0)).inside) before ∙ sym (ap nodes_open (back_more ks i there))

  pub nodes_within : r ≤ i + 1
  nodes_within =
      omega (arith, nodes_more, nodes_few (reverse (take (i + 1) ks)), length-reverse (take (i + 1) ks), length-take-le (i + 1) ks (omega arith))
