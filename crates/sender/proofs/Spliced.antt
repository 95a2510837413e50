-- Bytes written one after the other.
-- Assumes nothing.
use Rattle.std.proofs.Common.{◌≡◌, ℕ, ◌+◌, ◌≤◌, ◌&&◌, T, leb, List, [], ◌++◌, length, take, drop, sym, ap, ◌∙◌, ap₂, append_assoc, arith, leb→le, length-append, length-take-le, drop-drop, take_at, drop_at}
use Rattle.grammar.specs.declared.table.Layout.{Layout}
use Rattle.grammar.specs.Format.{layout, table, blank}
use Rattle.grammar.proofs.Lines.{line_at, both_left, both_right}
use Rattle.sender.specs.Splice.{splice}

-- nothing written changes nothing
pub splice_none : (xs : List ℕ) (at : ℕ) → splice xs at [] ≡ xs
splice_none xs at = let e : at + 0 ≡ at = omega arith in rw e (lib.ListN.take-append-drop at xs)

module _ (xs : List ℕ) (at : ℕ) (us bs : List ℕ) (h : at + length us + length bs ≤ length xs) where
  front_take : take (at + length us) (splice xs at us) ≡ take at xs ++ us
  front_take =
      let l : length (take at xs ++ us) ≡ at + length us = omega (arith, length-append (take at xs) us, length-take-le at xs (omega arith)) in
      ap (take (at + length us)) (sym (append_assoc (take at xs) us (drop (at + length us) xs)))
      ∙ take_at (take at xs ++ us) (drop (at + length us) xs) (at + length us) l

  back_drop : drop (at + length us + length bs) (splice xs at us) ≡ drop (at + length us + length bs) xs
  back_drop =
      let l : length (take at xs ++ us) ≡ at + length us = omega (arith, length-append (take at xs) us, length-take-le at xs (omega arith)) in
      ap (drop (at + length us + length bs)) (sym (append_assoc (take at xs) us (drop (at + length us) xs)))
      ∙ sym (drop-drop (length bs) (at + length us) ((take at xs ++ us) ++ drop (at + length us) xs))
      ∙ ap (drop (length bs)) (drop_at (take at xs ++ us) (drop (at + length us) xs) (at + length us) l)
      ∙ drop-drop (length bs) (at + length us) xs

  -- one write behind another is one write
  pub splice_splice : splice (splice xs at us) (at + length us) bs ≡ splice xs at (us ++ bs)
  splice_splice =
      let l : at + length (us ++ bs) ≡ at + length us + length bs = omega (arith, length-append us bs) in
      ap₂ (λ (x y : List ℕ). x ++ (bs ++ y)) front_take back_drop
      ∙ append_assoc (take at xs) us (bs ++ drop (at + length us + length bs) xs)
      ∙ ap (λ (r : List ℕ). take at xs ++ r) (sym (append_assoc us bs (drop (at + length us + length bs) xs)))
      ∙ ap (λ (n : ℕ). take at xs ++ ((us ++ bs) ++ drop n xs)) (sym l)

-- the widths of the table
pub width_few : (k : ℕ) → (1 ≤ (layout k).width) × ((layout k).width ≤ 2)
width_few k = go (line_at (λ (l : Layout). leb 1 l.width && leb l.width 2) blank tt table tt k)
  where
    go : T (leb 1 (layout k).width && leb (layout k).width 2) → (1 ≤ (layout k).width) × ((layout k).width ≤ 2)
    go t = (leb→le 1 (layout k).width (both_left (leb 1 (layout k).width) _ t), leb→le (layout k).width 2 (both_right (leb 1 (layout k).width) _ t))
