-- The conditions that refuse a row, and what holds where none does.
-- Assumes nothing.
use Rattle.std.proofs.Common.{◌≡◌, ℕ, ◌-◌, ◌<◌, ◌≤◌, Bool, true, false, not, ◌&&◌, ltb, List, [], ◌∷◌, ◌++◌, length, Ok, sym, refl, ap, ◌∙◌, arith, ltb-false, lt-ltb, le-ltb}
use borrow.Author.Tests.{not-false}
use Rattle.grammar.specs.declared.fault.SheetFault.{SheetFault}
use Rattle.grammar.specs.Format.{layout}
use Rattle.grammar.specs.Grammar.{Row, Rows, deeper}
use Rattle.grammar.specs.Reading.{reading}
use Rattle.grammar.specs.Sheet.{Verdict, refuse_if, may_stand, nodes_open, most_rows, cost, cost_of, judge_row, judge_rows, judge_load}
use Rattle.sheet.proofs.Encoded.{cost_append}

by_pass : (b : Bool) (f : SheetFault) (next : Verdict) → refuse_if b f next ≡ Ok tt → (b ≡ false) × (next ≡ Ok tt)
by_pass true f next h = let z : ◌≡◌ {A = ℕ} 0 1 = cc in absurd (omega arith)
by_pass false f next h = (refl, h)

-- what holds where no condition refuses the row
pub record Passes (size : ℕ) (rows : Rows) (ks : List ℕ) (has fit : Bool) (row : Row) : Type 0 where
  pub stands : (has && may_stand ks row.kind) ≡ true
  pub eight : deeper (layout row.kind).inside (nodes_open ks) ≤ 8
  pub fits : fit ≡ true
  pub few : length (rows ++ (row ∷ [])) ≤ 250
  pub room : cost (rows ++ (row ∷ [])) ≤ size

module _ (size : ℕ) (rows : Rows) (ks : List ℕ) (has fit : Bool) (row : Row) where
  abbrev placed : Bool
  placed = has && may_stand ks row.kind

  abbrev ninth : Bool
  ninth = ltb 8 (deeper (layout row.kind).inside (nodes_open ks))

  abbrev many : Bool
  many = ltb most_rows (length (rows ++ (row ∷ [])))

  abbrev costly : Bool
  costly = ltb size (cost (rows ++ (row ∷ [])))

  pub passes : judge_row size rows ks has fit row ≡ Ok tt → Passes size rows ks has fit row
  passes h =
      let a = by_pass (not placed) _ _ h in
      let b = by_pass ninth _ _ a.1 in
      let c = by_pass (not fit) _ _ b.1 in
      let d = by_pass many _ _ c.1 in
      let e = by_pass costly _ _ d.1 in
      record {
        stands = not-false placed a.0;
        eight = ltb-false 8 _ b.0;
        fits = not-false fit c.0;
        few = ltb-false most_rows _ d.0;
        room = ltb-false size _ e.0;
      }

-- what is told of the rows that bytes tell is told of the bytes
pub judged_load : (size : ℕ) (rows new : Rows) (ks : List ℕ) (n : ℕ) (bytes : List ℕ) → n ≡ length ks → reading bytes ≡ Ok new
    → judge_rows size (length rows) n new ≡ judge_load size rows ks (reading bytes)
judged_load size rows new ks n bytes o e =
    ap (λ (n : ℕ). judge_rows size (length rows) n new) o ∙ sym (ap (judge_load size rows ks) e)

-- where the bytes that are left are too few for a row, and where they are not
module _ (size used : ℕ) (rows : Rows) (row : Row) (costs : cost rows ≡ used) (fits : used ≤ size) where
  pub too_costly : size - used < cost_of row → ltb size (cost (rows ++ (row ∷ []))) ≡ true
  too_costly h = lt-ltb size _ (omega (arith, cost_append rows (row ∷ [])))

  pub not_costly : cost_of row ≤ size - used → ltb size (cost (rows ++ (row ∷ []))) ≡ false
  not_costly h = le-ltb size _ (omega (arith, cost_append rows (row ∷ [])))
