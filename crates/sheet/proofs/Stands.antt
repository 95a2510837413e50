-- How many rows can be open: by the table no two rows that are no nodes are open one right inside the other.
-- Assumes nothing.
use Rattle.std.proofs.Common.{◌≡◌, ℕ, suc, ◌<◌, ◌≤◌, Bool, true, false, not, ◌&&◌, ltb, leb, List, [], ◌∷◌, length, refl, arith, ltb-true, eqb-true, le-leb, leb-true}
use Rattle.grammar.specs.Format.{layout, kind_at}
use Rattle.grammar.specs.Grammar.{Row, Rows, deeper}
use Rattle.grammar.specs.Reading.{closed}
use Rattle.grammar.specs.Walk.{room}
use Rattle.grammar.specs.Sheet.{innermost, nodes_open, may_stand, is_opened}
use Rattle.grammar.proofs.Walked.{room_most, room_grows}
use Rattle.sheet.specs.Open.{standing}
use Rattle.sheet.proofs.Judges.{Passes}

both : (a b : Bool) → (a && b) ≡ true → (a ≡ true) × (b ≡ true)
both true b h = (refl, h)
both false b h = let z : ◌≡◌ {A = ℕ} 0 1 = cc in absurd (omega arith)

not_true : (b : Bool) → not b ≡ true → b ≡ false
not_true true h = let z : ◌≡◌ {A = ℕ} 0 1 = cc in absurd (omega arith)
not_true false h = refl

-- what the innermost of standing rows keeps to
pub record Inside (k : ℕ) (ks : List ℕ) : Type 0 where
  pub opens : closed (layout k).inside ≡ false
  pub some : 0 < k
  pub found : kind_at (innermost ks) (layout k).id ≡ k
  pub nodes : deeper (layout k).inside (nodes_open ks) ≤ 8
  pub around : standing ks ≡ true

pub inside : (k : ℕ) (ks : List ℕ) → standing (k ∷ ks) ≡ true → Inside k ks
inside k ks h =
    let a = both (is_opened k && may_stand ks k) _ h in
    let b = both (is_opened k) (may_stand ks k) a.0 in
    let m = both (ltb 0 k) _ b.1 in
    let n = both (leb (deeper (layout k).inside (nodes_open ks)) 8) (standing ks) a.1 in
    record {
      opens = not_true (closed (layout k).inside) b.0;
      some = ltb-true 0 k m.0;
      found = eqb-true (kind_at (innermost ks) (layout k).id) k m.1;
      nodes = leb-true (deeper (layout k).inside (nodes_open ks)) 8 n.0;
      around = n.1;
    }

pub nodes_eight : (ks : List ℕ) → standing ks ≡ true → nodes_open ks ≤ 8
nodes_eight [] h = omega arith
nodes_eight (k ∷ ks) h = (inside k ks h).nodes

open_room : (ks : List ℕ) → standing ks ≡ true → suc (length ks) ≤ room (innermost ks) (nodes_open ks)
open_room [] h = omega arith
open_room (k ∷ ks) h =
    let i = inside k ks h in
    let r = open_room ks i.around in
    let g = room_grows (innermost ks) (layout k).id k (nodes_open ks) i.found i.some i.opens in
    omega (arith, r, g)

pub open_few : (ks : List ℕ) → standing ks ≡ true → length ks ≤ 16
open_few ks h = omega (arith, open_room ks h, room_most (innermost ks) (nodes_open ks) (nodes_eight ks h))

join : (a b : Bool) → a ≡ true → b ≡ true → (a && b) ≡ true
join a b h k = rw (h, k)

-- a row that open was allowed to add stands in the others
pub more_stands : (size : ℕ) (rows : Rows) (ks : List ℕ) (fit : Bool) (row : Row) → Passes size rows ks (is_opened row.kind) fit row → standing ks ≡ true
    → standing (row.kind ∷ ks) ≡ true
more_stands size rows ks fit row p s =
    join (is_opened row.kind && may_stand ks row.kind) (leb (deeper (layout row.kind).inside (nodes_open ks)) 8 && standing ks) p.stands
    (join (leb (deeper (layout row.kind).inside (nodes_open ks)) 8) (standing ks) (le-leb _ 8 p.eight) s)
