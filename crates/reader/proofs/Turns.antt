-- One turn of a loop over a holder's parts: a component that was opened, and the rows counted before it.
-- Assumes nothing.
use Rattle.std.proofs.Common.{◌≡◌, ℕ, ◌+◌, ◌-◌, ◌<◌, ◌≤◌, true, false, List, length, get_or, Some, None, Ok, Err, sym, refl, ap, ◌∙◌, ap₂, subst, arith}
use Rattle.grammar.specs.declared.fault.ReadFault.{ReadFault}
use Rattle.grammar.specs.declared.fault.ReadFault.TheVariants.{Miscounted}
use Rattle.grammar.specs.declared.table.Spot.{Spot}
use Rattle.grammar.specs.declared.table.Spot.TheVariants.{Descriptions, Node, Reference, Place, Modes, Associated, Nowhere}
use Rattle.grammar.specs.Format.{width, layout}
use Rattle.grammar.specs.Reading.{Read, then, is_count, counted, sealed}
use Rattle.grammar.specs.Offsets.{ends}
use Rattle.grammar.specs.Checks.{component_of, parts_of, nodes_of, fields_of, plus}
use Rattle.grammar.proofs.Steps.{parts_done, parts_past, part_fault, part_ok, part_unknown, plus_plus, nodes_done, nodes_over, nodes_node, only_nodes, then_err, node_fault, node_parts, modes_fault, modes_nodes}
use Rattle.grammar.proofs.Cut.{go_then}
use Rattle.reader.specs.Opened.{Along, AtData, Opened, OpenedNode, Found, NextPart}
use Rattle.reader.specs.declared.edge.Reader.{Reader}
use Rattle.reader.specs.declared.parts.Part.{Part}

-- a component that was opened has its data where the reader stands
pub at_data : (bs : List ℕ) (s : Spot) (level at : ℕ) (r after : Reader) (p : Part) → Along r after → Found bs s level at r.end p after → AtData p after
at_data bs s level at r after p a f = (omega (arith, f.3, f.4), f.5, omega (arith, f.6, a.1))

-- what is left for a reader that kept its bytes and its edge
left_parts : (s : Spot) (level n : ℕ) (r x : Reader) → Along r x → parts_of x.bytes.now s level n x.at x.end ≡ parts_of r.bytes.now s level n x.at r.end
left_parts s level n r x a = ap₂ (λ (b : List ℕ) (e : ℕ). parts_of b s level n x.at e) a.0 a.1

left_nodes : (c level n own : ℕ) (r x : Reader) → Along r x → nodes_of x.bytes.now c level n own x.at x.end ≡ nodes_of r.bytes.now c level n own x.at r.end
left_nodes c level n own r x a = ap₂ (λ (b : List ℕ) (e : ℕ). nodes_of b c level n own x.at e) a.0 a.1

-- the component that was opened, as it lies in the bytes
opened_is : (bs : List ℕ) (s : Spot) (level n at end : ℕ) (p : Part) (r after : Reader) → r.bytes.now ≡ bs → Along r after → Found bs s level at end p after
    → component_of bs p.kind level n at after.at p.stop ≡ component_of after.bytes.now p.kind p.level n p.place after.at p.stop
opened_is bs s level n at end p r after b a f =
    ap₂ (λ (l x : ℕ). component_of bs p.kind l n x after.at p.stop) (sym f.7) (sym f.3)
    ∙ ap (λ (b : List ℕ). component_of b p.kind p.level n p.place after.at p.stop) (sym (a.0 ∙ b))

-- where nothing unknown is refused, no components are counted
sealed_counted : (s : Spot) → sealed s ≡ false → counted s ≡ false
sealed_counted Descriptions h = refl
sealed_counted Node h = refl
sealed_counted Reference h = refl
sealed_counted Place h = refl
sealed_counted Modes h = refl
sealed_counted Associated h = h
sealed_counted Nowhere h = refl

-- A reader that passed unknown components only, and the component at its place.
module _ (first r : Reader) (s : Spot) (level : ℕ) (passed : Along first r) (on : first.at ≤ r.at)
    (same : (n : ℕ) → parts_of first.bytes.now s level n first.at first.end ≡ parts_of r.bytes.now s level n r.at r.end) where
  pub next_none : (after : Reader) → r.end ≤ r.at → after.at ≡ first.end → NextPart first.bytes.now s level first.at first.end (Ok None) after
  next_none after h x = (x, λ n. same n ∙ parts_done r.bytes.now s level n r.at r.end h)

  module _ (h : r.at < r.end) (free : sealed s ≡ false) where
    pub next_fault : (e : ReadFault) → ends r.bytes.now (width s) level r.at r.end ≡ Err e → (n : ℕ) → parts_of first.bytes.now s level n first.at first.end ≡ Err e
    next_fault e q n = same n ∙ parts_past r.bytes.now s level n r.at r.end h r.within (sealed_counted s free) free e q

    pub next_unknown : (after : Reader) → Along r after → Opened r.bytes.now s level r.at r.end (Ok None) after
        → (n : ℕ) → parts_of first.bytes.now s level n first.at first.end ≡ parts_of after.bytes.now s level n after.at after.end
    next_unknown after a f n =
        same n ∙ part_unknown r.bytes.now s level n r.at r.end h r.within (sealed_counted s free) free after.at f.0 f.1 ∙ sym (left_parts s level n r after a)

  pub next_found : (p : Part) (after : Reader) → Found r.bytes.now s level r.at r.end p after → NextPart first.bytes.now s level first.at first.end (Ok (Some p)) after
  next_found p after f = (
    subst (λ (x : ℕ). Found first.bytes.now s level x first.end p after) (sym f.3)
        (subst (λ (e : ℕ). Found first.bytes.now s level r.at e p after) passed.1
        (subst (λ (b : List ℕ). Found b s level r.at r.end p after) passed.0 f)),
    omega (arith, f.3),
    λ n. same n ∙ left_parts s level n first r passed ∙ ap (λ (x : ℕ). parts_of first.bytes.now s level n x first.end) (sym f.3),
  )

module _ (r : Reader) (s : Spot) (level n rows : ℕ) (total : Read ℕ) (before : total ≡ plus rows (parts_of r.bytes.now s level n r.at r.end)) where
  pub turns_done : (after : Reader) → NextPart r.bytes.now s level r.at r.end (Ok None) after → Ok rows ≡ total
  turns_done after f = sym (before ∙ ap (plus rows) (f.1 n) ∙ ap Ok (omega arith))

  pub turn_past : (e : ReadFault) (after : Reader) → NextPart r.bytes.now s level r.at r.end (Err e) after → Err e ≡ total
  turn_past e after f = sym (before ∙ ap (plus rows) (f n))

  -- a known component was checked
  module _ (p : Part) (after : Reader) (a : Along r after) (free : sealed s ≡ false) (f : NextPart r.bytes.now s level r.at r.end (Ok (Some p)) after) where
    before_end : p.place < r.end
    before_end = omega (arith, f.0.4, f.0.5, f.0.6)

    same_part : component_of r.bytes.now p.kind level n p.place after.at p.stop ≡ component_of after.bytes.now p.kind p.level n p.place after.at p.stop
    same_part = opened_is r.bytes.now s level n p.place r.end p r after refl a f.0

    pub turn_fault : (e : ReadFault) → component_of after.bytes.now p.kind p.level n p.place after.at p.stop ≡ Err e → Err e ≡ total
    turn_fault e q =
        sym (before ∙ ap (plus rows) (f.2 n ∙ part_fault r.bytes.now s level n p.place r.end before_end r.within (sealed_counted s free) free p.stop p.kind f.0.0 f.0.1 after.at f.0.4 e (same_part ∙ q)))

    pub turn_ok : (m : ℕ) (last : Reader) → component_of after.bytes.now p.kind p.level n p.place after.at p.stop ≡ Ok m → last.at ≡ p.stop → Along after last
        → total ≡ plus (rows + m) (parts_of last.bytes.now s level n last.at last.end)
    turn_ok m last q x y =
        before
        ∙ ap (plus rows) (f.2 n ∙ part_ok r.bytes.now s level n p.place r.end before_end r.within (sealed_counted s free) free p.stop p.kind f.0.0 f.0.1 after.at f.0.4 m (same_part ∙ q))
        ∙ plus_plus rows m (parts_of r.bytes.now s level n p.stop r.end)
        ∙ ap (λ (x : ℕ). plus (rows + m) (parts_of r.bytes.now s level n x r.end)) (sym x)
        ∙ ap (plus (rows + m)) (sym (left_parts s level n r last (y.0 ∙ a.0, y.1 ∙ a.1)))

-- The same over the nodes that associated modes count, c of which are still to come.
module _ (r : Reader) (level n own rows : ℕ) (total : Read ℕ) where
  pub nodes_end : total ≡ plus rows (nodes_of r.bytes.now 0 level n own r.at r.end) → r.at ≡ r.end → Ok rows ≡ total
  nodes_end before h = sym (before ∙ ap (plus rows) (nodes_done r.bytes.now level n own r.at r.end h) ∙ ap Ok (omega arith))

  pub nodes_left : total ≡ plus rows (nodes_of r.bytes.now 0 level n own r.at r.end) → (r.at ≡ r.end → ⊥) → Err (Miscounted own (level - 1)) ≡ total
  nodes_left before h = sym (before ∙ ap (plus rows) (nodes_over r.bytes.now level n own r.at r.end h))

  module _ (c : ℕ) (some : 0 < c) (before : total ≡ plus rows (nodes_of r.bytes.now c level n own r.at r.end)) where
    pub nodes_unopened : (e : ReadFault) (after : Reader) → OpenedNode r.bytes.now Associated level own r.at r.end (Err e) after → Err e ≡ total
    nodes_unopened e after f = sym (before ∙ ap (plus rows) (f c n some))

    module _ (p : Part) (after : Reader) (a : Along r after) (f : Found r.bytes.now Associated level r.at r.end p after) where
      one : component_of r.bytes.now 1 level n r.at (r.at + 3) p.stop ≡ component_of after.bytes.now p.kind p.level n p.place after.at p.stop
      one =
          let k = only_nodes (get_or r.bytes.now r.at 0) p.kind f.1 f.2 in
          ap₂ (λ (x y : ℕ). component_of r.bytes.now x level n r.at y p.stop) (sym k.1) (sym f.4)
          ∙ opened_is r.bytes.now Associated level n r.at r.end p r after refl a f

      nodes_one : nodes_of r.bytes.now c level n own r.at r.end
          ≡ then (component_of r.bytes.now 1 level n r.at (r.at + 3) p.stop) (λ m. plus m (nodes_of r.bytes.now (c - 1) level n own p.stop r.end))
      nodes_one =
          let k = only_nodes (get_or r.bytes.now r.at 0) p.kind f.1 f.2 in
          nodes_node r.bytes.now level n own r.at r.end c some (omega (arith, f.4, f.5, f.6)) r.within p.stop f.0 k.0

      pub nodes_fault : (e : ReadFault) → component_of after.bytes.now p.kind p.level n p.place after.at p.stop ≡ Err e → Err e ≡ total
      nodes_fault e q = sym (before ∙ ap (plus rows) (nodes_one ∙ then_err (component_of r.bytes.now 1 level n r.at (r.at + 3) p.stop) _ e (one ∙ q)))

      pub nodes_ok : (m : ℕ) (last : Reader) (less : ℕ) → component_of after.bytes.now p.kind p.level n p.place after.at p.stop ≡ Ok m → last.at ≡ p.stop
          → Along after last → less ≡ c - 1 → total ≡ plus (rows + m) (nodes_of last.bytes.now less level n own last.at last.end)
      nodes_ok m last less q x y z =
          before
          ∙ ap (plus rows) (nodes_one ∙ go_then (component_of r.bytes.now 1 level n r.at (r.at + 3) p.stop) _ (one ∙ q) refl)
          ∙ plus_plus rows m (nodes_of r.bytes.now (c - 1) level n own p.stop r.end)
          ∙ ap₂ (λ (i x : ℕ). plus (rows + m) (nodes_of r.bytes.now i level n own x r.end)) (sym z) (sym x)
          ∙ ap (plus (rows + m)) (sym (left_nodes less level n own r last (y.0 ∙ a.0, y.1 ∙ a.1)))

-- What the component p tells, by what was counted of it so far: `first` stands past its fields, and `here` further on.
module _ (r : Reader) (p : Part) (n : ℕ) (known : 0 < p.kind) (some : 1 ≤ p.level) (d : AtData p r) where
  within : p.stop ≤ length r.bytes.now
  within = omega (arith, d.2, r.within)

  module _ (node : (layout p.kind).inside ≡ Node) (few : n < 8) where
    pub node_refused : (e : ReadFault) → fields_of r.bytes.now (layout p.kind) p.level p.place r.at p.stop ≡ Err e
        → Err e ≡ component_of r.bytes.now p.kind p.level n p.place r.at p.stop
    node_refused e q = sym (node_fault r.bytes.now p.kind p.level n p.place r.at p.stop known some d.1 within node few e q)

    pub node_so_far : (a : ℕ) (first here : Reader) → fields_of r.bytes.now (layout p.kind) p.level p.place r.at p.stop ≡ Ok a
        → first.at ≡ a → first.bytes.now ≡ r.bytes.now → first.end ≡ p.stop → (rows : ℕ)
        → plus 1 (parts_of first.bytes.now Node (p.level + 1) (n + 1) first.at first.end) ≡ plus rows (parts_of here.bytes.now Node (p.level + 1) (n + 1) here.at here.end)
        → component_of r.bytes.now p.kind p.level n p.place r.at p.stop ≡ plus rows (parts_of here.bytes.now Node (p.level + 1) (n + 1) here.at here.end)
    node_so_far a first here q x y z rows i =
        node_parts r.bytes.now p.kind p.level n p.place r.at p.stop known some d.1 within node few a q
        ∙ ap (λ (b : List ℕ). plus 1 (parts_of b Node (p.level + 1) (n + 1) a p.stop)) (sym y)
        ∙ ap₂ (λ (u v : ℕ). plus 1 (parts_of first.bytes.now Node (p.level + 1) (n + 1) u v)) (sym x) (sym z) ∙ i

  module _ (few : n ≤ 8) (modes : is_count (layout p.kind).fields ≡ true) where
    pub modes_refused : (e : ReadFault) → fields_of r.bytes.now (layout p.kind) p.level p.place r.at p.stop ≡ Err e
        → Err e ≡ component_of r.bytes.now p.kind p.level n p.place r.at p.stop
    modes_refused e q = sym (modes_fault r.bytes.now p.kind p.level n p.place r.at p.stop known some d.1 within few modes e q)

    pub modes_so_far : (a count : ℕ) (first here : Reader) → fields_of r.bytes.now (layout p.kind) p.level p.place r.at p.stop ≡ Ok a
        → count ≡ get_or r.bytes.now r.at 0 → first.at ≡ a → first.bytes.now ≡ r.bytes.now → first.end ≡ p.stop → (rows less : ℕ)
        → plus 1 (nodes_of first.bytes.now count (p.level + 1) n p.place first.at first.end)
        ≡ plus rows (nodes_of here.bytes.now less (p.level + 1) n p.place here.at here.end)
        → component_of r.bytes.now p.kind p.level n p.place r.at p.stop ≡ plus rows (nodes_of here.bytes.now less (p.level + 1) n p.place here.at here.end)
    modes_so_far a count first here q k x y z rows less i =
        modes_nodes r.bytes.now p.kind p.level n p.place r.at p.stop known some d.1 within few modes a q
        ∙ ap₂ (λ (b : List ℕ) (c : ℕ). plus 1 (nodes_of b c (p.level + 1) n p.place a p.stop)) (sym y) (sym k)
        ∙ ap₂ (λ (u v : ℕ). plus 1 (nodes_of first.bytes.now count (p.level + 1) n p.place u v)) (sym x) (sym z) ∙ i
