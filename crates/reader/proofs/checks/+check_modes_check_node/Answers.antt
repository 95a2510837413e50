use Rattle.std.proofs.Common.{◌≡◌, ℕ, ◌+◌, ◌-◌, ◌<◌, true, false, get_or, Ok, Err, sym, refl, ap, ◌∙◌, subst, arith, rules}
use Rattle.std.proofs.lemmas.Result.{err_from_is_err_and}
use Rattle.grammar.specs.declared.table.Spot.TheVariants.{Node}
use Rattle.grammar.specs.declared.table.Layout.{Layout}
use Rattle.grammar.specs.declared.fault.ReadFault.TheVariants.{Miscounted}
use Rattle.grammar.specs.Format.{layout, kind_at}
use Rattle.grammar.specs.Reading.{is_count}
use Rattle.grammar.specs.Checks.{leafy, nodes_of, plus}
use Rattle.grammar.proofs.Lines.{node_leafy}
use Rattle.grammar.proofs.Steps.{node_deep}
use Rattle.reader.specs.declared.edge.Reader.{Reader}
use Rattle.reader.specs.declared.edge.Within.{Within}
use Rattle.reader.proofs.Turns.{turns_done, turn_past, turn_fault, turn_ok, nodes_end, nodes_left, nodes_unopened, nodes_fault, nodes_ok, node_refused, node_so_far, modes_refused, modes_so_far, at_data}
use Rattle.reader.proofs.checks.+check_modes_check_node.Goals as goal
use Rattle.reader.proofs.checks.+check_modes_check_node.Goals.{check_node-then-counts_nodes+in_ok-check_modes, check_node-else-counts_nodes+in_ok-rows}

pub check_modes-returns-in_err-pass_fields : goal.check_modes-returns-in_err-pass_fields
check_modes-returns-in_err-pass_fields u c =
    let p = err_from_is_err_and c.from_residual.result c.from_residual.ensures.1 in
    record {
      value = p.1 ∙ ap Err p.2 ∙ modes_refused c.args.reader.now c.args.part c.args.nodes (omega arith) (omega arith) c.requires.here (omega arith) c.requires.modes.1 _ (sym c.pass_fields.ensures.value ∙ c.in_err-pass_fields.was);
      edge = search rules;
      moved = rw p.1 tt;
    }

pub check_modes-returns-in_err-node : goal.check_modes-returns-in_err-node
check_modes-returns-in_err-node u c =
    let r = c.args.reader.now in
    let t = c.args.part in
    let p = err_from_is_err_and c.from_residual-in_err-node.result c.from_residual-in_err-node.ensures.1 in
    let i = c.loop.invariant in
    let e = c.pass_fields.ensures.edge in
    let m = c.in_ok-pass_fields.ensures.moved in
    let b = modes_so_far r t c.args.nodes (omega arith) (omega arith) c.requires.here (omega arith) c.requires.modes.1 _ _ c.pass_fields.new.self c.loop.inner.reader.now
    (sym c.pass_fields.ensures.value ∙ c.in_ok-pass_fields.was) refl c.in_ok-pass_fields.ensures.moved.0 e.0 e.1 _ _ i.3 in
    record {
      value = p.1 ∙ ap Err p.2 ∙ nodes_unopened c.loop.inner.reader.now (t.level + 1) c.args.nodes t.place _ _ _ (omega arith) b _ c.open_node.new.reader c.in_err-node.ensures.found;
      edge = search rules;
      moved = rw p.1 tt;
    }

pub check_modes-returns-in_err-rows : goal.check_modes-returns-in_err-rows
check_modes-returns-in_err-rows u c =
    let r = c.args.reader.now in
    let t = c.args.part in
    let p = err_from_is_err_and c.from_residual-in_err-rows.result c.from_residual-in_err-rows.ensures.1 in
    let i = c.loop.invariant in
    let e = c.pass_fields.ensures.edge in
    let m = c.in_ok-pass_fields.ensures.moved in
    let b = modes_so_far r t c.args.nodes (omega arith) (omega arith) c.requires.here (omega arith) c.requires.modes.1 _ _ c.pass_fields.new.self c.loop.inner.reader.now
    (sym c.pass_fields.ensures.value ∙ c.in_ok-pass_fields.was) refl c.in_ok-pass_fields.ensures.moved.0 e.0 e.1 _ _ i.3 in
    record {
      value = p.1 ∙ ap Err p.2
          ∙ nodes_fault c.loop.inner.reader.now (t.level + 1) c.args.nodes t.place _ _ _ (omega arith) b c.in_ok-node.node c.open_node.new.reader c.open_node.ensures.edge c.in_ok-node.ensures.found _
          (sym c.check_node.ensures.value ∙ c.in_err-rows.was);
      edge = search rules;
      moved = rw p.1 tt;
    }

pub check_modes-loop-preserved : goal.check_modes-loop-preserved
check_modes-loop-preserved u c =
    let t = c.args.part in
    let i = c.loop.invariant in
    let f = c.in_ok-node.ensures.found in
    let v = c.in_ok-rows.ensures.moved in
    let a = c.open_node.ensures.edge in
    let b = c.check_node.ensures.edge in (
      (b.0 ∙ a.0 ∙ i.0.0, b.1 ∙ a.1 ∙ i.0.1),
      refl,
      omega (arith, f.3),
      nodes_ok c.loop.inner.reader.now (t.level + 1) c.args.nodes t.place _ _ _ (omega arith) i.3 c.in_ok-node.node c.open_node.new.reader a f _ c.check_node.new.reader _
          (sym c.check_node.ensures.value ∙ c.in_ok-rows.was) v.0 b (omega arith),
    )

pub check_modes-returns-then-inner : goal.check_modes-returns-then-inner
check_modes-returns-then-inner u c =
    let r = c.args.reader.now in
    let t = c.args.part in
    let i = c.loop.invariant in
    let e = c.pass_fields.ensures.edge in
    let m = c.in_ok-pass_fields.ensures.moved in
    let b = modes_so_far r t c.args.nodes (omega arith) (omega arith) c.requires.here (omega arith) c.requires.modes.1 _ _ c.pass_fields.new.self c.loop.inner.reader.now
    (sym c.pass_fields.ensures.value ∙ c.in_ok-pass_fields.was) refl c.in_ok-pass_fields.ensures.moved.0 e.0 e.1 _ _ i.3 in
    let l : t.level + 1 - 1 ≡ t.level = omega arith in
    record {
      value = ap (λ (x : ℕ). Err (Miscounted t.place x)) (sym l)
          ∙ nodes_left c.loop.inner.reader.now (t.level + 1) c.args.nodes t.place _ _
          (b ∙ ap (λ (x : ℕ). plus c.loop.rows (nodes_of c.loop.inner.reader.now.bytes.now x (t.level + 1) c.args.nodes t.place c.loop.inner.reader.now.at c.loop.inner.reader.now.end)) (omega arith))
          c.if-inner.true;
      edge = search rules;
      moved = tt;
    }

pub check_modes-returns : goal.check_modes-returns
check_modes-returns u c =
    let r = c.args.reader.now in
    let t = c.args.part in
    let i = c.loop.invariant in
    let e = c.pass_fields.ensures.edge in
    let m = c.in_ok-pass_fields.ensures.moved in
    let b = modes_so_far r t c.args.nodes (omega arith) (omega arith) c.requires.here (omega arith) c.requires.modes.1 _ _ c.pass_fields.new.self c.loop.inner.reader.now
    (sym c.pass_fields.ensures.value ∙ c.in_ok-pass_fields.was) refl c.in_ok-pass_fields.ensures.moved.0 e.0 e.1 _ _ i.3 in
    let there : c.drop-inner-2.new.self.0.at ≡ t.stop = c.drop-inner-2.ensures.at ∙ c.if-inner.false ∙ i.0.1 ∙ e.1 in
    record {
      value = nodes_end c.loop.inner.reader.now (t.level + 1) c.args.nodes t.place _ _
          (b ∙ ap (λ (x : ℕ). plus c.loop.rows (nodes_of c.loop.inner.reader.now.bytes.now x (t.level + 1) c.args.nodes t.place c.loop.inner.reader.now.at c.loop.inner.reader.now.end)) (omega arith))
          c.if-inner.false;
      edge = search rules;
      moved = (search rules, omega arith);
    }

pub check_node-returns-then-nodes-eq-MOST_NODES : goal.check_node-returns-then-nodes-eq-MOST_NODES
check_node-returns-then-nodes-eq-MOST_NODES u c =
    let r = c.args.reader.now in
    let t = c.args.part in
    let d = c.requires.here in
    record {
      value = sym (node_deep r.bytes.now t.kind t.level c.args.nodes t.place _ _ (omega arith) (omega arith) d.1 (omega (arith, d.2, r.within)) c.requires.node.1 (omega arith));
      edge = search rules;
      moved = tt;
    }

pub check_node-returns-in_err-pass_fields : goal.check_node-returns-in_err-pass_fields
check_node-returns-in_err-pass_fields u c =
    let p = err_from_is_err_and c.from_residual.result c.from_residual.ensures.1 in
    record {
      value = p.1 ∙ ap Err p.2 ∙ node_refused c.args.reader.now c.args.part c.args.nodes (omega arith) (omega arith) c.requires.here c.requires.node.1 (omega arith) _ (sym c.pass_fields.ensures.value ∙ c.in_err-pass_fields.was);
      edge = search rules;
      moved = rw p.1 tt;
    }

pub check_node-returns-in_err-held : goal.check_node-returns-in_err-held
check_node-returns-in_err-held u c =
    let r = c.args.reader.now in
    let t = c.args.part in
    let p = err_from_is_err_and c.from_residual-in_err-held.result c.from_residual-in_err-held.ensures.1 in
    let i = c.loop-held.invariant in
    let e = c.pass_fields.ensures.edge in
    let m = c.in_ok-pass_fields.ensures.moved in
    let b = node_so_far r t c.args.nodes (omega arith) (omega arith) c.requires.here c.requires.node.1 (omega arith) _ c.pass_fields.new.self c.loop-held.inner.reader.now
    (sym c.pass_fields.ensures.value ∙ c.in_ok-pass_fields.was) c.in_ok-pass_fields.ensures.moved.0 e.0 e.1 _ i.3 in
    record {
      value = p.1 ∙ ap Err p.2 ∙ turn_past c.loop-held.inner.reader.now Node (t.level + 1) (c.args.nodes + 1) _ _ b _ c.next_part.new.self c.in_err-held.ensures.next;
      edge = search rules;
      moved = rw p.1 tt;
    }

pub check_node-returns-in_err-check_modes : goal.check_node-returns-in_err-check_modes
check_node-returns-in_err-check_modes u c =
    let r = c.args.reader.now in
    let t = c.args.part in
    let p = err_from_is_err_and c.from_residual-in_err-check_modes.result c.from_residual-in_err-check_modes.ensures.1 in
    let i = c.loop-held.invariant in
    let e = c.pass_fields.ensures.edge in
    let m = c.in_ok-pass_fields.ensures.moved in
    let b = node_so_far r t c.args.nodes (omega arith) (omega arith) c.requires.here c.requires.node.1 (omega arith) _ c.pass_fields.new.self c.loop-held.inner.reader.now
    (sym c.pass_fields.ensures.value ∙ c.in_ok-pass_fields.was) c.in_ok-pass_fields.ensures.moved.0 e.0 e.1 _ i.3 in
    let f = rw c.in-Some.is at c.in_ok-held.ensures.next in
    record {
      value = p.1 ∙ ap Err p.2
          ∙ turn_fault c.loop-held.inner.reader.now Node (t.level + 1) (c.args.nodes + 1) _ _ b c.in-Some.held c.next_part.new.self c.next_part.ensures.edge refl f _
          (sym c.check_modes.ensures.value ∙ c.in_err-check_modes.was);
      edge = search rules;
      moved = rw p.1 tt;
    }

pub check_node-returns-in_err-rows : goal.check_node-returns-in_err-rows
check_node-returns-in_err-rows u c =
    let r = c.args.reader.now in
    let t = c.args.part in
    let p = err_from_is_err_and c.from_residual-in_err-rows.result c.from_residual-in_err-rows.ensures.1 in
    let i = c.loop-held.invariant in
    let e = c.pass_fields.ensures.edge in
    let m = c.in_ok-pass_fields.ensures.moved in
    let b = node_so_far r t c.args.nodes (omega arith) (omega arith) c.requires.here c.requires.node.1 (omega arith) _ c.pass_fields.new.self c.loop-held.inner.reader.now
    (sym c.pass_fields.ensures.value ∙ c.in_ok-pass_fields.was) c.in_ok-pass_fields.ensures.moved.0 e.0 e.1 _ i.3 in
    let f = rw c.in-Some.is at c.in_ok-held.ensures.next in
    record {
      value = p.1 ∙ ap Err p.2
          ∙ turn_fault c.loop-held.inner.reader.now Node (t.level + 1) (c.args.nodes + 1) _ _ b c.in-Some.held c.next_part.new.self c.next_part.ensures.edge refl f _
          (sym (c.check_flat.ensures.value (c.args.nodes + 1) (omega arith)) ∙ c.in_err-rows.was);
      edge = search rules;
      moved = rw p.1 tt;
    }

pub check_node-loop-held-preserved : goal.check_node-loop-held-preserved
check_node-loop-held-preserved u c =
    let t = c.args.part in
    let i = c.loop-held.invariant in
    let f = rw c.in-Some.is at c.in_ok-held.ensures.next in
    let a = c.next_part.ensures.edge in
    elim c.if-counts_nodes.branch [
      | check_node-then-counts_nodes+in_ok-check_modes w ↦
          let s : c.if-counts_nodes.inner.reader.now ≡ w.check_modes.new.reader = ap (λ (g : Within). g.reader.now) w.inner-is in
          let x : c.if-counts_nodes.inner.reader.now.at ≡ w.check_modes.new.reader.at = ap (λ (x : Reader). x.at) s in
          let v = w.in_ok-check_modes.ensures.moved in
          let k = w.check_modes.ensures.edge in
          let b : (c.if-counts_nodes.inner.reader.now.bytes.now ≡ c.next_part.new.self.bytes.now) × (c.if-counts_nodes.inner.reader.now.end ≡ c.next_part.new.self.end) = (ap (λ (x : Reader). x.bytes.now) s ∙ k.0, ap (λ (x : Reader). x.end) s ∙ k.1) in (
            (b.0 ∙ a.0 ∙ i.0.0, b.1 ∙ a.1 ∙ i.0.1),
            refl,
            omega (arith, f.1, w.rows-is),
            turn_ok c.loop-held.inner.reader.now Node (t.level + 1) (c.args.nodes + 1) _ _ i.3 c.in-Some.held c.next_part.new.self a refl f _ c.if-counts_nodes.inner.reader.now
                (sym w.check_modes.ensures.value ∙ w.in_ok-check_modes.was ∙ ap Ok (sym w.rows-is)) (x ∙ v.0) b,
          )
      | check_node-else-counts_nodes+in_ok-rows w ↦
          let s : c.if-counts_nodes.inner.reader.now ≡ w.check_flat.new.reader = ap (λ (g : Within). g.reader.now) w.inner-is in
          let x : c.if-counts_nodes.inner.reader.now.at ≡ w.check_flat.new.reader.at = ap (λ (x : Reader). x.at) s in
          let v = w.in_ok-rows.ensures.moved in
          let k = w.check_flat.ensures.edge in
          let b : (c.if-counts_nodes.inner.reader.now.bytes.now ≡ c.next_part.new.self.bytes.now) × (c.if-counts_nodes.inner.reader.now.end ≡ c.next_part.new.self.end) = (ap (λ (x : Reader). x.bytes.now) s ∙ k.0, ap (λ (x : Reader). x.end) s ∙ k.1) in (
            (b.0 ∙ a.0 ∙ i.0.0, b.1 ∙ a.1 ∙ i.0.1),
            refl,
            omega (arith, f.1, w.rows-is),
            turn_ok c.loop-held.inner.reader.now Node (t.level + 1) (c.args.nodes + 1) _ _ i.3 c.in-Some.held c.next_part.new.self a refl f _ c.if-counts_nodes.inner.reader.now
                (sym (w.check_flat.ensures.value (c.args.nodes + 1) (omega arith)) ∙ w.in_ok-rows.was ∙ ap Ok (sym w.rows-is)) (x ∙ v.0) b,
          )
    ]

pub check_node-returns : goal.check_node-returns
check_node-returns u c =
    let r = c.args.reader.now in
    let t = c.args.part in
    let i = c.loop-held.invariant in
    let e = c.pass_fields.ensures.edge in
    let m = c.in_ok-pass_fields.ensures.moved in
    let b = node_so_far r t c.args.nodes (omega arith) (omega arith) c.requires.here c.requires.node.1 (omega arith) _ c.pass_fields.new.self c.loop-held.inner.reader.now
    (sym c.pass_fields.ensures.value ∙ c.in_ok-pass_fields.was) c.in_ok-pass_fields.ensures.moved.0 e.0 e.1 _ i.3 in
    let f = rw c.in_default.is at c.in_ok-held.ensures.next in
    let there : c.drop-inner-2.new.self.0.at ≡ t.stop = c.drop-inner-2.ensures.at ∙ f.0 ∙ i.0.1 ∙ e.1 in
    record {
      value = turns_done c.loop-held.inner.reader.now Node (t.level + 1) (c.args.nodes + 1) _ _ b c.next_part.new.self f;
      edge = search rules;
      moved = (search rules, omega (arith, i.0.1, c.loop-held.inner.reader.now.order));
    }

pub check_node-check_flat-requires : goal.check_node-check_flat-requires
check_node-check_flat-requires u c =
    let f = rw c.in-Some.is at c.in_ok-held.ensures.next in
    let r = c.loop-held.inner.reader.now in
    let held = c.in-Some.held in
    let id = get_or r.bytes.now held.place 0 in
    let k : kind_at Node id ≡ held.kind = f.0.1 in
    let z : 0 < held.kind = f.0.2 in
    let plain : is_count (layout held.kind).fields ≡ false = ap (λ (l : Layout). is_count l.fields) (sym c.layout_of.ensures) ∙ sym c.if-counts_nodes.ensures in
    record {
      here = at_data r.bytes.now Node (c.args.part.level + 1) held.place r c.next_part.new.self held c.next_part.ensures.edge f.0;
      levels = (omega (arith, f.0.7), omega (arith, f.0.7));
      flat = (z, subst (λ (x : ℕ). leafy (layout x).inside ≡ true) k (node_leafy id (omega arith) (subst (λ (x : ℕ). is_count (layout x).fields ≡ false) (sym k) plain)));
    }
