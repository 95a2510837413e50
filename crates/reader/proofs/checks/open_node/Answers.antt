use Rattle.std.proofs.Common.{ℕ, ◌-◌, ◌<◌, ◌≤◌, get_or, Some, None, Ok, Err, Option, Result, sym, ap, ◌∙◌, subst, arith, rules}
use Rattle.std.proofs.lemmas.Result.{err_from_is_err_and}
use Rattle.std.specs.Option.{ok_or}
use Rattle.grammar.specs.declared.fault.ReadFault.{ReadFault}
use Rattle.grammar.specs.declared.fault.ReadFault.TheVariants.{Miscounted}
use Rattle.grammar.specs.declared.table.Spot.TheVariants.{Associated}
use Rattle.grammar.proofs.Steps.{nodes_few, nodes_past, nodes_other, none_but_nodes}
use Rattle.reader.specs.Opened.{Opened, OpenedNode}
use Rattle.reader.specs.declared.edge.Reader.{Reader}
use Rattle.reader.specs.declared.parts.Part.{Part}
use Rattle.reader.proofs.checks.open_node.Goals as goal

-- an unknown component is no node
opened_node : (r : Reader) (level own : ℕ) → 1 ≤ level → r.at < r.end → (o : Option Part) (after : Reader) → Opened r.bytes.now Associated level r.at r.end (Ok o) after
    → OpenedNode r.bytes.now Associated level own r.at r.end (ok_or o (Miscounted own (level - 1))) after
opened_node r level own h k None after f =
    λ m n some. nodes_other r.bytes.now level n own r.at r.end m some k r.within _ f.0 (none_but_nodes (get_or r.bytes.now r.at 0) f.1)
opened_node r level own h k (Some p) after f = f

pub returns-then-reader : goal.returns-then-reader
returns-then-reader c =
    record {
      edge = search rules;
      found = λ m n some. nodes_few c.args.reader.now.bytes.now c.args.level n c.args.place _ _ m some (omega arith);
    }

pub returns-in_err-open_part : goal.returns-in_err-open_part
returns-in_err-open_part c =
    let p = err_from_is_err_and c.from_residual.result c.from_residual.ensures.1 in
    let r = c.args.reader.now in
    record {
      edge = search rules;
      found = subst (λ (x : Result Part ReadFault). OpenedNode r.bytes.now Associated c.args.level c.args.place r.at r.end x c.open_part.new.self)
          (sym (p.1 ∙ ap Err p.2))
          (λ m n some. nodes_past r.bytes.now c.args.level n c.args.place _ _ m some (omega arith) r.within _ c.in_err-open_part.ensures.found);
    }

pub returns : goal.returns
returns c =
    let r = c.args.reader.now in
    record {
      edge = search rules;
      found = subst (λ (x : Result Part ReadFault). OpenedNode r.bytes.now Associated c.args.level c.args.place r.at r.end x c.open_part.new.self)
          (sym c.ok_or.ensures.value)
          (opened_node r c.args.level c.args.place c.requires.levels (omega arith) c.in_ok-open_part.field-0 c.open_part.new.self c.in_ok-open_part.ensures.found);
    }
