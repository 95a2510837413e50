use Rattle.std.proofs.Common.{◌≡◌, ℕ, Bor, List, Option, Some, None, get_or, ap, ◌∙◌, arith}
use Rattle.std.specs.Option.{unwrap_or}
use Rattle.std.specs.Slice.{IsItemAt}
use Rattle.grammar.specs.declared.table.Layout.{Layout}
use Rattle.grammar.specs.Format.{layout, table}
use Rattle.grammar.proofs.table.layout_of.Goals as goal

-- what stands behind the reference that is taken
behind : (ls : List Layout) (k : ℕ) (o : Option (Bor Layout)) (b : Bor Layout) → IsItemAt ls k o → (unwrap_or o b).now ≡ get_or ls k b.now
behind ls k None b h = h.4 (omega arith) b.now
behind ls k (Some r) b h = h.4 (omega arith) b.now

pub returns : goal.returns
returns c =
    ap (λ (b : Bor Layout). b.now) c.unwrap_or.ensures ∙ behind table c.from.result c.get.result _ c.get.ensures.lookup ∙ ap (λ (k : ℕ). layout k) c.from.ensures
