-- The rows that are open on a draft.
use Rattle.std.specs.Prelude.{ℕ, Bool, true, ◌&&◌, List, [], ◌∷◌, reverse, nat_le}
use Rattle.grammar.specs.Format.{layout}
use Rattle.grammar.specs.Grammar.{deeper}
use Rattle.grammar.specs.Sheet.{may_stand, is_opened, nodes_open}
use Rattle.sheet.specs.declared.opened.Opened.{Opened}

-- the kinds of the open rows, the innermost first
abbrev pub kinds_open : Opened → List ℕ
kinds_open o = reverse o.kinds.items

-- each may stand in the one around it, holds parts, and is inside eight nodes at most
abbrev pub standing : List ℕ → Bool
standing [] = true
standing (k ∷ ks) = (is_opened k && may_stand ks k) && (nat_le (deeper (layout k).inside (nodes_open ks)) 8 && standing ks)
