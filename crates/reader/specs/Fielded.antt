-- Where a component's fixed fields end, test by test.
use Rattle.std.specs.Prelude.{ℕ, ◌+◌, not, ◌&&◌, List, Some, None, Option, ◌==◌, nat_lt}
use Rattle.grammar.specs.declared.table.Layout.{Layout}
use Rattle.grammar.specs.Reading.{if}
use Rattle.grammar.specs.Offsets as O

-- where they end, if they fit, and leave nothing over where nothing may follow
abbrev pub fields_end : List ℕ → Layout → (from to : ℕ) → Option ℕ
fields_end bs l from to =
    if (nat_lt to (from + O.least bs l.fields from)) (λ _. None)
    (λ _. if (O.ends_there l && not (to == from + O.least bs l.fields from)) (λ _. None)
    (λ _. Some (from + O.least bs l.fields from)))
