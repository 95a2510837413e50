-- What stands at a place of a container, by its bytes alone: every place and every end has an answer.
use Rattle.std.specs.Prelude.{ℕ, suc, ◌+◌, List, length, Option, Some, None, ◌==◌, nat_le, nat_lt, slice_index}
use Rattle.std.specs.Option.{option_map}
use Rattle.grammar.specs.declared.table.Spot.{Spot}
use Rattle.grammar.specs.Format.{width, layout, kind_at}
use Rattle.grammar.specs.Reading.{Spoken, if}
use Rattle.grammar.specs.Offsets as O
use Rattle.grammar.specs.Checks.{tail_of}
use Rattle.grammar.specs.Walk.{read_or}
use Rattle.reader.specs.declared.standings.Component.{Component}
use Rattle.reader.specs.declared.standings.Standing.{Standing}
use Rattle.reader.specs.declared.standings.Standing.TheVariants.{Known, Unknown}

module _ (bs : List ℕ) where
  -- the component of kind k whose data go from `from` to `to`, if its fixed fields keep to it and are on the globe
  abbrev pub known_at : (k from to : ℕ) → Option Component
  known_at k from to =
      if (nat_lt to (from + O.least bs (layout k).fields from)) (λ _. None)
      (λ _. if (O.off_globe bs (layout k).fields from) (λ _. None)
      (λ _. Some (record { kind = k; from = from; inside = from + O.least bs (layout k).fields from; stop = to })))

  -- what stands at `at` in a holder at whose end, `end`, the bytes may not have ended yet
  unfoldable pub stands_at : Spot → (at end : ℕ) → Option Standing
  stands_at s at end =
      if (nat_lt (length bs) end) (λ _. None)
      (λ _. if (nat_le end at) (λ _. None)
      (λ _. read_or (O.ends bs (width s) 0 at end) None
      (λ to. if (kind_at s (slice_index bs at) == 0) (λ _. Some (Unknown to))
      (λ _. option_map Known (known_at (kind_at s (slice_index bs at)) (at + suc (width s)) to)))))

  -- the language of a text's components from `from` to `to`: none where they are faulty, too
  unfoldable pub language_in : (from to : ℕ) → Spoken
  language_in from to = if (nat_lt (length bs) to) (λ _. None) (λ _. read_or (tail_of bs 0 None from to) None (λ l. l))
