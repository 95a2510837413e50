-- The same reading by offset, as a program goes about it.
use Rattle.std.specs.Prelude.{ℕ, zero, suc, ◌+◌, ◌-◌, ◌*◌, ◌^◌, Bool, true, false, not, ◌&&◌, ◌||◌, List, [], ◌∷◌, ◌++◌, length, take, drop, ℤ, pos, negsuc, Some, None, Ok, Err, ◌==◌, nat_le, nat_lt, slice_index}
use Rattle.grammar.specs.declared.table.Spot.TheVariants.{Descriptions}
use Rattle.grammar.specs.declared.table.Spot.{Spot}
use Rattle.grammar.specs.declared.table.Fields.{Fields}
use Rattle.grammar.specs.declared.table.Fields.TheVariants.{Nothing, Code, Text, Globe, Floor, Count, Radius, Height}
use Rattle.grammar.specs.declared.table.Layout.{Layout}
use Rattle.grammar.specs.Format.{width, layout, kind_at}
use Rattle.grammar.specs.declared.fault.ReadFault.TheVariants.{TooLong, Empty, PastEnd, WrongSize, SecondDescriptions, SecondLanguage, OffGlobe, Miscounted, TooDeep}
use Rattle.grammar.specs.Grammar.{Row, deeper}
use Rattle.grammar.specs.Reading.{Read, then, if, Spoken, heard, or_else, beyond, is_text, is_count, closed}

abbrev pub ends_there : Layout → Bool
ends_there l = closed l.inside && not (is_text l.fields)

module _ (bs : List ℕ) where
  -- the number in the n bytes at i
  abbrev pub value : ℕ → ℕ → ℕ
  value i zero = 0
  value i (suc n) = slice_index bs i * 256 ^ n + value (suc i) n

  -- the same, by two's complement
  abbrev pub signed : ℕ → ℕ → ℤ
  signed i n = if (nat_lt (value i n * 2) (256 ^ n)) (λ _. pos (value i n)) (λ _. negsuc (256 ^ n - suc (value i n)))

  -- the end of the component at `at`, if its header and data keep to the holder's end
  abbrev pub ends : ℕ → ℕ → ℕ → ℕ → Read ℕ
  ends w level at end =
      if (nat_lt end (at + suc w)) (λ _. Err (PastEnd at level))
      (λ _. if (nat_lt end (at + suc w + value (suc at) w)) (λ _. Err (PastEnd at level)) (λ _. Ok (at + suc w + value (suc at) w)))

  -- the least bytes of the fixed fields
  abbrev pub least : Fields → ℕ → ℕ
  least Nothing i = 0
  least Code i = 1
  least Text i = 1 + slice_index bs i
  least Globe i = 8
  least Floor i = 1
  least Count i = 1
  least Radius i = 2
  least Height i = 3

  abbrev pub first_number : Fields → ℕ → ℤ
  first_number Nothing i = pos 0
  first_number Code i = pos (value i 1)
  first_number Text i = pos 0
  first_number Globe i = signed i 4
  first_number Floor i = signed i 1
  first_number Count i = pos 0
  first_number Radius i = pos (value i 2)
  first_number Height i = pos (value i 1)

  abbrev pub second_number : Fields → ℕ → ℤ
  second_number Nothing i = pos 0
  second_number Code i = pos 0
  second_number Text i = pos 0
  second_number Globe i = signed (i + 4) 4
  second_number Floor i = pos 0
  second_number Count i = pos 0
  second_number Radius i = pos 0
  second_number Height i = signed (i + 1) 2

  abbrev pub off_globe : Fields → ℕ → Bool
  off_globe Nothing i = false
  off_globe Code i = false
  off_globe Text i = false
  off_globe Globe i = beyond 18000000 (signed i 4) || beyond 9000000 (signed (i + 4) 4)
  off_globe Floor i = false
  off_globe Count i = false
  off_globe Radius i = false
  off_globe Height i = false

  -- a text's own components: the language told, if any
  abbrev pub tail : ℕ → ℕ → Spoken → ℕ → ℕ → Read Spoken
  tail zero level l at end = Ok l
  tail (suc f) level l at end =
      if (nat_le end at) (λ _. Ok l)
      (λ _. then (ends 1 level at end)
      (λ to. if (not (slice_index bs at == 0)) (λ _. tail f level l to end)
      (λ _. if (heard l) (λ _. Err (SecondLanguage at level))
      (λ _. if (not (to == at + 3)) (λ _. Err (WrongSize at level))
      (λ _. tail f level (Some (slice_index bs (at + 2))) to end)))))

  module _ (default : ℕ) where
    abbrev mutual
      -- the parts from `at` to `end`, which stand at s, at this depth and level, inside n nodes
      pub parts : ℕ → Spot → ℕ → ℕ → ℕ → ℕ → ℕ → Read (List Row)
      parts zero s depth level n at end = Ok []
      parts (suc f) s depth level n at end =
          if (nat_le end at) (λ _. Ok [])
          (λ _. then (ends (width s) level at end)
          (λ to. then (component f (kind_at s (slice_index bs at)) depth level n at (at + suc (width s)) to)
          (λ rows. then (parts f s depth level n to end) (λ more. Ok (rows ++ more)))))

      -- the component of kind k at `at`, whose data go from `from` to `to`; kind 0 is passed over
      pub component : ℕ → ℕ → ℕ → ℕ → ℕ → ℕ → ℕ → ℕ → Read (List Row)
      component zero k depth level n at from to = Ok []
      component (suc f) k depth level n at from to =
          if (k == 0) (λ _. Ok [])
          (λ _. if (nat_lt 8 (deeper (layout k).inside n)) (λ _. Err (TooDeep at level))
          (λ _. if (nat_lt to (from + least (layout k).fields from)) (λ _. Err (WrongSize at level))
          (λ _. if (ends_there (layout k) && not (to == from + least (layout k).fields from)) (λ _. Err (WrongSize at level))
          (λ _. if (off_globe (layout k).fields from) (λ _. Err (OffGlobe at level))
          (λ _. if (is_text (layout k).fields)
          (λ _. then (tail f (suc level) None (from + least Text from) to)
          (λ l. Ok (record { depth = depth; kind = k; a = pos 0; b = pos 0; language = or_else default l; text = take (slice_index bs from) (drop (suc from) bs) } ∷ [])))
          (λ _. then
          (if (is_count (layout k).fields)
          (λ _. nodes f (slice_index bs from) (suc depth) (suc level) n at (from + 1) to)
          (λ _. parts f (layout k).inside (suc depth) (suc level) (deeper (layout k).inside n) (from + least (layout k).fields from) to))
          (λ inner. Ok (record { depth = depth; kind = k; a = first_number (layout k).fields from; b = second_number (layout k).fields from; language = 0; text = [] } ∷ inner))))))))

      -- exactly c nodes from `at` to `end`, in the associated modes at `own`
      pub nodes : ℕ → ℕ → ℕ → ℕ → ℕ → ℕ → ℕ → ℕ → Read (List Row)
      nodes zero c depth level n own at end = Ok []
      nodes (suc f) c depth level n own at end =
          if (c == 0) (λ _. if (at == end) (λ _. Ok []) (λ _. Err (Miscounted own (level - 1))))
          (λ _. if (nat_le end at) (λ _. Err (Miscounted own (level - 1)))
          (λ _. then (ends 2 level at end)
          (λ to. if (not (slice_index bs at == 2)) (λ _. Err (Miscounted own (level - 1)))
          (λ _. then (component f 1 depth level n at (at + 3) to)
          (λ rows. then (nodes f (c - 1) depth level n own to end) (λ more. Ok (rows ++ more)))))))

    -- the container's components
    abbrev pub tops : ℕ → Bool → ℕ → Read (List Row)
    tops zero seen at = Ok []
    tops (suc f) seen at =
        if (nat_le (length bs) at) (λ _. Ok [])
        (λ _. then (ends 2 0 at (length bs))
        (λ to. if (not (slice_index bs at == 1)) (λ _. tops f seen to)
        (λ _. if seen (λ _. Err (SecondDescriptions at))
        (λ _. then (parts (2 * length bs) Descriptions 0 1 0 (at + 3) to)
        (λ rows. then (tops f true to) (λ more. Ok (rows ++ more)))))))

  abbrev pub reading : Read (List Row)
  reading =
      if (nat_lt 65535 (length bs)) (λ _. Err TooLong)
      (λ _. if (length bs == 0) (λ _. Err Empty)
      (λ _. tops (slice_index bs 0) (length bs) false 1))
