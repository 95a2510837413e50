-- The reading of a container by offset: its rows, or the first fault.
use Rattle.std.specs.Prelude.{ℕ, zero, suc, ◌+◌, ◌-◌, ◌*◌, ◌^◌, Bool, true, false, not, ◌&&◌, ◌||◌, List, [], ◌∷◌, ◌++◌, length, take, drop, ℤ, pos, negsuc, Some, None, Ok, Err, Option, Result, ◌==◌, nat_lt, slice_index}
use Rattle.grammar.specs.declared.table.Spot.TheVariants.{Descriptions, Node, Reference, Place, Modes, Associated, Nowhere}
use Rattle.grammar.specs.declared.table.Spot.{Spot}
use Rattle.grammar.specs.declared.table.Fields.{Fields}
use Rattle.grammar.specs.declared.table.Fields.TheVariants.{Nothing, Code, Text, Globe, Floor, Count, Radius, Height}
use Rattle.grammar.specs.Format.{width, layout, kind_at}
use Rattle.grammar.specs.declared.fault.ReadFault.{ReadFault}
use Rattle.grammar.specs.declared.fault.ReadFault.TheVariants.{TooLong, Empty, PastEnd, WrongSize, SecondDescriptions, SecondLanguage, OffGlobe, Miscounted, TooDeep}
use Rattle.grammar.specs.Grammar.{Row, deeper}

-- What a reading gives: a value, or the first fault.
abbrev pub Read : Type 0 → Type 0
Read X = Result X ReadFault

-- What a definition by turns gives where no turn is left. None runs out: there are more turns than bytes.
abbrev pub stuck : {X : Type 0} → Read X
stuck = Err Empty

abbrev pub then : {X Y : Type 0} → Read X → (X → Read Y) → Read Y
then (Ok x) f = f x
then (Err e) f = Err e

abbrev pub if : {X : Type 0} → Bool → (Unit {0} → X) → (Unit {0} → X) → X
if true x y = x tt
if false x y = y tt

-- The language of a text while it is read: none until a language part is met.
abbrev pub Spoken : Type 0
Spoken = Option ℕ

abbrev pub heard : Spoken → Bool
heard None = false
heard (Some l) = true

abbrev pub or_else : ℕ → Spoken → ℕ
or_else d None = d
or_else d (Some l) = l

abbrev pub beyond : ℕ → ℤ → Bool
beyond m (pos x) = nat_lt m x
beyond m (negsuc x) = nat_lt m (suc x)

abbrev pub is_text : Fields → Bool
is_text Nothing = false
is_text Code = false
is_text Text = true
is_text Globe = false
is_text Floor = false
is_text Count = false
is_text Radius = false
is_text Height = false

abbrev pub is_count : Fields → Bool
is_count Nothing = false
is_count Code = false
is_count Text = false
is_count Globe = false
is_count Floor = false
is_count Count = true
is_count Radius = false
is_count Height = false

abbrev pub closed : Spot → Bool
closed Descriptions = false
closed Node = false
closed Reference = false
closed Place = false
closed Modes = false
closed Associated = false
closed Nowhere = true

-- where exactly as many components stand as are counted
abbrev pub counted : Spot → Bool
counted Descriptions = false
counted Node = false
counted Reference = false
counted Place = false
counted Modes = false
counted Associated = true
counted Nowhere = false

-- where nothing unknown is passed over
abbrev pub sealed : Spot → Bool
sealed Descriptions = false
sealed Node = false
sealed Reference = false
sealed Place = false
sealed Modes = false
sealed Associated = true
sealed Nowhere = true

abbrev pub empty : List ℕ → Bool
empty [] = true
empty (x ∷ xs) = false

-- c components are still to come, and these bytes are left
abbrev pub miscounted : Bool → ℕ → List ℕ → Bool
miscounted false c bs = false
miscounted true zero [] = false
miscounted true zero (x ∷ xs) = true
miscounted true (suc c) [] = true
miscounted true (suc c) (x ∷ xs) = false

-- the number that these bytes are, the highest first
abbrev pub value : List ℕ → ℕ
value [] = 0
value (x ∷ xs) = x * 256 ^ length xs + value xs

-- the number in the first n bytes
abbrev pub number : ℕ → List ℕ → ℕ
number n bs = value (take n bs)

-- the same, by two's complement
abbrev pub signed : ℕ → List ℕ → ℤ
signed n bs = if (nat_lt (number n bs * 2) (256 ^ n)) (λ _. pos (number n bs)) (λ _. negsuc (256 ^ n - suc (number n bs)))

-- A component cut off the bytes of its holder.
pub record Piece : Type 0 where
  pub id : ℕ
  pub body : List ℕ
  pub rest : List ℕ

-- the first component of these bytes, whose length takes w bytes, if its header and data keep to them
abbrev pub cut : ℕ → ℕ → ℕ → List ℕ → Read Piece
cut w level at [] = Err (PastEnd at level)
cut w level at (x ∷ xs) =
    if (nat_lt (length xs) w) (λ _. Err (PastEnd at level))
    (λ _. if (nat_lt (length (drop w xs)) (number w xs)) (λ _. Err (PastEnd at level))
    (λ _. Ok (record { id = x; body = take (number w xs) (drop w xs); rest = drop (number w xs) (drop w xs) })))

-- the least bytes of the fixed fields
abbrev pub least : Fields → List ℕ → ℕ
least Nothing bs = 0
least Code bs = 1
least Text bs = suc (slice_index bs 0)
least Globe bs = 8
least Floor bs = 1
least Count bs = 1
least Radius bs = 2
least Height bs = 3

abbrev pub first_number : Fields → List ℕ → ℤ
first_number Nothing bs = pos 0
first_number Code bs = pos (number 1 bs)
first_number Text bs = pos 0
first_number Globe bs = signed 4 bs
first_number Floor bs = signed 1 bs
first_number Count bs = pos 0
first_number Radius bs = pos (number 2 bs)
first_number Height bs = pos (number 1 bs)

abbrev pub second_number : Fields → List ℕ → ℤ
second_number Nothing bs = pos 0
second_number Code bs = pos 0
second_number Text bs = pos 0
second_number Globe bs = signed 4 (drop 4 bs)
second_number Floor bs = pos 0
second_number Count bs = pos 0
second_number Radius bs = pos 0
second_number Height bs = signed 2 (drop 1 bs)

abbrev pub off_globe : Fields → List ℕ → Bool
off_globe Nothing bs = false
off_globe Code bs = false
off_globe Text bs = false
off_globe Globe bs = beyond 18000000 (signed 4 bs) || beyond 9000000 (signed 4 (drop 4 bs))
off_globe Floor bs = false
off_globe Count bs = false
off_globe Radius bs = false
off_globe Height bs = false

-- a text's own components: the language told, if any
abbrev pub tail : ℕ → ℕ → Spoken → ℕ → List ℕ → Read Spoken
tail zero level l at bs = stuck
tail (suc f) level l at bs =
    if (empty bs) (λ _. Ok l)
    (λ _. then (cut 1 level at bs)
    (λ p. if (not (p.id == 0)) (λ _. tail f level l (at + 2 + length p.body) p.rest)
    (λ _. if (heard l) (λ _. Err (SecondLanguage at level))
    (λ _. if (not (length p.body == 1)) (λ _. Err (WrongSize at level))
    (λ _. tail f level (Some (slice_index p.body 0)) (at + 3) p.rest)))))

-- What reads the parts of a holder: their spot, the holder's place, how many are counted, their depth and level,
-- the nodes they are inside, their place and their bytes.
abbrev pub Reader : Type 0
Reader = Spot → ℕ → ℕ → ℕ → ℕ → ℕ → ℕ → List ℕ → Read (List Row)

module _ (default : ℕ) where
  -- a text's component
  abbrev pub name : (k depth level from : ℕ) → List ℕ → Read (List Row)
  name k depth level from body =
      then (tail (suc (length body)) (suc level) None (from + suc (slice_index body 0)) (drop (suc (slice_index body 0)) body))
      (λ l. Ok (record { depth = depth; kind = k; a = pos 0; b = pos 0; language = or_else default l; text = take (slice_index body 0) (drop 1 body) } ∷ []))

  -- a component with these fields, whose parts stand at this spot
  abbrev pub component : Reader → Fields → Spot → (k depth level n at from : ℕ) → List ℕ → Read (List Row)
  component read f inside k depth level n at from body =
      if (nat_lt 8 (deeper inside n)) (λ _. Err (TooDeep at level))
      (λ _. if (nat_lt (length body) (least f body)) (λ _. Err (WrongSize at level))
      (λ _. if ((closed inside && not (is_text f)) && not (length body == least f body)) (λ _. Err (WrongSize at level))
      (λ _. if (off_globe f body) (λ _. Err (OffGlobe at level))
      (λ _. if (is_text f) (λ _. name k depth level from body)
      (λ _. then (read inside at (slice_index body 0) (suc depth) (suc level) (deeper inside n) (from + least f body) (drop (least f body) body))
      (λ inner. Ok (record { depth = depth; kind = k; a = first_number f body; b = second_number f body; language = 0; text = [] } ∷ inner)))))))

  -- the component of kind k; kind 0 is passed over
  abbrev pub of_kind : Reader → (k depth level n at from : ℕ) → List ℕ → Read (List Row)
  of_kind read k depth level n at from body =
      if (k == 0) (λ _. Ok []) (λ _. component read (layout k).fields (layout k).inside k depth level n at from body)

  -- the parts, by at most so many turns
  abbrev pub parts : ℕ → Reader
  parts zero s own c depth level n at bs = stuck
  parts (suc f) s own c depth level n at bs =
      if (miscounted (counted s) c bs) (λ _. Err (Miscounted own (level - 1)))
      (λ _. if (empty bs) (λ _. Ok [])
      (λ _. then (cut (width s) level at bs)
      (λ p. if (sealed s && kind_at s p.id == 0) (λ _. Err (Miscounted own (level - 1)))
      (λ _. then (of_kind (parts f) (kind_at s p.id) depth level n at (at + suc (width s)) p.body)
      (λ rows. then (parts f s own (c - 1) depth level n (at + suc (width s) + length p.body) p.rest)
      (λ more. Ok (rows ++ more)))))))

  -- the container's components
  abbrev pub tops : ℕ → Bool → ℕ → List ℕ → Read (List Row)
  tops zero seen at bs = stuck
  tops (suc f) seen at bs =
      if (empty bs) (λ _. Ok [])
      (λ _. then (cut 2 0 at bs)
      (λ p. if (not (p.id == 1)) (λ _. tops f seen (at + 3 + length p.body) p.rest)
      (λ _. if seen (λ _. Err (SecondDescriptions at))
      (λ _. then (parts (suc (length p.body)) Descriptions at 0 0 1 0 (at + 3) p.body)
      (λ rows. then (tops f true (at + 3 + length p.body) p.rest) (λ more. Ok (rows ++ more)))))))

abbrev pub reading : List ℕ → Read (List Row)
reading [] = Err Empty
reading (d ∷ bs) =
    if (nat_lt 65535 (length (d ∷ bs))) (λ _. Err TooLong)
    (λ _. tops d (suc (length bs)) false 1 bs)
