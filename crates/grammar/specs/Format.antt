-- The one table of kinds, and how numbers, headers and fixed fields are laid out.
use Rattle.std.specs.Prelude.{◌≡◌, ℕ, zero, suc, ◌+◌, ◌-◌, ◌/◌, ◌%◌, ◌^◌, ◌<◌, ◌≤◌, min, Bool, true, false, ◌&&◌, List, [], ◌∷◌, ◌++◌, ℤ, pos, negsuc, Some, None, Option, ◌==◌, nat_le, nat_lt, slice_index_or}
use Rattle.grammar.specs.declared.table.Spot.{Spot}
use Rattle.grammar.specs.declared.table.Spot.TheVariants.{Descriptions, Node, Reference, Place, Modes, Associated, Nowhere}
use Rattle.grammar.specs.declared.table.Fields.{Fields}
use Rattle.grammar.specs.declared.table.Fields.TheVariants.{Nothing, Code, Text, Globe, Floor, Count, Radius, Height}
use Rattle.grammar.specs.declared.table.Layout.{Layout}

-- The bytes of a component's length at a spot; an unknown component's is as wide as the others' there.
abbrev pub width : Spot → ℕ
width Descriptions = 2
width Node = 2
width Reference = 1
width Place = 1
width Modes = 1
width Associated = 2
width Nowhere = 1

-- The bytes that the fields take at least: a text has one for its length.
abbrev pub fixed_bytes : Fields → ℕ
fixed_bytes Nothing = 0
fixed_bytes Code = 1
fixed_bytes Text = 1
fixed_bytes Globe = 8
fixed_bytes Floor = 1
fixed_bytes Count = 1
fixed_bytes Radius = 2
fixed_bytes Height = 3

abbrev pub blank : Layout
blank = record { holder = Nowhere; again = Nowhere; id = 0; width = 1; fields = Nothing; fixed = 0; inside = Nowhere }

abbrev line : Spot → ℕ → ℕ → Fields → ℕ → Spot → Layout
line s i w f n p = record { holder = s; again = Nowhere; id = i; width = w; fields = f; fixed = n; inside = p }

-- a node stands among the descriptions, and again in associated modes
abbrev node_line : Layout
node_line = record { holder = Descriptions; again = Associated; id = 2; width = 2; fields = Code; fixed = 1; inside = Node }

-- The table, by kind from 0; the lines of kinds that there are not are blank.
abbrev pub table : List Layout
table =
    blank ∷ node_line ∷ line Node 0 2 Text 1 Nowhere ∷ line Node 1 2 Nothing 0 Reference ∷ line Node 2 2 Globe 8 Place
    ∷ line Node 3 2 Floor 1 Nowhere ∷ line Node 4 2 Nothing 0 Modes ∷ line Node 5 2 Count 1 Associated ∷ line Place 0 1 Radius 2 Nowhere
    ∷ line Place 1 1 Height 3 Nowhere ∷ line Modes 0 1 Code 1 Nowhere ∷ blank ∷ blank ∷ blank ∷ blank ∷ blank
    ∷ line Reference 0 1 Code 1 Nowhere ∷ line Reference 1 1 Code 1 Nowhere ∷ line Reference 2 1 Code 1 Nowhere ∷ line Reference 3 1 Code 1 Nowhere
    ∷ line Reference 4 1 Code 1 Nowhere ∷ line Reference 5 1 Code 1 Nowhere ∷ line Reference 6 1 Code 1 Nowhere ∷ line Reference 7 1 Code 1 Nowhere
    ∷ line Reference 8 1 Code 1 Nowhere ∷ line Reference 9 1 Code 1 Nowhere ∷ line Reference 10 1 Code 1 Nowhere ∷ line Reference 11 1 Text 1 Nowhere
    ∷ []

abbrev pub layout : ℕ → Layout
layout k = slice_index_or table k blank

-- A number in n bytes, the highest first.
abbrev pub big : ℕ → ℕ → List ℕ
big zero x = []
big (suc n) x = (x / 256 ^ n) % 256 ∷ big n x

-- A signed number in n bytes, by two's complement.
abbrev pub twos : ℕ → ℤ → List ℕ
twos n (pos x) = big n x
twos n (negsuc x) = big n (256 ^ n - suc x)

abbrev pub size : ℤ → ℕ
size (pos x) = x
size (negsuc x) = suc x

abbrev pub natural : ℤ → ℕ
natural (pos x) = x
natural (negsuc x) = 0

abbrev pub header : Spot → ℕ → ℕ → List ℕ
header s id n = id ∷ big (width s) n

-- The bytes of the fixed fields: a and b are the numbers told, n is how many parts follow.
abbrev pub fixed : Fields → ℤ → ℤ → ℕ → List ℕ
fixed Nothing a b n = []
fixed Code a b n = big 1 (natural a)
fixed Text a b n = []
fixed Globe a b n = twos 4 a ++ twos 4 b
fixed Floor a b n = twos 1 a
fixed Count a b n = big 1 n
fixed Radius a b n = big 2 (natural a)
fixed Height a b n = big 1 (natural a) ++ twos 2 b

abbrev pub NoneTold : ℤ → Type 0
NoneTold z = z ≡ pos 0

-- z is a number from 0 to below m
abbrev pub UpTo : ℕ → ℤ → Type 0
UpTo m (pos x) = x < m
UpTo m (negsuc x) = ⊥

-- z is at least -m and at most n
abbrev pub Between : ℕ → ℕ → ℤ → Type 0
Between m n (pos x) = x ≤ n
Between m n (negsuc x) = suc x ≤ m

-- The numbers that the fields can hold, and how many parts may follow.
abbrev pub Fit : Fields → ℤ → ℤ → ℕ → Type 0
Fit Nothing a b n = (a ≡ pos 0) × (b ≡ pos 0)
Fit Code a b n = UpTo 256 a × (b ≡ pos 0)
Fit Text a b n = ⊥
Fit Globe a b n = Between 18000000 18000000 a × Between 9000000 9000000 b
Fit Floor a b n = Between 128 127 a × (b ≡ pos 0)
Fit Count a b n = (a ≡ pos 0) × (b ≡ pos 0) × (n < 256)
Fit Radius a b n = UpTo 65536 a × (b ≡ pos 0)
Fit Height a b n = UpTo 256 a × Between 32768 32767 b

-- The look-up by spot and identifier: the kind, or 0 where the identifier is unknown there.
abbrev pub kind_at : Spot → ℕ → ℕ
kind_at Descriptions i = elim (i == 2) [ true ↦ 1 | false ↦ 0 ]
kind_at Node i = elim (nat_lt i 6) [ true ↦ 2 + i | false ↦ 0 ]
kind_at Reference i = elim (nat_lt i 12) [ true ↦ 16 + i | false ↦ 0 ]
kind_at Place i = elim (nat_lt i 2) [ true ↦ 8 + i | false ↦ 0 ]
kind_at Modes i = elim (i == 0) [ true ↦ 10 | false ↦ 0 ]
kind_at Associated i = elim (i == 2) [ true ↦ 1 | false ↦ 0 ]
kind_at Nowhere i = 0

-- The kind that a look-up found, if any.
abbrev pub some_kind : ℕ → Option ℕ
some_kind zero = None
some_kind (suc k) = Some (suc k)

-- The same as a test.
abbrev pub is_zero : ℤ → Bool
is_zero (pos x) = x == 0
is_zero (negsuc x) = false

abbrev pub below : ℕ → ℤ → Bool
below m (pos x) = nat_lt x m
below m (negsuc x) = false

abbrev pub ranges : ℕ → ℕ → ℤ → Bool
ranges m n (pos x) = nat_le x n
ranges m n (negsuc x) = nat_le (suc x) m

abbrev pub fits : Fields → ℤ → ℤ → Bool
fits Nothing a b = is_zero a && is_zero b
fits Code a b = below 256 a && is_zero b
fits Text a b = false
fits Globe a b = ranges 18000000 18000000 a && ranges 9000000 9000000 b
fits Floor a b = ranges 128 127 a && is_zero b
fits Count a b = is_zero a && is_zero b
fits Radius a b = below 65536 a && is_zero b
fits Height a b = below 256 a && ranges 32768 32767 b

-- The longest text of a name: one byte counts it, and the component's length holds both.
abbrev pub longest_at : Spot → ℕ
longest_at s = min 255 (256 ^ width s - 2)

abbrev pub longest : ℕ → ℕ
longest k = longest_at (layout k).holder
