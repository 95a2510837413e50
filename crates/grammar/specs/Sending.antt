-- The bytes that rows are sent as: the tree that they are the rows of, with no unknown component, and a language part exactly where a text's language
-- is not the default; under the default that most texts are in, of those under which each
-- text fits the width of its component's length and the whole its limit, the lowest among equals.
use Rattle.std.specs.Prelude.{◌≡◌, ℕ, zero, suc, ◌+◌, ◌*◌, ◌<◌, ◌≤◌, Bool, true, false, List, [], ◌∷◌, length, Some, None, Ok, Err, Option, Result, ◌==◌, nat_lt}
use Rattle.grammar.specs.declared.fault.SendFault.{SendFault}
use Rattle.grammar.specs.declared.fault.SendFault.TheVariants.{NoContainer, NoRoom}
use Rattle.grammar.specs.declared.table.Spot.TheVariants.{Descriptions}
use Rattle.grammar.specs.declared.table.Fields.{Fields}
use Rattle.grammar.specs.declared.table.Fields.TheVariants.{Nothing, Code, Text, Globe, Floor, Count, Radius, Height}
use Rattle.grammar.specs.Format.{layout, width}
use Rattle.grammar.specs.Grammar.{Row, Tail, bare, spoken, Parts, none, unknown, named, held, Tops, no_more, described, Container, said, sent_as, told, Good, Tells, Best}
use Rattle.grammar.specs.Reading.{is_text, if}
use Rattle.grammar.specs.Deciding.{Shaped, shaped?, Sound, sound?, RowsFit, rows_fit?, le?, and₂, and₃, and₄}

-- the component of a row, with what stands inside it and after it; a text's language is written out
abbrev pub part : Bool → Row → Parts → Parts → Parts
part true r inner rest = named r.kind r.text (spoken r.language bare) rest
part false r inner rest = held r.kind r.a r.b inner rest

-- of the rows from here on, the components that stand at a depth before the next row that is less deep
abbrev pub gather : List Row → ℕ → Parts
gather [] m = none
gather (r ∷ rs) m =
    elim (m == r.depth) [
      | true ↦ part (is_text (layout r.kind).fields) r (gather rs (suc m)) (gather rs m)
      | false ↦ elim (nat_lt m r.depth) [ true ↦ gather rs m | false ↦ none ]
    ]

-- where a text's language is not the default, a part says it
abbrev pub spoken_unless : Bool → ℕ → Tail
spoken_unless true l = bare
spoken_unless false l = spoken l bare

abbrev pub tail_for : ℕ → ℕ → Tail
tail_for d l = spoken_unless (l == d) l

-- a tree under a default: no unknown component, and of each text's tail a language part exactly where its language is not the default
abbrev pub normal : ℕ → Parts → Parts
normal d none = none
normal d (unknown id bs rest) = normal d rest
normal d (named k t tail rest) = named k t (tail_for d (said d tail)) (normal d rest)
normal d (held k a b inner rest) = held k a b (normal d inner) (normal d rest)

-- no descriptions without rows
abbrev pub tops_for : Parts → Tops
tops_for none = no_more
tops_for (unknown id bs rest) = described (unknown id bs rest) no_more
tops_for (named k t tail rest) = described (named k t tail rest) no_more
tops_for (held k a b inner rest) = described (held k a b inner rest) no_more

abbrev pub candidate : List Row → ℕ → Container
candidate rows d = record { default = d; tops = tops_for (normal d (gather rows 0)) }

-- how many texts of the rows are in the language d
abbrev pub counts : Bool → Bool → ℕ → ℕ
counts true true n = suc n
counts true false n = n
counts false b n = n

abbrev pub texts_in : ℕ → List Row → ℕ
texts_in d [] = 0
texts_in d (r ∷ rs) = counts (is_text (layout r.kind).fields) (r.language == d) (texts_in d rs)

-- the bytes of the fields, and of a row's component with its text's language part, not those of the parts inside it
abbrev pub fields_size : Fields → ℕ
fields_size Nothing = 0
fields_size Code = 1
fields_size Text = 0
fields_size Globe = 8
fields_size Floor = 1
fields_size Count = 1
fields_size Radius = 2
fields_size Height = 3

abbrev pub body_size : Bool → Row → ℕ
body_size true r = length r.text + 4
body_size false r = fields_size (layout r.kind).fields

abbrev pub full_size : List Row → ℕ
full_size [] = 0
full_size (r ∷ rs) = suc (width (layout r.kind).holder) + body_size (is_text (layout r.kind).fields) r + full_size rs

-- the default language, and the header of the descriptions
abbrev pub frame : List Row → ℕ
frame [] = 1
frame (r ∷ rs) = 4

abbrev pub is_yes : {A : Type 0} → Dec A → Bool
is_yes (yes a) = true
is_yes (no n) = false

-- a default under which the rows can be sent
abbrev pub Stands : List Row → ℕ → Type 0
Stands rows d =
    Shaped 0 rows × Sound Descriptions 0 (gather rows 0) × RowsFit d rows × (frame rows + full_size rows ≤ 65535 + 3 * texts_in d rows)

abbrev pub stands? : (rows : List Row) (d : ℕ) → Dec (Stands rows d)
stands? rows d =
    and₄ (shaped? 0 rows)
    (and₃ (sound? Descriptions 0 (gather rows 0)) (and₂ (rows_fit? d rows) (le? (frame rows + full_size rows) (65535 + 3 * texts_in d rows))))

abbrev pub stands : List Row → ℕ → Bool
stands rows d = is_yes (stands? rows d)

abbrev pub better : (ℕ → ℕ) → ℕ → Bool → Option ℕ → Option ℕ
better score n false o = o
better score n true None = Some n
better score n true (Some m) = elim (nat_lt (score m) (score n)) [ true ↦ Some n | false ↦ Some m ]

-- of the numbers below n that pass, one of highest score, the lowest among equals
unfoldable pub most : (ℕ → Bool) → (ℕ → ℕ) → ℕ → Option ℕ
most test score zero = None
most test score (suc n) = better score n (test n) (most test score n)

abbrev pub score : List Row → ℕ → ℕ
score rows d = texts_in d rows

abbrev pub sent : List Row → Option ℕ → Option (List ℕ)
sent rows None = None
sent rows (Some d) = Some (sent_as (candidate rows d))

abbrev pub sending : List Row → Option (List ℕ)
sending rows = sent rows (most (stands rows) (score rows) 256)

abbrev pub SendingStands : Type 0
SendingStands =
    ((rows : List Row) (bytes : List ℕ) → sending rows ≡ Some bytes → Best rows bytes)
    × ((rows : List Row) → sending rows ≡ None → (bytes : List ℕ) → Tells bytes rows → ⊥)

-- these are the defaults of the legal containers that tell the rows
abbrev pub StandsExactly : Type 0
StandsExactly =
    ((rows : List Row) (c : Container) → Good c → told c ≡ rows → Stands rows c.default)
    × ((rows : List Row) (d : ℕ) → d < 256 → Stands rows d → Good (candidate rows d) × (told (candidate rows d) ≡ rows))

-- the length under a default, by the rows alone: three bytes less for each text in it
abbrev pub SizesStand : Type 0
SizesStand = (rows : List Row) (d : ℕ) → Stands rows d → length (sent_as (candidate rows d)) + 3 * texts_in d rows ≡ frame rows + full_size rows

abbrev pub BestIsOne : Type 0
BestIsOne = (rows : List Row) (x y : List ℕ) → Best rows x → Best rows y → x ≡ y

-- the same into so much room: the bytes sent, or why not
abbrev pub into : Option (List ℕ) → ℕ → Result (List ℕ) SendFault
into None room = Err NoContainer
into (Some bytes) room = if (nat_lt room (length bytes)) (λ _. Err (NoRoom (length bytes))) (λ _. Ok bytes)

abbrev pub sending_into : List Row → ℕ → Result (List ℕ) SendFault
sending_into rows room = into (sending rows) room
