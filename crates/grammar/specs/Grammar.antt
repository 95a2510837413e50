-- What a legal container is made of, the bytes it is sent as, and the rows it tells.
use Rattle.std.specs.Prelude.{◌≡◌, ℕ, suc, ◌^◌, ◌<◌, ◌≤◌, Bool, true, false, ◌⊎◌, List, [], ◌∷◌, ◌++◌, length, ℤ, pos, ◌≢◌, slice_index}
use Rattle.grammar.specs.declared.table.Spot.TheVariants.{Descriptions, Node, Reference, Place, Modes, Associated, Nowhere}
use Rattle.grammar.specs.declared.table.Spot.{Spot}
use Rattle.grammar.specs.declared.table.Fields.TheVariants.{Text}
use Rattle.grammar.specs.Format.{width, layout, header, fixed, big, Fit, kind_at}

pub record Row : Type 0 where
  pub depth : ℕ
  pub kind : ℕ
  pub a : ℤ
  pub b : ℤ
  pub language : ℕ
  pub text : List ℕ

abbrev pub Rows : Type 0
Rows = List Row

-- What follows a text in its component.
pub data Tail : Type 0 where
  bare : Tail
  other : (id : ℕ) (bytes : List ℕ) (rest : Tail) → Tail
  spoken : (code : ℕ) (rest : Tail) → Tail

-- The components that stand in a holder, in order.
pub data Parts : Type 0 where
  none : Parts
  unknown : (id : ℕ) (bytes : List ℕ) (rest : Parts) → Parts
  named : (kind : ℕ) (text : List ℕ) (tail : Tail) (rest : Parts) → Parts
  held : (kind : ℕ) (a b : ℤ) (inner : Parts) (rest : Parts) → Parts

abbrev pub tail_bytes : Tail → List ℕ
tail_bytes bare = []
tail_bytes (other id bs rest) = (id ∷ length bs ∷ bs) ++ tail_bytes rest
tail_bytes (spoken l rest) = 0 ∷ 1 ∷ l ∷ tail_bytes rest

abbrev pub how_many : Parts → ℕ
how_many none = 0
how_many (unknown id bs rest) = suc (how_many rest)
how_many (named k t tail rest) = suc (how_many rest)
how_many (held k a b inner rest) = suc (how_many rest)

abbrev pub bytes_of : Spot → Parts → List ℕ
bytes_of s none = []
bytes_of s (unknown id bs rest) = (header s id (length bs) ++ bs) ++ bytes_of s rest
bytes_of s (named k t tail rest) =
    let body : List ℕ = (length t ∷ t) ++ tail_bytes tail in
    (header s (layout k).id (length body) ++ body) ++ bytes_of s rest
bytes_of s (held k a b inner rest) =
    let body : List ℕ = fixed (layout k).fields a b (how_many inner) ++ bytes_of (layout k).inside inner in
    (header s (layout k).id (length body) ++ body) ++ bytes_of s rest

abbrev pub said : ℕ → Tail → ℕ
said d bare = d
said d (other id bs rest) = said d rest
said d (spoken l rest) = l

abbrev pub tell : ℕ → ℕ → Parts → List Row
tell d n none = []
tell d n (unknown id bs rest) = tell d n rest
tell d n (named k t tail rest) = record { depth = n; kind = k; a = pos 0; b = pos 0; language = said d tail; text = t } ∷ tell d n rest
tell d n (held k a b inner rest) =
    record { depth = n; kind = k; a = a; b = b; language = 0; text = [] } ∷ (tell d (suc n) inner ++ tell d n rest)

abbrev pub Byte : ℕ → Type 0
Byte x = x < 256

abbrev pub Bytes : List ℕ → Type 0
Bytes [] = Unit {0}
Bytes (x ∷ xs) = Byte x × Bytes xs

-- a text's own components: at most one of them is a language
abbrev pub TailLegal : Bool → Tail → Type 0
TailLegal b bare = Unit {0}
TailLegal b (other id bs rest) = (0 < id) × Byte id × Bytes bs × (length bs < 256) × TailLegal b rest
TailLegal b (spoken l rest) = (b ≡ false) × Byte l × TailLegal true rest

abbrev pub PassedOver : Spot → Type 0
PassedOver Descriptions = Unit {0}
PassedOver Node = Unit {0}
PassedOver Reference = Unit {0}
PassedOver Place = Unit {0}
PassedOver Modes = Unit {0}
PassedOver Associated = ⊥
PassedOver Nowhere = ⊥

abbrev pub deeper : Spot → ℕ → ℕ
deeper Descriptions n = n
deeper Node n = suc n
deeper Reference n = n
deeper Place n = n
deeper Modes n = n
deeper Associated n = n
deeper Nowhere n = n

-- n nodes hold these parts, which stand at s; none is inside a ninth
abbrev pub PartsLegal : Spot → ℕ → Parts → Type 0
PartsLegal s n none = Unit {0}
PartsLegal s n (unknown id bs rest) =
    PassedOver s × (kind_at s id ≡ 0) × Byte id × Bytes bs × (length bs < 256 ^ width s) × PartsLegal s n rest
PartsLegal s n (named k t tail rest) =
    (kind_at s (layout k).id ≡ k) × ((layout k).fields ≡ Text) × Bytes t × (length t < 256) × TailLegal false tail
    × (length ((length t ∷ t) ++ tail_bytes tail) < 256 ^ width s)
    × PartsLegal s n rest
PartsLegal s n (held k a b inner rest) =
    (kind_at s (layout k).id ≡ k) × (0 < k) × Fit (layout k).fields a b (how_many inner) × (deeper (layout k).inside n ≤ 8)
    × PartsLegal (layout k).inside (deeper (layout k).inside n) inner
    × (length (fixed (layout k).fields a b (how_many inner) ++ bytes_of (layout k).inside inner) < 256 ^ width s)
    × PartsLegal s n rest

-- The components of a container, in order.
pub data Tops : Type 0 where
  no_more : Tops
  passed : (id : ℕ) (bytes : List ℕ) (rest : Tops) → Tops
  described : (parts : Parts) (rest : Tops) → Tops

abbrev pub tops_bytes : Tops → List ℕ
tops_bytes no_more = []
tops_bytes (passed id bs rest) = (id ∷ big 2 (length bs) ++ bs) ++ tops_bytes rest
tops_bytes (described p rest) =
    let body : List ℕ = bytes_of Descriptions p in
    (1 ∷ big 2 (length body) ++ body) ++ tops_bytes rest

abbrev pub TopsLegal : Bool → Tops → Type 0
TopsLegal b no_more = Unit {0}
TopsLegal b (passed id bs rest) = (id ≢ 1) × Byte id × Bytes bs × (length bs < 65536) × TopsLegal b rest
TopsLegal b (described p rest) =
    (b ≡ false) × PartsLegal Descriptions 0 p × (length (bytes_of Descriptions p) < 65536) × TopsLegal true rest

abbrev pub tops_tell : ℕ → Tops → List Row
tops_tell d no_more = []
tops_tell d (passed id bs rest) = tops_tell d rest
tops_tell d (described p rest) = tell d 0 p ++ tops_tell d rest

-- A legal container, as its tree.
pub record Container : Type 0 where
  pub default : ℕ
  pub tops : Tops

abbrev pub sent_as : Container → List ℕ
sent_as c = c.default ∷ tops_bytes c.tops

abbrev pub Good : Container → Type 0
Good c = Byte c.default × TopsLegal false c.tops × (length (sent_as c) ≤ 65535)

abbrev pub told : Container → List Row
told c = tops_tell c.default c.tops

-- These bytes are a legal container, and tell these rows.
abbrev pub Tells : List ℕ → List Row → Type 0
Tells bytes rows = (c : Container) × Good c × (sent_as c ≡ bytes) × (told c ≡ rows)

abbrev pub Legal : List ℕ → Type 0
Legal bytes = (rows : List Row) × Tells bytes rows

abbrev pub default_of : List ℕ → ℕ
default_of bytes = slice_index bytes 0

-- Of all legal containers that tell these rows, this one is fixed.
abbrev pub Best : List Row → List ℕ → Type 0
Best rows bytes =
    Tells bytes rows
    × ((rival : List ℕ) → Tells rival rows
    → (rival ≡ bytes)
    ⊎ ((length bytes < length rival) ⊎ ((length bytes ≡ length rival) × (default_of bytes < default_of rival))))
