-- A legal container is made of bytes.
-- Assumes nothing.
use Rattle.std.proofs.Common.{ℕ, zero, suc, ◌-◌, ◌/◌, ◌^◌, Bool, true, false, ltb, List, [], ◌∷◌, ◌++◌, length, ℤ, pos, negsuc, subst, mod-lt, arith, ltb→lt}
use Rattle.grammar.specs.declared.table.Spot.TheVariants.{Descriptions}
use Rattle.grammar.specs.declared.table.Spot.{Spot}
use Rattle.grammar.specs.declared.table.Fields.{Fields}
use Rattle.grammar.specs.declared.table.Fields.TheVariants.{Nothing, Code, Text, Globe, Floor, Count, Radius, Height}
use Rattle.grammar.specs.declared.table.Layout.{Layout}
use Rattle.grammar.specs.Format.{width, layout, table, blank, big, twos, fixed, natural}
use Rattle.grammar.specs.Grammar.{Row, Byte, Bytes, Tail, bare, other, spoken, TailLegal, tail_bytes, Parts, none, unknown, named, held, bytes_of, how_many, PartsLegal, deeper, Tops, no_more, passed, described, tops_bytes, TopsLegal, Tells}
use Rattle.grammar.proofs.Lines.{line_at}

bytes_append : (xs ys : List ℕ) → Bytes xs → Bytes ys → Bytes (xs ++ ys)
bytes_append [] ys h k = k
bytes_append (x ∷ xs) ys h k = (h.0, bytes_append xs ys h.1 k)

bytes_big : (n x : ℕ) → Bytes (big n x)
bytes_big zero x = tt
bytes_big (suc n) x = (mod-lt (x / 256 ^ n) (omega arith), bytes_big n x)

bytes_twos : (n : ℕ) (z : ℤ) → Bytes (twos n z)
bytes_twos n (pos x) = bytes_big n x
bytes_twos n (negsuc x) = bytes_big n (256 ^ n - suc x)

bytes_fixed : (f : Fields) (a b : ℤ) (n : ℕ) → Bytes (fixed f a b n)
bytes_fixed Nothing a b n = tt
bytes_fixed Code a b n = bytes_big 1 (natural a)
bytes_fixed Text a b n = tt
bytes_fixed Globe a b n = bytes_append (twos 4 a) (twos 4 b) (bytes_twos 4 a) (bytes_twos 4 b)
bytes_fixed Floor a b n = bytes_twos 1 a
bytes_fixed Count a b n = bytes_big 1 n
bytes_fixed Radius a b n = bytes_big 2 (natural a)
bytes_fixed Height a b n = bytes_append (big 1 (natural a)) (twos 2 b) (bytes_big 1 (natural a)) (bytes_twos 2 b)

id_byte : (k : ℕ) → Byte (layout k).id
id_byte k = ltb→lt _ _ (line_at (λ (l : Layout). ltb l.id 256) blank tt table tt k)

bytes_frame : (w id : ℕ) (body rest : List ℕ) → Byte id → Bytes body → Bytes rest → Bytes (((id ∷ big w (length body)) ++ body) ++ rest)
bytes_frame w id body rest i b r = (i, bytes_append (big w (length body) ++ body) rest (bytes_append (big w (length body)) body (bytes_big w (length body)) b) r)

bytes_tail : (b : Bool) (t : Tail) → TailLegal b t → Bytes (tail_bytes t)
bytes_tail b bare h = tt
bytes_tail b (other id bs rest) h = (h.1, (h.3, bytes_append bs (tail_bytes rest) h.2 (bytes_tail b rest h.4)))
bytes_tail b (spoken l rest) h = (omega arith, (omega arith, (h.1, bytes_tail true rest h.2)))

bytes_parts : (s : Spot) (n : ℕ) (p : Parts) → PartsLegal s n p → Bytes (bytes_of s p)
bytes_parts s n none h = tt
bytes_parts s n (unknown id bs rest) h = bytes_frame (width s) id bs (bytes_of s rest) h.2 h.3 (bytes_parts s n rest h.5)
bytes_parts s n (named k t tl rest) h =
    bytes_frame (width s) (layout k).id ((length t ∷ t) ++ tail_bytes tl) (bytes_of s rest) (id_byte k)
    (h.3, bytes_append t (tail_bytes tl) h.2 (bytes_tail false tl h.4)) (bytes_parts s n rest h.6)
bytes_parts s n (held k a b inner rest) h =
    bytes_frame (width s) (layout k).id (fixed (layout k).fields a b (how_many inner) ++ bytes_of (layout k).inside inner) (bytes_of s rest) (id_byte k)
    (bytes_append _ (bytes_of (layout k).inside inner) (bytes_fixed (layout k).fields a b (how_many inner))
    (bytes_parts (layout k).inside (deeper (layout k).inside n) inner h.4))
    (bytes_parts s n rest h.6)

bytes_tops : (b : Bool) (t : Tops) → TopsLegal b t → Bytes (tops_bytes t)
bytes_tops b no_more h = tt
bytes_tops b (passed id bs rest) h = bytes_frame 2 id bs (tops_bytes rest) h.1 h.2 (bytes_tops b rest h.4)
bytes_tops b (described p rest) h =
    bytes_frame 2 1 (bytes_of Descriptions p) (tops_bytes rest) (omega arith) (bytes_parts Descriptions 0 p h.1) (bytes_tops true rest h.3)

pub legal_bytes : (bs : List ℕ) (rows : List Row) → Tells bs rows → Bytes bs
legal_bytes bs rows (c, good, spells, tells) = subst Bytes spells (good.0, bytes_tops false c.tops good.1)
