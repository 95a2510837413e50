-- Bytes from hexadecimal text.
use Rattle.std.specs.Prelude.{◌≡◌, ℕ, ◌+◌, ◌-◌, ◌*◌, Bool, true, false, cond, ◌&&◌, List, [], ◌∷◌, Some, None, Option, ◌==◌, nat_le}
use Rattle.grammar.specs.Grammar.{Bytes}
use Rattle.listing.specs.Listed.{hexes}

-- the value of a digit, of either case
abbrev pub digit_of : ℕ → Option ℕ
digit_of c =
    cond (nat_le 48 c && nat_le c 57) (Some (c - 48))
    (cond (nat_le 65 c && nat_le c 70) (Some (c - 65 + 10)) (cond (nat_le 97 c && nat_le c 102) (Some (c - 97 + 10)) None))

abbrev pub put_first : ℕ → Option (List ℕ) → Option (List ℕ)
put_first b None = None
put_first b (Some bs) = Some (b ∷ bs)

-- a blank is passed over, a digit waits for its second or makes a byte with the one that waits, and nothing else may stand
abbrev pub on_character : Bool → Option ℕ → Option ℕ → (Option ℕ → Option (List ℕ)) → Option (List ℕ)
on_character true digit high rest = rest high
on_character false None high rest = None
on_character false (Some d) None rest = rest (Some d)
on_character false (Some d) (Some h) rest = put_first (h * 16 + d) (rest None)

-- two digits for each byte, the higher first; `high` is a digit that waits for its second
abbrev pub unhex_from : List ℕ → Option ℕ → Option (List ℕ)
unhex_from [] None = Some []
unhex_from [] (Some h) = None
unhex_from (c ∷ cs) high = on_character (c == 32) (digit_of c) high (unhex_from cs)

abbrev pub unhex : List ℕ → Option (List ℕ)
unhex text = unhex_from text None

-- bytes that are written out are read back
abbrev pub ReadsBack : Type 0
ReadsBack = (bytes : List ℕ) → Bytes bytes → unhex (hexes bytes) ≡ Some bytes
