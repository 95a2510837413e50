-- How the values of fixed fields lie in bytes, whether the grammar knows the fields or not, and the laws of that.
use Rattle.std.specs.Prelude.{◌≡◌, ℕ, Bool, true, List, length, Some, Option}
use Rattle.grammar.specs.Grammar.{Bytes}

-- How the values of V lie in bytes.
pub record Lay (V : Type 0) : Type 0 where
  -- the values that may be written
  pub valid : V → Bool
  -- how many bytes the fields take
  pub size : ℕ
  -- the bytes of a value
  pub written : V → List ℕ
  -- the value of bytes, if they have one
  pub reads : List ℕ → Option V

-- What is written is read back, and what is read is written back.
pub record Lawful {V : Type 0} (l : Lay V) : Type 0 where
  -- a value that may be written is read back
  pub back : (v : V) → l.valid v ≡ true → l.reads (l.written v) ≡ Some v
  -- bytes that have a value are the bytes of that value
  pub only : (bs : List ℕ) (v : V) → Bytes bs → l.reads bs ≡ Some v → l.written v ≡ bs
  -- what is read may be written
  pub good : (bs : List ℕ) (v : V) → Bytes bs → l.reads bs ≡ Some v → l.valid v ≡ true
  -- every value takes as many bytes
  pub long : (v : V) → length (l.written v) ≡ l.size
