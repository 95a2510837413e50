-- How the values of fixed fields lie in bytes, and which bytes are read as which value.
use Rattle.std.specs.Prelude.{ℕ, Bool, cond, not, ◌&&◌, List, length, ℤ, pos, Some, None, Option, ◌==◌, nat_lt, slice_index}
use Rattle.grammar.specs.declared.table.Fields.{Fields}
use Rattle.grammar.specs.declared.table.Fields.TheVariants.{Code, Globe, Floor, Count, Radius, Height}
use Rattle.grammar.specs.Format.{fixed, fixed_bytes, fits, natural}
use Rattle.grammar.specs.Reading.{first_number, second_number, off_globe}
use Rattle.fields.specs.Lay.{Lay}

-- What the values of V are to the grammar.
pub record Shape (V : Type 0) : Type 0 where
  -- the fields that hold a value
  pub fields : Fields
  -- the two numbers that a value tells
  pub first : V → ℤ
  pub second : V → ℤ
  -- how many parts a value says will follow
  pub parts : V → ℕ
  -- the value that stands in these bytes
  pub value : List ℕ → V

module _ {V : Type 0} (s : Shape V) where
  -- how many bytes the fields take
  abbrev pub extent : ℕ
  extent = fixed_bytes s.fields

  -- the value may be written: its numbers fit the fields, and a byte can count its parts
  abbrev pub fitting : V → Bool
  fitting v = fits s.fields (s.first v) (s.second v) && nat_lt (s.parts v) 256

  -- the bytes of a value, as the grammar has them
  abbrev pub laid : V → List ℕ
  laid v = fixed s.fields (s.first v) (s.second v) (s.parts v)

  -- the bytes are exactly as many as the fields take, and their numbers are on the globe
  abbrev pub readable : List ℕ → Bool
  readable bs = length bs == extent && not (off_globe s.fields bs)

  -- the value of these bytes, or none
  abbrev pub unlaid : List ℕ → Option V
  unlaid bs = cond (readable bs) (Some (s.value bs)) None

  -- how the values lie in bytes
  abbrev pub lay_of : Lay V
  lay_of = record { valid = fitting; size = extent; written = laid; reads = unlaid }

-- A code is its one number.
abbrev pub code_shape : Shape ℕ
code_shape = record { fields = Code; first = pos; second = λ _. pos 0; parts = λ _. 0; value = λ bs. natural (first_number Code bs) }

-- A floor is its one number, which may be negative.
abbrev pub floor_shape : Shape ℤ
floor_shape = record { fields = Floor; first = λ z. z; second = λ _. pos 0; parts = λ _. 0; value = first_number Floor }

-- A radius is its one number.
abbrev pub radius_shape : Shape ℕ
radius_shape = record { fields = Radius; first = pos; second = λ _. pos 0; parts = λ _. 0; value = λ bs. natural (first_number Radius bs) }

-- A height is a code and a number that may be negative.
abbrev pub height_shape : Shape (ℕ × ℤ)
height_shape =
    record {
      fields = Height;
      first = λ v. pos v.0;
      second = λ v. v.1;
      parts = λ _. 0;
      value = λ bs. (natural (first_number Height bs), second_number Height bs);
    }

-- A place on the globe is its longitude and its latitude.
abbrev pub globe_shape : Shape (ℤ × ℤ)
globe_shape =
    record {
      fields = Globe;
      first = λ v. v.0;
      second = λ v. v.1;
      parts = λ _. 0;
      value = λ bs. (first_number Globe bs, second_number Globe bs);
    }

-- A count tells no number: its byte says how many parts follow.
abbrev pub count_shape : Shape ℕ
count_shape = record { fields = Count; first = λ _. pos 0; second = λ _. pos 0; parts = λ n. n; value = λ bs. slice_index bs 0 }
