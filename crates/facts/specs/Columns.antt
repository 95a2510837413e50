-- Worked pairs: a container that comes in, the rows that it tells, and the container that is sent for them.
use Rattle.std.specs.Prelude.{◌≡◌, ℕ, List, [], ◌∷◌, length, ℤ, pos, Some}
use Rattle.grammar.specs.Grammar.{Row, Rows, Tells, Best, default_of}
use Rattle.grammar.specs.Sending.{sending}

-- the left bytes are a legal container that tells the rows, and the right ones are sent for them: the best container of all that tell them
pub record Column (left : List ℕ) (rows : Rows) (right : List ℕ) : Type 0 where
  pub tells : Tells left rows
  pub sent : sending rows ≡ Some right
  pub best : Best rows right

abbrev plain : ℕ → ℕ → ℤ → ℤ → Row
plain depth kind a b = record { depth = depth; kind = kind; a = a; b = b; language = 0; text = [] }

abbrev name : ℕ → ℕ → List ℕ → Row
name depth language text = record { depth = depth; kind = 2; a = pos 0; b = pos 0; language = language; text = text }

-- a node of code 1, whose name is A in the language 30
abbrev named_node : Rows
named_node = plain 0 1 (pos 1) (pos 0) ∷ name 1 30 (0x41 ∷ []) ∷ []

abbrev named_node_bytes : List ℕ
named_node_bytes = 0x1E ∷ 0x01 ∷ 0x00 ∷ 0x09 ∷ 0x02 ∷ 0x00 ∷ 0x06 ∷ 0x01 ∷ 0x00 ∷ 0x00 ∷ 0x02 ∷ 0x01 ∷ 0x41 ∷ []

pub record Columns : Type 0 where
  pub nothing : Column (0x00 ∷ []) [] (0x00 ∷ [])
  pub empty_descriptions : Column (0x1E ∷ 0x01 ∷ 0x00 ∷ 0x00 ∷ []) [] (0x00 ∷ [])
  pub itself : Column named_node_bytes named_node named_node_bytes
  pub itself_length : length named_node_bytes ≡ 13
  pub itself_default : default_of named_node_bytes ≡ 30
  -- the default is another, and a language part says 30
  pub part_spared :
      Column
      (0x28 ∷ 0x01 ∷ 0x00 ∷ 0x0C ∷ 0x02 ∷ 0x00 ∷ 0x09 ∷ 0x01 ∷ 0x00 ∷ 0x00 ∷ 0x05 ∷ 0x01 ∷ 0x41 ∷ 0x00 ∷ 0x01 ∷ 0x1E ∷ [])
      named_node named_node_bytes
  -- an unknown component stands before the descriptions
  pub unknown_dropped :
      Column
      (0x1E ∷ 0x05 ∷ 0x00 ∷ 0x02 ∷ 0xAB ∷ 0xCD ∷ 0x01 ∷ 0x00 ∷ 0x09 ∷ 0x02 ∷ 0x00 ∷ 0x06 ∷ 0x01 ∷ 0x00 ∷ 0x00 ∷ 0x02 ∷ 0x01 ∷ 0x41 ∷ [])
      named_node named_node_bytes
  -- one name in 30 and one in 40: the lower is the default
  pub lower_of_two :
      Column
      (0x28 ∷ 0x01 ∷ 0x00 ∷ 0x11 ∷ 0x02 ∷ 0x00 ∷ 0x0E ∷ 0x01 ∷ 0x00 ∷ 0x00 ∷ 0x05 ∷ 0x01 ∷ 0x41 ∷ 0x00 ∷ 0x01 ∷ 0x1E ∷ 0x00 ∷ 0x00 ∷ 0x02 ∷ 0x01 ∷ 0x42 ∷ [])
      (plain 0 1 (pos 1) (pos 0) ∷ name 1 30 (0x41 ∷ []) ∷ name 1 40 (0x42 ∷ []) ∷ [])
      (0x1E ∷ 0x01 ∷ 0x00 ∷ 0x11 ∷ 0x02 ∷ 0x00 ∷ 0x0E ∷ 0x01 ∷ 0x00 ∷ 0x00 ∷ 0x02 ∷ 0x01 ∷ 0x41 ∷ 0x00 ∷ 0x00 ∷ 0x05 ∷ 0x01 ∷ 0x42 ∷ 0x00 ∷ 0x01 ∷ 0x28 ∷ [])
  -- no text: the default is 0
  pub no_text :
      Column
      (0x1E ∷ 0x01 ∷ 0x00 ∷ 0x04 ∷ 0x02 ∷ 0x00 ∷ 0x01 ∷ 0x00 ∷ [])
      (plain 0 1 (pos 0) (pos 0) ∷ [])
      (0x00 ∷ 0x01 ∷ 0x00 ∷ 0x04 ∷ 0x02 ∷ 0x00 ∷ 0x01 ∷ 0x00 ∷ [])
  -- a latitude at the edge of the globe
  pub at_the_pole :
      Column
      (0x1E ∷ 0x01 ∷ 0x00 ∷ 0x0F ∷ 0x02 ∷ 0x00 ∷ 0x0C ∷ 0x01 ∷ 0x02 ∷ 0x00 ∷ 0x08 ∷ 0x00 ∷ 0x00 ∷ 0x00 ∷ 0x00 ∷ 0x00 ∷ 0x89 ∷ 0x54 ∷ 0x40 ∷ [])
      (plain 0 1 (pos 1) (pos 0) ∷ plain 1 4 (pos 0) (pos 9000000) ∷ [])
      (0x00 ∷ 0x01 ∷ 0x00 ∷ 0x0F ∷ 0x02 ∷ 0x00 ∷ 0x0C ∷ 0x01 ∷ 0x02 ∷ 0x00 ∷ 0x08 ∷ 0x00 ∷ 0x00 ∷ 0x00 ∷ 0x00 ∷ 0x00 ∷ 0x89 ∷ 0x54 ∷ 0x40 ∷ [])
