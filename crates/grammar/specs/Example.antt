use Rattle.std.specs.Prelude.{◌≡◌, List, [], ◌∷◌, pos, Ok, Err}
use Rattle.grammar.specs.declared.table.Spot.TheVariants.{Descriptions}
use Rattle.grammar.specs.declared.fault.ReadFault.TheVariants.{PastEnd, WrongSize, SecondDescriptions, SecondLanguage, OffGlobe, Miscounted}
use Rattle.grammar.specs.Grammar.{Row, bare, none, named, held, bytes_of}
use Rattle.grammar.specs.Reading.{reading}

abbrev one : List Row
one = record { depth = 0; kind = 1; a = pos 1; b = pos 0; language = 0; text = [] } ∷ record { depth = 1; kind = 2; a = pos 0; b = pos 0; language = 30; text = 65 ∷ [] } ∷ []

abbrev pub Examples : Type 0
Examples =
    (bytes_of Descriptions (held 1 (pos 1) (pos 0) (named 2 (65 ∷ []) bare none) none) ≡ 2 ∷ 0 ∷ 6 ∷ 1 ∷ 0 ∷ 0 ∷ 2 ∷ 1 ∷ 65 ∷ [])
    × (reading (0x1e ∷ 1 ∷ 0 ∷ 9 ∷ 2 ∷ 0 ∷ 6 ∷ 1 ∷ 0 ∷ 0 ∷ 2 ∷ 1 ∷ 65 ∷ []) ≡ Ok one)
    × (reading (0x28 ∷ 1 ∷ 0 ∷ 12 ∷ 2 ∷ 0 ∷ 9 ∷ 1 ∷ 0 ∷ 0 ∷ 5 ∷ 1 ∷ 65 ∷ 0 ∷ 1 ∷ 30 ∷ []) ≡ Ok one)
    × (reading (0x1e ∷ 1 ∷ 0 ∷ 9 ∷ 2 ∷ []) ≡ Err (PastEnd 1 0))
    × (reading (0x1e ∷ 1 ∷ 0 ∷ 3 ∷ 2 ∷ 0 ∷ 0 ∷ []) ≡ Err (WrongSize 4 1))
    × (reading (0x1e ∷ 1 ∷ 0 ∷ 0 ∷ 1 ∷ 0 ∷ 0 ∷ []) ≡ Err (SecondDescriptions 4))
    × (reading (0x1e ∷ 1 ∷ 0 ∷ 15 ∷ 2 ∷ 0 ∷ 12 ∷ 1 ∷ 0 ∷ 0 ∷ 8 ∷ 1 ∷ 65 ∷ 0 ∷ 1 ∷ 30 ∷ 0 ∷ 1 ∷ 30 ∷ []) ≡ Err (SecondLanguage 16 3))
    × (reading (0x1e ∷ 1 ∷ 0 ∷ 15 ∷ 2 ∷ 0 ∷ 12 ∷ 1 ∷ 2 ∷ 0 ∷ 8 ∷ 0 ∷ 0 ∷ 0 ∷ 0 ∷ 0 ∷ 0x89 ∷ 0x54 ∷ 0x41 ∷ []) ≡ Err (OffGlobe 8 2))
    × (reading (0x1e ∷ 1 ∷ 0 ∷ 8 ∷ 2 ∷ 0 ∷ 5 ∷ 1 ∷ 5 ∷ 0 ∷ 1 ∷ 1 ∷ []) ≡ Err (Miscounted 8 2))
