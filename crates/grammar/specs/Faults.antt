-- The number, the place and the level of a fault, of reading, of sending and of a sheet.
use Rattle.std.specs.Prelude.{ℕ}
use Rattle.grammar.specs.declared.fault.SendFault.{SendFault}
use Rattle.grammar.specs.declared.fault.SendFault.TheVariants.{NoContainer, NoRoom}
use Rattle.grammar.specs.declared.fault.SheetFault.{SheetFault}
use Rattle.grammar.specs.declared.fault.SheetFault.TheVariants.{Reading, NinthNode, Misplaced, Unfit, TooManyRows, TooCostly, NothingOpen}
use Rattle.grammar.specs.declared.fault.ReadFault.{ReadFault}
use Rattle.grammar.specs.declared.fault.ReadFault.TheVariants.{TooLong, Empty, PastEnd, WrongSize, SecondDescriptions, SecondLanguage, OffGlobe, Miscounted, TooDeep}

abbrev pub number_of : ReadFault → ℕ
number_of TooLong = 1
number_of Empty = 2
number_of (PastEnd p l) = 3
number_of (WrongSize p l) = 4
number_of (SecondDescriptions p) = 5
number_of (SecondLanguage p l) = 6
number_of (OffGlobe p l) = 7
number_of (Miscounted p l) = 8
number_of (TooDeep p l) = 9

-- the offset of the faulty component's identifier
abbrev pub place_of : ReadFault → ℕ
place_of TooLong = 0
place_of Empty = 0
place_of (PastEnd p l) = p
place_of (WrongSize p l) = p
place_of (SecondDescriptions p) = p
place_of (SecondLanguage p l) = p
place_of (OffGlobe p l) = p
place_of (Miscounted p l) = p
place_of (TooDeep p l) = p

-- how many components hold it
abbrev pub level_of : ReadFault → ℕ
level_of TooLong = 0
level_of Empty = 0
level_of (PastEnd p l) = l
level_of (WrongSize p l) = l
level_of (SecondDescriptions p) = 0
level_of (SecondLanguage p l) = l
level_of (OffGlobe p l) = l
level_of (Miscounted p l) = l
level_of (TooDeep p l) = l

abbrev pub send_number_of : SendFault → ℕ
send_number_of NoContainer = 15
send_number_of (NoRoom n) = 16

-- the bytes that are needed
abbrev pub send_place_of : SendFault → ℕ
send_place_of NoContainer = 0
send_place_of (NoRoom n) = n

abbrev pub send_level_of : SendFault → ℕ
send_level_of NoContainer = 0
send_level_of (NoRoom n) = 0

abbrev pub sheet_number_of : SheetFault → ℕ
sheet_number_of (Reading f) = number_of f
sheet_number_of (NinthNode n o) = 9
sheet_number_of (Misplaced n o) = 10
sheet_number_of (Unfit n o) = 11
sheet_number_of (TooManyRows n o) = 12
sheet_number_of (TooCostly n o) = 13
sheet_number_of (NothingOpen n o) = 14

-- the rows held before the call
abbrev pub sheet_place_of : SheetFault → ℕ
sheet_place_of (Reading f) = place_of f
sheet_place_of (NinthNode n o) = n
sheet_place_of (Misplaced n o) = n
sheet_place_of (Unfit n o) = n
sheet_place_of (TooManyRows n o) = n
sheet_place_of (TooCostly n o) = n
sheet_place_of (NothingOpen n o) = n

-- the rows open before the call
abbrev pub sheet_level_of : SheetFault → ℕ
sheet_level_of (Reading f) = level_of f
sheet_level_of (NinthNode n o) = o
sheet_level_of (Misplaced n o) = o
sheet_level_of (Unfit n o) = o
sheet_level_of (TooManyRows n o) = o
sheet_level_of (TooCostly n o) = o
sheet_level_of (NothingOpen n o) = o
