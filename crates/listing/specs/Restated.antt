-- The text that says what is sent for rows.
use Rattle.std.specs.Prelude.{ℕ, List, ◌++◌, Ok, Err, codes, Result}
use Rattle.grammar.specs.declared.fault.SendFault.{SendFault}
use Rattle.grammar.specs.Faults.{send_number_of, send_place_of, send_level_of}
use Rattle.grammar.specs.Grammar.{Rows}
use Rattle.grammar.specs.Reading.{Read, reading}
use Rattle.grammar.specs.Sending.{sending_into}
use Rattle.pile.specs.declared.Layer.{Layer}
use Rattle.pile.specs.Through.{left_by_all}
use Rattle.listing.specs.Listed.{newline, hexes, text_line, listed, no_line, answered_by}

abbrev pub send_refused : SendFault → List ℕ
send_refused f = no_line (send_number_of f) (send_place_of f) (send_level_of f)

-- bytes behind a word
abbrev pub sent_line : List ℕ → List ℕ → List ℕ
sent_line lead bytes = lead ++ (hexes bytes ++ newline)

-- what is sent, behind a word, or why nothing is
abbrev pub send_line : List ℕ → Result (List ℕ) SendFault → List ℕ
send_line lead (Ok bytes) = sent_line lead bytes
send_line lead (Err f) = send_refused f

-- what is sent for rows, with room for the longest container
abbrev pub right_of : List ℕ → Rows → List ℕ
right_of lead rows = send_line lead (sending_into rows 65535)

-- the rows, and what is sent for them
abbrev pub with_sent : Rows → List ℕ
with_sent rows = listed rows ++ right_of (codes "SEND ") rows

-- the same of what layers leave of the rows that were read, or why none were
abbrev pub restated : List Layer → List ℕ → List ℕ
restated layers bytes = answered_by (λ rows. with_sent (left_by_all layers rows)) (reading bytes)

-- the right column alone
abbrev pub right_by : List Layer → Read Rows → List ℕ
right_by layers read = answered_by (λ rows. right_of (codes "") (left_by_all layers rows)) read

-- bytes on the left, what is sent for them on the right
abbrev pub column : List Layer → List ℕ → List ℕ
column layers bytes = text_line bytes ++ (codes " | " ++ right_by layers (reading bytes))
