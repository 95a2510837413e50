-- The line that says what a call was answered.
use Rattle.std.specs.Prelude.{ℕ, List, ◌++◌, codes, decimal}
use Rattle.grammar.specs.Faults.{sheet_number_of, sheet_place_of, sheet_level_of}
use Rattle.listing.specs.Listed.{newline, hexes, no_line}
use Rattle.listing.specs.Restated.{send_refused}
use Rattle.runs.specs.declared.script.Answer.{Answer}
use Rattle.runs.specs.declared.script.Answer.TheVariants.{Done, Sent, Refused, NotSent, NotNow}

-- what was sent, with its length and its default language
abbrev pub sent_text : (length default : ℕ) (bytes : List ℕ) → List ℕ
sent_text n d bytes = codes "SENT " ++ (decimal n ++ (codes " " ++ (decimal d ++ (codes " " ++ (hexes bytes ++ newline)))))

abbrev pub answer_text : Answer → List ℕ → List ℕ
answer_text Done bytes = codes "OK" ++ newline
answer_text (Sent n d) bytes = sent_text n d bytes
answer_text (Refused f) bytes = no_line (sheet_number_of f) (sheet_place_of f) (sheet_level_of f)
answer_text (NotSent f) bytes = send_refused f
answer_text NotNow bytes = codes "NOT NOW" ++ newline
