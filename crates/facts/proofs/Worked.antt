-- A worked pair, by what its two computations give.
-- Assumes nothing.
use Rattle.std.proofs.Common.{◌≡◌, ℕ, T, List, Some, Ok}
use Rattle.grammar.specs.Grammar.{Rows}
use Rattle.grammar.specs.Reading.{reading}
use Rattle.grammar.specs.Deciding.{bytes?}
use Rattle.grammar.specs.Sending.{sending, is_yes}
use Rattle.grammar.proofs.Sound.{reading_sound}
use Rattle.grammar.proofs.Sends.{sends}
use Rattle.facts.specs.Columns.{Column}

holds : {A : Type 0} (x : Dec A) → T (is_yes x) → A
holds (yes a) t = a
holds (no n) t = absurd t

pub column : (left : List ℕ) (rows : Rows) (right : List ℕ) → T (is_yes (bytes? left)) → reading left ≡ Ok rows → sending rows ≡ Some right
    → Column left rows right
column left rows right b r s = record { tells = reading_sound left rows (holds (bytes? left) b) r; sent = s; best = sends.0 rows right s }
