use Rattle.grammar.proofs.Sound.{reading_sound}
use Rattle.grammar.proofs.Complete.{reading_complete}
use Rattle.grammar.proofs.Spelled.{legal_bytes}
use Rattle.grammar.proofs.Exact.{one_meaning, refuses_rightly}
use Rattle.grammar.proofs.reading_stands.Goals as goal

pub returns : goal.returns
returns c = (reading_sound, reading_complete, refuses_rightly, legal_bytes, one_meaning)
