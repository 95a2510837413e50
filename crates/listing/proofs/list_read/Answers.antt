use Rattle.std.proofs.Common.{refl}
use Rattle.grammar.proofs.Complete.{reading_complete}
use Rattle.reader.specs.Whole.{rows_of}
use Rattle.listing.proofs.list_read.Goals as goal

pub returns-in-Ok : goal.returns-in-Ok
returns-in-Ok g c = rw (reading_complete c.args.bytes.now (rows_of c.in-Ok.container) c.in-Ok.ensures.1) (c.in-Ok.container, refl, c.list.ensures)
