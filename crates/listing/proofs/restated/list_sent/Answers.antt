use Rattle.std.proofs.Common.{ℕ, string_bytes}
use lib.ListN.{length-replicate}
use Rattle.std.proofs.lemmas.Result.{IfOk-weaker}
use Rattle.listing.proofs.Sending.{line_sent}
use Rattle.listing.proofs.restated.list_sent.Goals as goal

pub returns-in-Ok : goal.returns-in-Ok
returns-in-Ok g c =
    IfOk-weaker c.bytes_line.result _ _
    (λ s h. line_sent c.args.lead.now _ c.send.new.out (string_bytes s) (g.L.Location.whole c.args.l.now) c.in-Ok.length c.in-Ok.field-0-1 (length-replicate {A = ℕ} 65535 0) c.in-Ok.ensures.sent h)
    c.bytes_line.ensures
