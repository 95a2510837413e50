use Rattle.std.proofs.Common.{◌++◌, string_bytes, ap, ◌∙◌, arith}
use Rattle.std.proofs.lemmas.List.{take_all}
use Rattle.std.proofs.lemmas.Result.{IfOk-at_ok}
use Rattle.listing.specs.Listed.{hexes}
use Rattle.listing.proofs.Writing.{bytes_more}
use Rattle.listing.proofs.restated.push_hexes.Goals as goal

pub loop-b-preserved : goal.loop-b-preserved
loop-b-preserved c =
    bytes_more c.args.bytes.now (string_bytes c.args.out.now) (string_bytes c.loop-b.out) (string_bytes c.push_hex.new.out) c.loop-b.b-index (omega arith) c.loop-b.invariant
    (IfOk-at_ok _ {r = c.push_hex.result} c.in_ok-push_hex.was c.push_hex.ensures)

pub returns : goal.returns
returns c = c.loop-b.invariant ∙ ap (λ x. string_bytes c.args.out.now ++ hexes x) (take_all c.loop-b.b-index c.args.bytes.now (omega arith))
