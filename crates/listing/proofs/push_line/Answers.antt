use Rattle.std.proofs.Common.{◌≡◌, ℕ, ◌≤◌, length, replicate, take, string_bytes, w32, SFits, ap, ◌∙◌, rules, arith}
use lib.ListN.{length-replicate}
use Rattle.std.proofs.lemmas.Result.{on_ok_weaker}
use Rattle.location.specs.Answers.{head_text}
use Rattle.listing.proofs.Writing.{text_copied, text_absent, line_printed}
use Rattle.listing.proofs.push_line.Goals as goal
use Rattle.listing.proofs.push_line.Goals.{then-length-gt0, else-length-gt0}

pub returns : goal.returns
returns g c =
    let row = c.args.row in
    let rows = g.L.Location.rows c.args.l.now c.args.at in
    let a : SFits w32 row.a = search rules in
    let b : SFits w32 row.b = search rules in
    let fits : row.length ≤ length (replicate {A = ℕ} 255 0) = omega (arith, length-replicate {A = ℕ} 255 0) in
    let told : take c.from.result c.if-length-gt0.room ≡ head_text rows =
    elim c.if-length-gt0.branch [
      | then-length-gt0 w ↦
          ap (take c.from.result) w.room-is
          ∙ text_copied rows row (replicate 255 0) w.copy_text.new.out w.copy_text.result c.from.result c.requires fits c.from.ensures w.copy_text.ensures.fits w.copy_text.ensures.wrote
      | else-length-gt0 w ↦ text_absent rows row c.if-length-gt0.room c.from.result c.requires c.from.ensures (omega arith)
    ] in
    on_ok_weaker c.write.result
    (λ h. line_printed rows row (take c.from.result c.if-length-gt0.room) (string_bytes c.args.out.now) (string_bytes c.write.new.self) c.requires a b told h)
    c.write.ensures.bytes
