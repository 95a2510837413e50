use Rattle.std.proofs.Common.{◌≡◌, length, ap, ◌∙◌, w32, SFits, rules}
use Rattle.std.proofs.lemmas.Int.{to_z-of_z}
use Rattle.fields.specs.Shape.{unlaid, globe_shape}
use Rattle.fields.proofs.Places.{globe_read}
use Rattle.fields.proofs.globes.GlobeFixedFields.read.Goals as goal

-- The two numbers are those of the first and of the last four bytes.
pub returns : goal.returns
returns c =
    let l : length c.in_ok-a.field-0 ≡ 8 = search rules in
    let s : c.in_ok-a.field-0 ≡ c.args.bytes.now = search rules in
    let x : SFits w32 c.from_be_bytes-longitude.result = search rules in
    let y : SFits w32 c.from_be_bytes-latitude.result = search rules in
    (simp (to_z-of_z, c.on_globe.ensures) at c.then_some.ensures)
    ∙ globe_read c.in_ok-a.field-0 l _ _ c.from_be_bytes-longitude.ensures c.from_be_bytes-latitude.ensures
    ∙ ap (unlaid globe_shape) s
