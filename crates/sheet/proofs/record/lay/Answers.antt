use Rattle.std.proofs.Common.{◌≡◌, ℕ, ◌+◌, ◌-◌, List, [], ◌∷◌, ◌++◌, length, take, refl, ap, ◌∙◌, arith}
use borrow.Rule.Slice.PartMut.{put_mid}
use Rattle.std.proofs.lemmas.Slice.{take-put_mid}
use Rattle.std.proofs.lemmas.Grind.{common_steps}
use Rattle.grammar.specs.Format.{twos}
use Rattle.location.specs.Answers.{seen}
use Rattle.sheet.specs.Records.{head_of, with_text}
use Rattle.sheet.proofs.Encoded.{laid, head_long}
use Rattle.sheet.proofs.Filled.{copied_behind}
use Rattle.sheet.proofs.record.lay.Goals as goal

pub returns : goal.returns
returns g c =
    let row = c.args.row in
    let at : ℕ = c.args.at in
    let text : List ℕ = g.T.Text.bytes c.args.text.now in
    let old : List ℕ = c.args.buffer.now in
    let top : List ℕ = c.copy_from_slice.new.self in
    let half : List ℕ = put_mid at (at + 12 - at) old top in
    let n = c.requires.sized in
    let t : top ≡ head_of (seen (with_text row text)) =
    c.copy_from_slice.ensures.after ∙ c.head.ensures
    ∙ ap (λ (k : ℕ). row.depth ∷ row.kind ∷ (twos 4 row.a ++ (twos 4 row.b ++ (row.language ∷ k ∷ [])))) n in
    let twelve = head_long (seen (with_text row text)) in
    let p : take (at + length top) half ≡ take at old ++ top = take-put_mid at (at + 12 - at) old top (at + length top) refl (omega arith) in
    let new : List ℕ = _ in
    ap (λ (k : ℕ). take (at + (12 + k)) new) n
    ∙ laid _ _ _ top text at _ t twelve p
    (copied_behind half c.copy_to.new.out text (at + 12) _ c.copy_to.result (grind (arith, common_steps, ap length t, twelve)) refl c.copy_to.ensures.fits c.copy_to.ensures.wrote)
