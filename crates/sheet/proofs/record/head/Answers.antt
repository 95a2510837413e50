use Rattle.std.proofs.Common.{ℕ, List, [], ◌∷◌, ◌++◌, ap₂, w32, SFits, rules}
use Rattle.std.proofs.lemmas.Int.{to_z-of_z}
use Rattle.sheet.proofs.Encoded.{four_bytes}
use Rattle.sheet.proofs.record.head.Goals as goal

pub returns : goal.returns
returns c =
    let row = c.args.row in
    let fa : SFits w32 row.a = search rules in
    let fb : SFits w32 row.b = search rules in
    ap₂ (λ (x y : List ℕ). row.depth ∷ row.kind ∷ (x ++ (y ++ (row.language ∷ row.length ∷ []))))
    (four_bytes row.a _ (simp to_z-of_z at c.to_be_bytes.ensures))
    (four_bytes row.b _ (simp to_z-of_z at c.to_be_bytes-2.ensures))
