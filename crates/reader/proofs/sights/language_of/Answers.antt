use Rattle.std.proofs.Common.{refl, ◌≡◌, ℕ, ◌+◌, get_or, Some, None, Option, ap, ◌∙◌, arith}
use Rattle.grammar.specs.declared.table.Fields.TheVariants.{Text}
use Rattle.grammar.specs.Reading.{or_else}
use Rattle.grammar.specs.Offsets.{least}
use Rattle.reader.specs.Stands.{language_in}
use Rattle.reader.proofs.Sighted.{language_said}
use Rattle.std.specs.Option.{unwrap_or}
use Rattle.reader.proofs.sights.language_of.Goals as goal

-- what a text says, or else the default
said : (d : ℕ) (l : Option ℕ) → unwrap_or l d ≡ or_else d l
said d (Some x) = refl
said d None = refl

pub returns : goal.returns
returns c =
    let bs = c.args.bytes.now in
    let d = get_or bs 0 0 in
    let e : c.args.from + 1 + c.from.result ≡ c.args.from + least bs Text c.args.from = omega arith in
    c.unwrap_or.ensures ∙ said d c.language_in.result ∙ ap (or_else d) (c.language_in.ensures ∙ ap (λ (x : ℕ). language_in bs x c.args.stop) e)
    ∙ language_said bs d c.args.from c.args.stop c.requires.within
