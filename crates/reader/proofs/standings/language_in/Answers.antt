use Rattle.std.proofs.Common.{sym, ap, ◌∙◌, arith, None}
use Rattle.grammar.specs.Reading.{Read, Spoken}
use Rattle.grammar.specs.Walk.{read_or}
use Rattle.reader.proofs.Stood.{ok_none, ok_some, language_past, language_none, language_here}
use Rattle.reader.proofs.standings.language_in.Goals as goal

pub returns-then-stop-bytes : goal.returns-then-stop-bytes
returns-then-stop-bytes c = language_past c.args.bytes.now c.args.from c.args.stop (omega arith)

pub returns-then-stop-from : goal.returns-then-stop-from
returns-then-stop-from c = language_none c.args.bytes.now c.args.from c.args.stop (omega arith) (omega arith)

pub returns-in_err-ok : goal.returns-in_err-ok
returns-in_err-ok c =
    let r = ok_none c.read_language.result (sym c.ok.ensures.value ∙ c.in_err-ok.was) in
    c.from_residual.ensures
    ∙ ap (λ (r : Read Spoken). read_or r None (λ l. l)) (sym r.1 ∙ c.read_language.ensures.value)
    ∙ sym (language_here c.args.bytes.now c.args.from c.args.stop (omega arith))

pub returns : goal.returns
returns c =
    let r = ok_some c.read_language.result _ (sym c.ok.ensures.value ∙ c.in_ok-ok.was) in
    ap (λ (r : Read Spoken). read_or r None (λ l. l)) (sym r ∙ c.read_language.ensures.value)
    ∙ sym (language_here c.args.bytes.now c.args.from c.args.stop (omega arith))
