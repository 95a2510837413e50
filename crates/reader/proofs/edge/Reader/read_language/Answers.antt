use Rattle.std.proofs.Common.{◌≡◌, ℕ, ◌+◌, is_some, Some, None, Err, Option, List, get_or, sym, refl, ap, ap₂, ◌∙◌, arith, rules}
use Rattle.std.proofs.lemmas.Result.{err_from_is_err_and}
use Rattle.grammar.specs.Reading.{heard}
use Rattle.grammar.specs.Checks.{tail_of}
use Rattle.grammar.proofs.Steps.{tail_done, tail_past, tail_other, tail_second, tail_size, tail_language}
use Rattle.reader.proofs.edge.Reader.read_language.Goals as goal
use Rattle.reader.proofs.edge.Reader.read_language.Goals.{then-id-eq-LANGUAGE+else-is_some+else-stop-self-ne1, else-id-eq-LANGUAGE}

heard_some : (l : Option ℕ) → heard l ≡ is_some l
heard_some None = refl
heard_some (Some x) = refl

pub returns-in_err-stop : goal.returns-in_err-stop
returns-in_err-stop c =
    let p = err_from_is_err_and c.from_residual.result c.from_residual.ensures.1 in
    let i = c.loop-self.invariant in
    let q = sym c.header.ensures.value ∙ c.in_err-stop.was in
    record {
      value = p.1 ∙ ap Err p.2 ∙ sym (i.1 ∙ tail_past c.loop-self.self.bytes.now c.args.level _ _ c.loop-self.language (omega arith) (omega arith) _ q);
      edge = search rules;
      moved = rw p.1 tt;
    }

pub returns-then-is_some : goal.returns-then-is_some
returns-then-is_some c =
    let i = c.loop-self.invariant in
    let q = sym c.header.ensures.value ∙ c.in_ok-stop.was in
    record {
      value = sym (i.1 ∙ tail_second c.loop-self.self.bytes.now c.args.level _ _ c.loop-self.language (omega arith) (omega arith) _ q
          c.if-id-eq-LANGUAGE.true (heard_some c.loop-self.language ∙ sym c.if-is_some.ensures));
      edge = search rules;
      moved = tt;
    }

pub returns-then-stop-self-ne1 : goal.returns-then-stop-self-ne1
returns-then-stop-self-ne1 c =
    let i = c.loop-self.invariant in
    let q = sym c.header.ensures.value ∙ c.in_ok-stop.was in
    let m = c.in_ok-stop.ensures.moved in
    record {
      value = sym (i.1 ∙ tail_size c.loop-self.self.bytes.now c.args.level _ _ c.loop-self.language (omega arith) (omega arith) _ q
          c.if-id-eq-LANGUAGE.true (heard_some c.loop-self.language ∙ sym c.if-is_some.ensures) (omega arith));
      edge = search rules;
      moved = tt;
    }

pub loop-self-preserved : goal.loop-self-preserved
loop-self-preserved c =
    let i = c.loop-self.invariant in
    let q = sym c.header.ensures.value ∙ c.in_ok-stop.was in
    let m = c.in_ok-stop.ensures.moved in
    let bs = c.loop-self.self.bytes.now in
    let e = c.header.ensures.edge in (
      (e.0 ∙ i.0.0, e.1 ∙ i.0.1),
      i.1 ∙ (elim c.if-id-eq-LANGUAGE.branch [
        | then-id-eq-LANGUAGE+else-is_some+else-stop-self-ne1 w ↦
            tail_language bs c.args.level _ _ c.loop-self.language (omega arith) (omega arith) _ q
            w.if-id-eq-LANGUAGE.true (heard_some c.loop-self.language ∙ sym w.if-is_some.ensures) (omega arith)
            ∙ ap (λ (b : List ℕ). tail_of bs c.args.level (Some (get_or b (c.loop-self.self.at + 2) 0)) c.in_ok-stop.stop c.loop-self.self.end) (sym e.0)
            ∙ ap (λ (x : Option ℕ). tail_of bs c.args.level x c.in_ok-stop.stop c.loop-self.self.end) (sym w.language-is)
        | else-id-eq-LANGUAGE w ↦
            tail_other bs c.args.level _ _ c.loop-self.language (omega arith) (omega arith) _ q w.if-id-eq-LANGUAGE.false
            ∙ ap (λ (x : Option ℕ). tail_of bs c.args.level x c.in_ok-stop.stop c.loop-self.self.end) (sym w.language-is)
      ])
          ∙ ap₂ (λ (b : List ℕ) (x : ℕ). tail_of b c.args.level c.if-id-eq-LANGUAGE.language c.in_ok-stop.stop x) (sym e.0) (sym e.1),
    )

pub returns : goal.returns
returns c =
    let i = c.loop-self.invariant in
    record {
      value = sym (i.1 ∙ tail_done c.loop-self.self.bytes.now c.args.level _ _ c.loop-self.language (omega arith));
      edge = search rules;
      moved = omega arith;
    }
