use Rattle.std.proofs.Common.{ℕ, ◌+◌, Some, sym, ap, ◌∙◌, arith}
use Rattle.grammar.specs.Offsets.{ends_there}
use Rattle.reader.proofs.Passed.{room_some, room_short, end_short, end_over, end_fills, end_open}
use Rattle.reader.proofs.edge.Reader.fields_end.Goals as goal
use Rattle.reader.proofs.edge.Reader.fields_end.Goals.{else-ends_there-via-then-ends_there+else-size-self, else-ends_there-via-else-ends_there}

pub returns-in_err-size : goal.returns-in_err-size
returns-in_err-size c =
    let bs = c.args.self.now.bytes.now in
    let k = c.args.kind in
    let from = c.args.self.now.at in
    let to = c.args.self.now.end in
    c.from_residual.ensures ∙ end_short bs k from to (room_short bs k from to (sym c.in_err-size.was ∙ c.fields_size.ensures))

pub returns-then-size-self : goal.returns-then-size-self
returns-then-size-self c =
    let bs = c.args.self.now.bytes.now in
    let k = c.args.kind in
    let from = c.args.self.now.at in
    let to = c.args.self.now.end in
    let w = room_some bs k from to c.in_ok-size.size (sym c.in_ok-size.was ∙ c.fields_size.ensures) in
    end_over bs k from to (omega arith) (ap ends_there (sym c.layout_of.ensures) ∙ sym c.if-ends_there.ensures) (λ e. c.if-size-self.true (omega arith))

pub returns : goal.returns
returns c =
    let bs = c.args.self.now.bytes.now in
    let k = c.args.kind in
    let from = c.args.self.now.at in
    let to = c.args.self.now.end in
    let w = room_some bs k from to c.in_ok-size.size (sym c.in_ok-size.was ∙ c.fields_size.ensures) in
    ap (λ (n : ℕ). Some (from + n)) w.0
    ∙ elim c.else-ends_there.branch [
      | else-ends_there-via-then-ends_there+else-size-self w' ↦ end_fills bs k from to (omega arith) (omega (arith, w'.if-size-self.false))
      | else-ends_there-via-else-ends_there w' ↦ end_open bs k from to (omega arith) (ap ends_there (sym c.layout_of.ensures) ∙ sym w'.if-ends_there.ensures)
    ]
