use Rattle.std.proofs.Common.{◌≡◌, length, take, subst, ◌∙◌, arith, take_all, rules, length-take-le}
use Rattle.grammar.specs.Grammar.{Bytes}
use Rattle.location.specs.Answers.{head_text}
use Rattle.location.proofs.Copied.{nth_some, copied_one, bytes_one, copied_all}
use Rattle.location.proofs.Location.copy_text.Goals as goal
use Rattle.location.proofs.Location.copy_text.Goals.{in-Some, in_default}

pub loop-i-preserved : goal.loop-i-preserved
loop-i-preserved g c =
    let t = head_text (g.Self.Location.rows c.args.self.now c.args.m) in
    let (copied, bytes, long) = c.loop-i.invariant in
    let n : length (take c.map_or-length.result c.args.out.now) ≡ c.map_or-length.result =
    length-take-le c.map_or-length.result c.args.out.now c.if-length-out.false in
    elim c.match-byte.branch [
      | in-Some w ↦ (
        w.place-items-is ∙ copied_one t (take c.map_or-length.result c.args.out.now) c.loop-i.place-items c.loop-i.i w.in-Some.b copied (omega arith) (omega arith) w.in-Some.ensures,
        bytes_one t c.loop-i.i w.in-Some.b bytes w.in-Some.ensures (search rules),
        long,
      )
      | in_default w ↦ let z = nth_some t c.loop-i.i w.in_default.ensures in absurd (omega arith)
    ]

pub returns-clause-wrote : goal.returns-clause-wrote
returns-clause-wrote g c =
    let t = head_text (g.Self.Location.rows c.args.self.now c.args.m) in
    let (copied, _, long) = c.loop-i.invariant in
    copied_all t c.args.out.now c.loop-i.place-items c.loop-i.i c.map_or-length.result copied long c.if-length-out.false c.loop-i-test.false

pub returns-clause-bytes : goal.returns-clause-bytes
returns-clause-bytes g c =
    let t = head_text (g.Self.Location.rows c.args.self.now c.args.m) in
    let (_, bytes, long) = c.loop-i.invariant in
    let n = length-take-le c.map_or-length.result c.args.out.now c.if-length-out.false in
    λ _. subst Bytes (take_all c.loop-i.i t (omega arith)) bytes
