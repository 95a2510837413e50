use Rattle.std.proofs.Common.{◌≡◌, ◌+◌, ◌-◌, ◌<◌, ◌≤◌, length, refl, ◌∙◌, arith, rules}
use Rattle.sheet.specs.Held.{held}
use Rattle.sheet.specs.Kept.{size_of}
use Rattle.runs.proofs.Running.{blank_call, begun, nothing_shown, nothing_written, rooms_within, rooms_more, tied_more, shown_more, written_then, all_run}
use Rattle.runs.proofs.run.go.Goals as goal

pub loop-i-init : goal.loop-i-init
loop-i-init c =
    let d = c.args.draft in
    record {
      tied = begun d c.requires.unused.0 c.requires.unused.1;
      told = nothing_shown (size_of d) c.args.answers.now;
      wrote = nothing_written (size_of d) c.args.out.now;
      there = refl;
    }

pub overflow_add-at : goal.overflow_add-at
overflow_add-at c =
    let within = rooms_within c.args.calls.now c.loop-i.i blank_call c.loop-i-test.true in
    let fits : c.loop-i.at + c.room-room.result ≤ length c.loop-i.out =
    omega (arith, within, c.room-room.ensures, c.loop-i.invariant.there, c.loop-i.auto.out, c.requires.room) in
    search rules

pub slice_bounds-step-end : goal.slice_bounds-step-end
slice_bounds-step-end c =
    let within = rooms_within c.args.calls.now c.loop-i.i blank_call c.loop-i-test.true in
    let fits : c.loop-i.at + c.room-room.result ≤ length c.loop-i.out =
    omega (arith, within, c.room-room.ensures, c.loop-i.invariant.there, c.loop-i.auto.out, c.requires.room) in
    search rules

pub loop-i-preserved : goal.loop-i-preserved
loop-i-preserved c =
    let l = c.loop-i in
    let h = c.loop-i-test.true in
    let a = c.args in
    let size = size_of a.draft in
    let s = c.step in
    let room = c.room-room.ensures in
    let within = rooms_within a.calls.now l.i blank_call h in
    let here : l.i < length a.answers.now = omega (arith, h, c.requires.answered) in
    let k : l.at + c.room-room.result - l.at ≡ c.room-room.result = omega arith in
    let fits : l.at + (l.at + c.room-room.result - l.at) ≤ length l.out =
    omega (arith, within, room, l.invariant.there, l.auto.out, c.requires.room) in
    record {
      tied = tied_more size a.calls.now l.i blank_call h l.stage l.invariant.tied s.result.0 s.ensures.turned;
      told = shown_more size a.calls.now l.i blank_call h l.stage l.invariant.tied a.answers.now l.answers s.result.1 here l.invariant.told s.ensures.told;
      wrote = written_then size a.calls.now l.i blank_call h l.stage l.invariant.tied a.out.now l.out s.new.part l.at _ (k ∙ room) fits l.invariant.there l.invariant.wrote s.ensures.wrote;
      there = omega (arith, rooms_more a.calls.now l.i blank_call h, l.invariant.there, room);
    }

pub returns : goal.returns
returns c =
    let l = c.loop-i in
    let n : l.i ≡ length c.args.calls.now = omega arith in
    let run = all_run (size_of c.args.draft) c.args.calls.now l.i c.args.answers.now l.answers c.args.out.now l.out l.stage (held c.finish.result.store) n l.invariant.told l.invariant.wrote l.invariant.tied c.finish.ensures.rows in
    record { ran = run; sized = c.finish.ensures.sized ∙ l.invariant.tied.size_is }
