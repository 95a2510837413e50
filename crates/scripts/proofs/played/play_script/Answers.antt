use Rattle.std.proofs.Common.{◌≡◌, ℕ, ◌≤◌, Bool, true, List, ◌++◌, map, length, string_bytes, ap, ◌∙◌, subst, ap₂, arith, rules}
use Rattle.sheet.specs.Held.{held}
use Rattle.runs.specs.Scripts.{called, rooms, Ran}
use Rattle.scripts.specs.Played.{asked_call, Played}
use Rattle.scripts.proofs.Playing.{all_played, fits}
use Rattle.scripts.proofs.played.play_script.Goals as goal

pub list_answers-requires : goal.list_answers-requires
list_answers-requires c =
    let room : c.in_ok-room.room ≡ rooms (map asked_call c.args.script.now) = search rules in
    omega (arith, room, c.run_script-sheet.auto.out, c.as_mut_slice-out.ensures.len, c.in_ok-out.ensures.len)

pub returns : goal.returns
returns c =
    let script = c.args.script.now in
    let calls = c.deref.result.now in
    let before = c.as_mut_slice-answers.result.now in
    let out-before = c.as_mut_slice-out.result.now in
    let run = c.run_script-sheet in
    let all : c.in_ok-room.room ≡ rooms (map asked_call script) = search rules in
    let same : map called calls ≡ map asked_call script = ap (map called) c.deref.ensures.value ∙ c.in_ok-calls.ensures in
    let many : length before ≡ length script = omega (arith, c.as_mut_slice-answers.ensures.len, c.in_ok-answers.ensures.len) in
    let room : rooms (map called calls) ≤ length out-before = omega (arith, ap rooms same, all, c.as_mut_slice-out.ensures.len, c.in_ok-out.ensures.len) in
    let size : length c.as_mut_slice-buffer.result.now ≡ c.args.size = omega (arith, c.as_mut_slice-buffer.ensures.len, c.in_ok-buffer.ensures.len) in
    let fit = fits script calls (length before) (length out-before) same (omega (arith, many)) room in
    let ran : Ran (length c.as_mut_slice-buffer.result.now) calls before run.new.answers out-before run.new.out (held run.result.store) true =
    subst (λ (b : Bool). Ran (length c.as_mut_slice-buffer.result.now) calls before run.new.answers out-before run.new.out (held run.result.store) b) fit run.ensures.ran in
    subst (λ (n : ℕ). Played n (map asked_call script) (string_bytes c.push_str.new.self)) size
    (all_played (length c.as_mut_slice-buffer.result.now) script calls before run.new.answers out-before run.new.out (held run.result.store) (string_bytes c.push_str.new.self) same many room ran
    (c.in_ok-push_str.ensures.bytes ∙ ap₂ (λ (x y : List ℕ). x ++ y) c.in_ok-text.ensures (c.as_str.ensures.value ∙ c.in_ok-rows.ensures)))
