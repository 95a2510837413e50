use Rattle.std.proofs.Common.{◌≡◌, ◌-◌, ◌++◌, List, map, length, take, drop, string_bytes, sym, ap, ◌∙◌, ap₂, arith, append-nil, ℕ}
use Rattle.std.specs.Iterator.Adapters.{zip_first, zip_second}
use Rattle.std.specs.Slice.Iter.{iter_rest}
use Rattle.std.proofs.lemmas.List.{take_rest, length-drop}
use Rattle.std.proofs.lemmas.Slice.Zip.{Zip-more, either_empty_from_Zip}
use Rattle.grammar.specs.Sheet.{room_in}
use Rattle.listing.proofs.Writing.{line_more}
use Rattle.runs.specs.declared.script.Answer.{Answer}
use Rattle.runs.specs.Scripts.{rooms}
use Rattle.scripts.specs.declared.asked.Asked.{Asked}
use Rattle.scripts.specs.Answered.{answer_text}
use Rattle.scripts.specs.Played.{asked_call, sent_size, lines_from}
use Rattle.scripts.proofs.Playing.{lines_here, lines_none}
use Rattle.scripts.proofs.played.list_answers.Goals as goal

pub loop-asked-init : goal.loop-asked-init
loop-asked-init c =
    let all : iter_rest (zip_first c.into_iter-asked-iterator.result) ≡ c.args.script.now = cc in
    let told : iter_rest (zip_second c.into_iter-asked-iterator.result) ≡ c.args.answers.now = cc in
    record {
      lines =
          ap (λ (bs : List ℕ). bs ++ lines_from 0 (map asked_call (iter_rest (zip_first c.into_iter-asked-iterator.result))) (iter_rest (zip_second c.into_iter-asked-iterator.result)) c.args.out.now) c.new-text.ensures.bytes
          ∙ ap₂ (λ (ys : List Asked) (xs : List Answer). lines_from 0 (map asked_call ys) xs c.args.out.now) all told;
      room = omega (arith, ap (λ (ys : List Asked). rooms (map asked_call ys)) all, c.requires);
    }

pub slice_bounds-rest-count : goal.slice_bounds-rest-count
slice_bounds-rest-count c =
    let m = Zip-more c.loop-asked.asked-iterator c.next.new.self c.next.result (c.in-Some.asked, c.in-Some.answer) c.in-Some.is c.next.ensures.steps in
    omega (arith, ap (λ (ys : List Asked). rooms (map asked_call ys)) m.0, c.room.ensures, c.loop-asked.invariant.room)

pub loop-asked-preserved : goal.loop-asked-preserved
loop-asked-preserved c =
    let m = Zip-more c.loop-asked.asked-iterator c.next.new.self c.next.result (c.in-Some.asked, c.in-Some.answer) c.in-Some.is c.next.ensures.steps in
    let left = c.next.new.self in
    let rest = c.loop-asked.rest.now in
    let answer = c.in-Some.answer.now in
    let size = sent_size answer in
    let room = c.room.result in
    let sent : c.front-sent.result.now ≡ take size rest = c.front-sent.ensures ∙ ap (λ (n : ℕ). take n rest) c.sent_length.ensures in
    let line : c.as_str.result.now ≡ answer_text answer (take size rest) = c.as_str.ensures.value ∙ c.in_ok-line.ensures ∙ ap (answer_text answer) sent in
    let written : string_bytes c.push_str.new.self ≡ string_bytes c.loop-asked.text ++ answer_text answer (take size rest) =
    c.in_ok-push_str.ensures.bytes ∙ ap (λ (xs : List ℕ). string_bytes c.loop-asked.text ++ xs) line in
    let there = lines_here _ _ _ _ rest c.in-Some.asked.now answer m.0 m.1 in
    let behind : drop (room_in (asked_call c.in-Some.asked.now)) rest ≡ take (length rest - room) (drop room rest) =
    ap (λ (n : ℕ). drop n rest) (sym c.room.ensures) ∙ sym (take_rest rest room) in
    let behind-lines = ap (λ (bs : List ℕ). answer_text answer (take size rest) ++ lines_from 0 (map asked_call (iter_rest (zip_first left))) (iter_rest (zip_second left)) bs) behind in
    record {
      lines = line_more _ _ _ _ _ _ written (there ∙ behind-lines) c.loop-asked.invariant.lines;
      room =
          omega (arith, ap (λ (ys : List Asked). rooms (map asked_call ys)) m.0, c.room.ensures, c.loop-asked.invariant.room, ap length behind, length-drop (room_in (asked_call c.in-Some.asked.now)) rest);
    }

pub returns : goal.returns
returns c =
    let i = c.loop-asked.asked-iterator in
    let none = lines_none (iter_rest (zip_first i)) (iter_rest (zip_second i)) c.loop-asked.rest.now (either_empty_from_Zip i c.next.new.self c.next.result c.in-None.is c.next.ensures.steps) in
    sym (append-nil (string_bytes c.loop-asked.text)) ∙ ap (λ (xs : List ℕ). string_bytes c.loop-asked.text ++ xs) (sym none) ∙ c.loop-asked.invariant.lines
