use Rattle.std.proofs.Common.{◌≡◌, ◌≤◌, ◌++◌, map, length, string_bytes}
use Rattle.std.specs.Iterator.Adapters.{zip_first, zip_second}
use Rattle.std.specs.Slice.Iter.{iter_rest}
use Rattle.runs.specs.Scripts.{rooms}
use Rattle.scripts.specs.Played.{asked_call, lines_from}
use Rattle.scripts.proofs.played.list_answers.Given as goal

-- what is written, and the lines of the answers to come, are all lines; the rooms to come lie in what is left of the output
abbrev pub invariant-loop-asked : goal.invariant-loop-asked
invariant-loop-asked l =
    record {
      lines : string_bytes l.text ++ lines_from 0 (map asked_call (iter_rest (zip_first l.asked-iterator))) (iter_rest (zip_second l.asked-iterator)) l.rest
          ≡ lines_from 0 (map asked_call l.fn.script) l.fn.answers l.fn.out;
      room : rooms (map asked_call (iter_rest (zip_first l.asked-iterator))) ≤ length l.rest;
    }
