use Rattle.std.proofs.Common.{◌≡◌, [], ◌++◌, map, take, drop}
use Rattle.runs.specs.Scripts.{called, shown_in, rooms, entries, since, written}
use Rattle.sheet.specs.Kept.{size_of}
use Rattle.runs.specs.Turns.{Tied}
use Rattle.runs.proofs.run.go.Given as goal

abbrev pub invariant-loop-i : goal.invariant-loop-i
invariant-loop-i l =
    record {
      tied : Tied (size_of l.fn.draft) l.stage (since [] (entries (size_of l.fn.draft) [] (map called (take l.i l.calls))));
      told : l.answers ≡ map shown_in (entries (size_of l.fn.draft) [] (map called (take l.i l.calls))) ++ drop l.i l.initial.answers;
      wrote : l.out ≡ written 0 (entries (size_of l.fn.draft) [] (map called (take l.i l.calls))) l.initial.out;
      there : l.at ≡ rooms (map called (take l.i l.calls));
    }
