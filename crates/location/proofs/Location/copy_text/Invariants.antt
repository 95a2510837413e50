use Rattle.std.proofs.Common.{◌≡◌, ◌++◌, length, take, drop}
use Rattle.grammar.specs.Grammar.{Bytes}
use Rattle.location.specs.Answers.{head_text}
use Rattle.location.proofs.Location.copy_text.Given as goal

-- the places before this one have the text's bytes, and the others what they had
abbrev pub invariant-loop-i : goal.invariant-loop-i
invariant-loop-i g l =
    let t = head_text (g.Self.Location.rows l.self l.m) in
    (l.place-items ≡ take l.i t ++ drop l.i l.initial.place-items) × Bytes (take l.i t) × (length t ≡ l.length)
