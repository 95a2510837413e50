-- What a call writes to its part of an output.
-- Assumes nothing.
use Rattle.std.proofs.Common.{◌≡◌, ℕ, ◌+◌, ◌≤◌, List, [], ◌++◌, length, take, drop, Ok, Err, Result, sym, refl, ap, ◌∙◌, arith, take-append-drop}
use borrow.Rule.Slice.PartMut.{put_mid, put_same}
use Rattle.std.proofs.lemmas.List.{append_assoc, drop-append-le, drop-drop, length-take-le, length-drop}
use Rattle.grammar.specs.declared.fault.SendFault.{SendFault}
use Rattle.grammar.specs.Grammar.{Rows}
use Rattle.grammar.specs.Reading.{reading}
use Rattle.grammar.specs.Sending.{sending_into}
use Rattle.grammar.specs.Sheet as S
use Rattle.grammar.specs.Sheet.{
  load,
  open_row,
  number,
  name,
  close,
  clear,
  finish,
  reopen,
  send,
  done,
  sent,
  refused,
  not_sent,
  not_now,
  Verdict,
  judge_draft,
  judge_load,
  judge_open,
  judge_number,
  judge_name,
  judge_close,
  answer_of,
  answer_of_send,
  room_in,
  BestSent,
}
use Rattle.sender.specs.Sent.{Sent}
use Rattle.runs.specs.Scripts.{put_at}
use Rattle.runs.specs.Turns.{laid}

-- the bytes that were sent, none where nothing was
abbrev pub bytes_sent : S.Answer → List ℕ
bytes_sent done = []
bytes_sent (sent bytes d) = bytes
bytes_sent (refused f) = []
bytes_sent (not_sent f) = []
bytes_sent not_now = []

-- what a send gives fits its room
pub within : (rows : Rows) (c : S.Call) (x : S.Answer) → BestSent rows c x → length (bytes_sent x) ≤ room_in c
within rows c done h = omega arith
within rows c (sent bytes d) h = h.1
within rows c (refused f) h = omega arith
within rows c (not_sent f) h = omega arith
within rows c not_now h = omega arith

-- a draft writes nothing to an output
pub draft_wrote : (size : ℕ) (rows : Rows) (ks : List ℕ) (c : S.Call) (out : List ℕ) → out ≡ laid (judge_draft size rows ks c) out
draft_wrote size rows ks c out = go c
  where
    quiet : (v : Verdict) → out ≡ laid (answer_of v) out
    quiet (Ok u) = refl
    quiet (Err f) = refl

    go : (c : S.Call) → out ≡ laid (judge_draft size rows ks c) out
    go (load bs) = quiet (judge_load size rows ks (reading bs))
    go (open_row k a b) = quiet (judge_open size rows ks k a b)
    go (number k a b) = quiet (judge_number size rows ks k a b)
    go (name k l t) = quiet (judge_name size rows ks k l t)
    go close = quiet (judge_close rows ks)
    go clear = refl
    go finish = refl
    go reopen = refl
    go (send room) = refl

-- what a send writes to an output of its own
pub send_wrote : (rows : Rows) (before after : List ℕ) (r : Result (ℕ × ℕ) SendFault) (room : ℕ) → length before ≡ room → Sent rows before r after
    → after ≡ laid (answer_of_send (sending_into rows room)) before
send_wrote rows before after (Ok (n, d)) room e s =
    let gives : sending_into rows room ≡ Ok (take n after) = ap (sending_into rows) (sym e) ∙ s.0 in
    let split : after ≡ take n after ++ drop (length (take n after)) before =
    sym (take-append-drop n after) ∙ ap (λ (xs : List ℕ). take n after ++ xs) (s.3 ∙ ap (λ (m : ℕ). drop m before) (sym s.1)) in
    split ∙ sym (ap (λ (x : Result (List ℕ) SendFault). laid (answer_of_send x) before) gives)
send_wrote rows before after (Err f) room e s =
    let gives : sending_into rows room ≡ Err f = ap (sending_into rows) (sym e) ∙ s.0 in
    s.1 ∙ sym (ap (λ (x : Result (List ℕ) SendFault). laid (answer_of_send x) before) gives)

-- what is written to a part of an output is written to the output from there on
pub put_part : (at k : ℕ) (x : S.Answer) (out : List ℕ) → at + k ≤ length out → length (bytes_sent x) ≤ k
    → put_mid at k out (laid x (take k (drop at out))) ≡ put_at at x out
put_part at k done out h w = put_same at k out
put_part at k (sent bytes d) out h w =
    let part : List ℕ = take k (drop at out) in
    let long : length part ≡ k = length-take-le k (drop at out) (omega (arith, length-drop at out)) in
    let rest : drop (length bytes) part ++ drop k (drop at out) ≡ drop (at + length bytes) out =
    sym (drop-append-le (length bytes) part (drop k (drop at out)) (omega arith))
    ∙ ap (drop (length bytes)) (take-append-drop k (drop at out))
    ∙ drop-drop (length bytes) at out in
    ap (λ (xs : List ℕ). take at out ++ xs)
    (append_assoc bytes (drop (length bytes) part) (drop k (drop at out)) ∙ ap (λ (xs : List ℕ). bytes ++ xs) rest)
put_part at k (refused f) out h w = put_same at k out
put_part at k (not_sent f) out h w = put_same at k out
put_part at k not_now out h w = put_same at k out
