-- What a script's run writes down, call by call.
-- Assumes nothing.
use Rattle.std.proofs.Common.{◌≡◌, ℕ, ◌+◌, ltb, List, [], ◌∷◌, ◌++◌, map, length, Some, None, Ok, Err, Option, sym, refl, ap, ◌∙◌, add-zero, add_assoc, ltb-false, ltb-true}
use Rattle.std.proofs.lemmas.List.{append_assoc, append-nil}
use Rattle.grammar.specs.Grammar.{Rows}
use Rattle.grammar.specs.Reading.{reading}
use Rattle.grammar.specs.Sending.{sending, into}
use Rattle.grammar.specs.Sheet as S
use Rattle.grammar.specs.Sheet.{
  load,
  open_row,
  number,
  name,
  close,
  clear,
  finish,
  reopen,
  send,
  done,
  sent,
  refused,
  not_sent,
  not_now,
  Entry,
  Log,
  Stage,
  draft,
  fair,
  stage,
  held,
  loaded,
  added,
  opened,
  judge,
  Verdict,
  answer_of,
  answer_of_send,
  judge_load,
  judge_open,
  judge_number,
  judge_name,
  judge_close,
  told_by,
  row_of_numbers,
  row_of_name,
  room_in,
  BestSent,
  Lawful,
}
use Rattle.grammar.proofs.Sends.{sends}
use Rattle.grammar.proofs.Cut.{by_cases}
use Rattle.runs.specs.Scripts.{call_in, rooms, put_at, written, since, entry_of, entries, rows_after}

plain : (rows : Rows) (c : S.Call) (v : Verdict) → BestSent rows c (answer_of v)
plain rows c (Ok u) = tt
plain rows c (Err f) = tt

best_into : (rows : Rows) (room : ℕ) (o : Option (List ℕ)) → sending rows ≡ o → BestSent rows (send room) (answer_of_send (into o room))
best_into rows room None e = sends.1 rows e
best_into rows room (Some bytes) e =
    by_cases (ltb room (length bytes))
    (λ q. rw q (bytes, sends.0 rows bytes e, refl, ltb-true room (length bytes) q))
    (λ q. rw q (sends.0 rows bytes e, ltb-false room (length bytes) q, refl))

-- a send that is judged gives the best container of the rows
pub best : (s : Stage) (size : ℕ) (rows : Rows) (ks : List ℕ) (c : S.Call) → BestSent rows c (judge s size rows ks c)
best draft size rows ks (load bs) = plain rows (load bs) (judge_load size rows ks (reading bs))
best draft size rows ks (open_row k a b) = plain rows (open_row k a b) (judge_open size rows ks k a b)
best draft size rows ks (number k a b) = plain rows (number k a b) (judge_number size rows ks k a b)
best draft size rows ks (name k l t) = plain rows (name k l t) (judge_name size rows ks k l t)
best draft size rows ks close = plain rows close (judge_close rows ks)
best draft size rows ks clear = tt
best draft size rows ks finish = tt
best draft size rows ks reopen = tt
best draft size rows ks (send room) = tt
best fair size rows ks (load bs) = tt
best fair size rows ks (open_row k a b) = tt
best fair size rows ks (number k a b) = tt
best fair size rows ks (name k l t) = tt
best fair size rows ks close = tt
best fair size rows ks clear = tt
best fair size rows ks finish = tt
best fair size rows ks reopen = tt
best fair size rows ks (send room) = best_into rows room (sending rows) refl

-- entries that answer as is judged keep the law
pub lawful : (size : ℕ) (log : Log) (cs : List S.Call) → Lawful size log → Lawful size (since log (entries size log cs))
unfolding entries since
lawful size log [] h = h
lawful size log (c ∷ cs) h =
    lawful size (entry_of size log c ∷ log) cs (refl, best (stage log) size (held log) (opened log) c, h)

pub calls_in : (size : ℕ) (log : Log) (cs : List S.Call) → map call_in (entries size log cs) ≡ cs
unfolding entries
calls_in size log [] = refl
calls_in size log (c ∷ cs) = ap (λ (ds : List S.Call). c ∷ ds) (calls_in size (entry_of size log c ∷ log) cs)

pub since_more : (log : Log) (es : List Entry) (e : Entry) → since log (es ++ (e ∷ [])) ≡ e ∷ since log es
unfolding since
since_more log [] e = refl
since_more log (x ∷ es) e = since_more (x ∷ log) es e

pub entries_more : (size : ℕ) (log : Log) (cs : List S.Call) (c : S.Call)
    → entries size log (cs ++ (c ∷ [])) ≡ entries size log cs ++ (entry_of size (since log (entries size log cs)) c ∷ [])
unfolding entries since
entries_more size log [] c = refl
entries_more size log (x ∷ cs) c = ap (λ (es : List Entry). entry_of size log x ∷ es) (entries_more size (entry_of size log x ∷ log) cs c)

pub written_more : (at : ℕ) (es : List Entry) (e : Entry) (out : List ℕ)
    → written at (es ++ (e ∷ [])) out ≡ put_at (at + rooms (map call_in es)) e.answer (written at es out)
unfolding written
written_more at [] e out = ap (λ (n : ℕ). put_at n e.answer out) (sym (add-zero at))
written_more at (x ∷ es) e out =
    written_more (at + room_in x.call) es e (put_at at x.answer out)
    ∙ ap (λ (n : ℕ). put_at n e.answer (written (at + room_in x.call) es (put_at at x.answer out))) (add_assoc at (room_in x.call) (rooms (map call_in es)))

-- the rows held after one more call, from those held before
pub held_more : (c : S.Call) (x : S.Answer) (log : Log)
    → held (record { call = c; answer = x } ∷ log) ≡ rows_after c x (length (opened log)) (held log)
held_more c (refused f) log = refl
held_more c (not_sent f) log = refl
held_more c not_now log = refl
held_more (load bs) done log = append-nil (told_by (reading bs))
held_more (open_row k a b) done log = sym (append_assoc (loaded log) (added log) (row_of_numbers (length (opened log)) k a b ∷ []))
held_more (number k a b) done log = sym (append_assoc (loaded log) (added log) (row_of_numbers (length (opened log)) k a b ∷ []))
held_more (name k l t) done log = sym (append_assoc (loaded log) (added log) (row_of_name (length (opened log)) k l t ∷ []))
held_more close done log = refl
held_more clear done log = refl
held_more finish done log = refl
held_more reopen done log = refl
held_more (send room) done log = refl
held_more (load bs) (sent bytes d) log = append-nil (told_by (reading bs))
held_more (open_row k a b) (sent bytes d) log = sym (append_assoc (loaded log) (added log) (row_of_numbers (length (opened log)) k a b ∷ []))
held_more (number k a b) (sent bytes d) log = sym (append_assoc (loaded log) (added log) (row_of_numbers (length (opened log)) k a b ∷ []))
held_more (name k l t) (sent bytes d) log = sym (append_assoc (loaded log) (added log) (row_of_name (length (opened log)) k l t ∷ []))
held_more close (sent bytes d) log = refl
held_more clear (sent bytes d) log = refl
held_more finish (sent bytes d) log = refl
held_more reopen (sent bytes d) log = refl
held_more (send room) (sent bytes d) log = refl
