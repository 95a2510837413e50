-- One turn of a script's run.
-- Assumes nothing.
use Rattle.std.proofs.Common.{◌≡◌, ℕ, ◌+◌, ◌-◌, ◌<◌, ◌≤◌, List, [], ◌∷◌, ◌++◌, map, length, get_or, take, drop, set, sym, refl, ap, ◌∙◌, subst, ap₂, arith}
use borrow.Rule.Slice.PartMut.{put_mid}
use Rattle.std.proofs.lemmas.List.{append_assoc, map-append, map_push, map_more, length-map, length-take-le, take-append-drop, take_all, drop_more, drop_all, set-append_right}
use Rattle.grammar.specs.Grammar.{Rows}
use Rattle.grammar.specs.Sheet as S
use Rattle.grammar.specs.Sheet.{Entry, Log, stage, opened, if_accepted, opened_by, stage_by, room_in}
use Rattle.sheet.specs.declared.kept.Draft.{Draft}
use Rattle.sheet.specs.Kept.{rows_held, rows_open, size_of}
use Rattle.runs.specs.declared.script.Call.{Call}
use Rattle.runs.specs.declared.script.Call.TheVariants.{Load}
use Rattle.runs.specs.declared.script.Answer.{Answer}
use Rattle.runs.specs.declared.stage.Stage.{Stage}
use Rattle.runs.specs.declared.stage.Stage.TheVariants.{Draft as a_draft}
use Rattle.runs.specs.Scripts.{called, call_in, shown, shown_in, rooms, put_at, written, since, entry_of, entries, rows_after, Runs}
use Rattle.runs.specs.Turns.{stage_of, rows_on, open_on, size_on, answer_on, laid, Turned, Tied}
use Rattle.runs.proofs.Parted.{bytes_sent, within, put_part}
use Rattle.runs.proofs.Scripted.{calls_in, since_more, entries_more, written_more, held_more, lawful, best}

-- what stands past the end of a script
abbrev pub blank_call : Call
blank_call = Load (record { ref_ptr = (0, 0); now = [] })

rooms_append : (xs ys : List S.Call) → rooms (xs ++ ys) ≡ rooms xs + rooms ys
rooms_append [] ys = omega arith
rooms_append (x ∷ xs) ys = omega (arith, rooms_append xs ys)

pub rooms_here : (calls : List Call) (i : ℕ) (d : Call) → i < length calls
    → rooms (map called (drop i calls)) ≡ room_in (called (get_or calls i d)) + rooms (map called (drop (i + 1) calls))
rooms_here calls i d h = ap (λ (cs : List Call). rooms (map called cs)) (drop_more calls i d h)

pub rooms_none : (calls : List Call) (i : ℕ) → length calls ≤ i → rooms (map called (drop i calls)) ≡ 0
rooms_none calls i h = ap (λ (cs : List Call). rooms (map called cs)) (drop_all i calls h)

pub rooms_more : (calls : List Call) (i : ℕ) (d : Call) → i < length calls
    → rooms (map called (take (i + 1) calls)) ≡ rooms (map called (take i calls)) + room_in (called (get_or calls i d))
rooms_more calls i d h =
    let a = ap rooms (map_more called calls i d h) in
    let b = rooms_append (map called (take i calls)) (called (get_or calls i d) ∷ []) in
    omega (arith, a, b)

rooms_split : (calls : List Call) (i : ℕ) → rooms (map called calls) ≡ rooms (map called (take i calls)) + rooms (map called (drop i calls))
rooms_split calls i =
    ap (λ (cs : List Call). rooms (map called cs)) (sym (take-append-drop i calls))
    ∙ ap rooms (map-append called (take i calls) (drop i calls))
    ∙ rooms_append (map called (take i calls)) (map called (drop i calls))

-- the room of a call lies within the rooms of all
pub rooms_within : (calls : List Call) (i : ℕ) (d : Call) → i < length calls
    → rooms (map called (take i calls)) + room_in (called (get_or calls i d)) ≤ rooms (map called calls)
rooms_within calls i d h = omega (arith, rooms_split calls i, rooms_here calls i d h)

-- an unused sheet is as the empty log says
pub begun : (d : Draft) → rows_held d ≡ [] → rows_open d ≡ [] → Tied (size_of d) (a_draft d) (since [] (entries (size_of d) [] []))
unfolding since entries
begun d r o = record { rows_are = r; open_are = o; stage_is = refl; size_is = refl }

pub nothing_shown : (size : ℕ) (answers : List Answer) → answers ≡ map shown_in (entries size [] []) ++ answers
unfolding entries
nothing_shown size answers = refl

pub nothing_written : (size : ℕ) (out : List ℕ) → out ≡ written 0 (entries size [] []) out
unfolding entries written
nothing_written size out = refl

module _ (size : ℕ) (calls : List Call) (i : ℕ) (d : Call) (h : i < length calls) where
  abbrev so_far : List Entry
  so_far = entries size [] (map called (take i calls))

  abbrev log : Log
  log = since [] so_far

  abbrev here : S.Call
  here = called (get_or calls i d)

  abbrev new : Entry
  new = entry_of size log here

  grown : entries size [] (map called (take (i + 1) calls)) ≡ so_far ++ (new ∷ [])
  grown = ap (entries size []) (map_more called calls i d h) ∙ entries_more size [] (map called (take i calls)) here

  log_grown : since [] (entries size [] (map called (take (i + 1) calls))) ≡ new ∷ log
  log_grown = ap (since []) grown ∙ since_more [] so_far new

  many : length so_far ≡ i
  many =
      sym (length-map so_far call_in) ∙ ap length (calls_in size [] (map called (take i calls))) ∙ length-map (take i calls) called
      ∙ length-take-le i calls (omega arith)

  module _ (sheet : Stage) (t : Tied size sheet log) where
    -- the answer given is the one that the log gets
    answered : answer_on sheet (get_or calls i d) ≡ new.answer
    answered = simp (t.stage_is, t.size_is, t.rows_are, t.open_are)

    pub tied_more : (after : Stage) → Turned sheet here (answer_on sheet (get_or calls i d)) after
        → Tied size after (since [] (entries size [] (map called (take (i + 1) calls))))
    tied_more after w =
        subst (Tied size after) (sym log_grown)
        (record {
          rows_are = w.rows_then
              ∙ ap (λ (x : S.Answer). rows_after here x (length (open_on sheet)) (rows_on sheet)) answered
              ∙ ap₂ (λ (ks : List ℕ) (rs : Rows). rows_after here new.answer (length ks) rs) t.open_are t.rows_are
              ∙ sym (held_more here new.answer log);
          open_are = w.open_then
              ∙ ap₂ (λ (x : S.Answer) (ks : List ℕ). if_accepted x (opened_by here ks) ks) answered t.open_are;
          stage_is = w.stage_then
              ∙ ap₂ (λ (x : S.Answer) (s : S.Stage). if_accepted x (stage_by here s) s) answered t.stage_is;
          size_is = w.size_then ∙ t.size_is;
        })

    pub shown_more : (before answers : List Answer) (a : Answer) → i < length before → answers ≡ map shown_in so_far ++ drop i before
        → a ≡ shown (answer_on sheet (get_or calls i d))
        → set answers i a ≡ map shown_in (entries size [] (map called (take (i + 1) calls))) ++ drop (i + 1) before
    shown_more before answers a room e q =
        let l : length (map shown_in so_far) ≡ i = length-map so_far shown_in ∙ many in
        let z : i - i ≡ 0 = omega arith in
        let v : a ≡ shown new.answer = q ∙ ap shown answered in
        ap (λ (xs : List Answer). set xs i a) (e ∙ ap (λ (xs : List Answer). map shown_in so_far ++ xs) (drop_more before i a room))
        ∙ set-append_right (map shown_in so_far) (get_or before i a ∷ drop (i + 1) before) i i a l (omega arith)
        ∙ ap (λ (n : ℕ). map shown_in so_far ++ set (get_or before i a ∷ drop (i + 1) before) n a) z
        ∙ ap (λ (x : Answer). map shown_in so_far ++ (x ∷ drop (i + 1) before)) v
        ∙ sym (append_assoc (map shown_in so_far) (shown_in new ∷ []) (drop (i + 1) before))
        ∙ ap (λ (xs : List Answer). xs ++ drop (i + 1) before) (sym (map_push shown_in so_far new) ∙ ap (map shown_in) (sym grown))

    -- what is sent fits the room
    sent_fits : length (bytes_sent (answer_on sheet (get_or calls i d))) ≤ room_in here
    sent_fits = within (rows_on sheet) here (answer_on sheet (get_or calls i d)) (best (stage_of sheet) (size_on sheet) (rows_on sheet) (open_on sheet) here)

    pub written_then : (before out part : List ℕ) (at k : ℕ) → k ≡ room_in here → at + k ≤ length out → at ≡ rooms (map called (take i calls))
        → out ≡ written 0 so_far before → part ≡ laid (answer_on sheet (get_or calls i d)) (take k (drop at out))
        → put_mid at k out part ≡ written 0 (entries size [] (map called (take (i + 1) calls))) before
    written_then before out part at k r h p e q =
        let there : at ≡ 0 + rooms (map call_in so_far) = omega (arith, p, ap rooms (calls_in size [] (map called (take i calls)))) in
        ap (put_mid at k out) q
        ∙ put_part at k (answer_on sheet (get_or calls i d)) out h (omega (arith, sent_fits, r))
        ∙ ap (λ (n : ℕ). put_at n (answer_on sheet (get_or calls i d)) out) there
        ∙ ap (λ (x : S.Answer). put_at (0 + rooms (map call_in so_far)) x out) answered
        ∙ ap (put_at (0 + rooms (map call_in so_far)) new.answer) e
        ∙ sym (ap (λ (es : List Entry). written 0 es before) grown ∙ written_more 0 so_far new before)

-- after the last call
pub all_run : (size : ℕ) (calls : List Call) (i : ℕ) (before answers : List Answer) (out-before out : List ℕ) (sheet : Stage) (rows : Rows) → i ≡ length calls
    → answers ≡ map shown_in (entries size [] (map called (take i calls))) ++ drop i before
    → out ≡ written 0 (entries size [] (map called (take i calls))) out-before
    → Tied size sheet (since [] (entries size [] (map called (take i calls))))
    → rows ≡ rows_on sheet → Runs size calls before answers out-before out rows
all_run size calls i before answers out-before out sheet rows n a o t r =
    let all : take i calls ≡ calls = take_all i calls (omega arith) in
    let es : List Entry = entries size [] (map called calls) in (
      es,
      calls_in size [] (map called calls),
      lawful size [] (map called calls) tt,
      a ∙ ap₂ (λ (cs : List Call) (m : ℕ). map shown_in (entries size [] (map called cs)) ++ drop m before) all n,
      o ∙ ap (λ (cs : List Call). written 0 (entries size [] (map called cs)) out-before) all,
      r ∙ t.rows_are ∙ ap (λ (cs : List Call). S.held (since [] (entries size [] (map called cs)))) all,
    )
