-- What stands in the output of a script's run, room by room.
-- Assumes nothing.
use Rattle.std.proofs.Common.{◌≡◌, ℕ, ◌+◌, ◌≤◌, Bool, true, ◌&&◌, Bor, Iter, List, [], ◌∷◌, ◌++◌, map, length, take, drop, Some, None, Option, IfSome, ◌⊎◌, inl, inr, sym, refl, ap, ◌∙◌, subst, ap₂, arith}
use Rattle.std.proofs.lemmas.List.{append-nil, length-append, length-take-le, length-drop, length-map, take-take, take_at, drop_at, drop_all, drop-take, drop-drop}
use Rattle.std.specs.Iterator.{Yields}
use Rattle.std.specs.List.{FoldsTo}
use Rattle.std.specs.Option.{MatchOption}
use Rattle.std.proofs.iter.Yields.{fronts}
use borrow.Author.Tests.{le-leb}
use Rattle.grammar.specs.Sheet as S
use Rattle.grammar.specs.Sheet.{done, sent, refused, not_sent, not_now, Entry, Log, held, room_in, BestSent, Lawful}
use Rattle.runs.specs.declared.script.Answer.{Answer}
use Rattle.runs.specs.declared.script.Call.{Call}
use Rattle.runs.specs.Scripts.{called, shown, shown_in, call_in, rooms, put_at, written, since, fits_script, Runs}
use Rattle.grammar.specs.Grammar.{Rows}
use Rattle.listing.specs.Listed.{listed}
use Rattle.scripts.specs.declared.asked.Asked.{Asked}
use Rattle.scripts.specs.Answered.{answer_text}
use Rattle.scripts.specs.Played.{asked_call, bytes_in, answer_lines, sent_size, lines_from, Played}

-- what each entry sent fits its room
abbrev pub Roomy : List Entry → Type 0
Roomy [] = Unit {0}
Roomy (e ∷ es) = (length (bytes_in e.answer) ≤ room_in e.call) × Roomy es

sent_fits : (rows : _) (c : S.Call) (x : S.Answer) → BestSent rows c x → length (bytes_in x) ≤ room_in c
sent_fits rows c done h = omega arith
sent_fits rows c (sent bytes d) h = h.1
sent_fits rows c (refused f) h = omega arith
sent_fits rows c (not_sent f) h = omega arith
sent_fits rows c not_now h = omega arith

-- a run that keeps the law sends into its rooms
pub roomy : (size : ℕ) (log : Log) (es : List Entry) → Lawful size (since log es) → Lawful size log × Roomy es
unfolding since
roomy size log [] h = (h, tt)
roomy size log (e ∷ es) h =
    let r = roomy size (e ∷ log) es h in (r.0.2, (sent_fits (held log) e.call e.answer r.0.1, r.1))

-- what is put leaves the bytes before it, and how many there are
put_before : (at : ℕ) (x : S.Answer) (out : List ℕ) → at ≤ length out → take at (put_at at x out) ≡ take at out
put_before at done out h = refl
put_before at (sent bytes d) out h = take_at (take at out) (bytes ++ drop (at + length bytes) out) at (length-take-le at out h)
put_before at (refused f) out h = refl
put_before at (not_sent f) out h = refl
put_before at not_now out h = refl

put_length : (at : ℕ) (x : S.Answer) (out : List ℕ) → at + length (bytes_in x) ≤ length out → length (put_at at x out) ≡ length out
put_length at done out h = refl
put_length at (sent bytes d) out h =
    let a = length-append (take at out) (bytes ++ drop (at + length bytes) out) in
    let b = length-append bytes (drop (at + length bytes) out) in
    let c = length-take-le at out (omega arith) in
    let e = length-drop (at + length bytes) out in
    omega (arith, a, b, c, e, h)
put_length at (refused f) out h = refl
put_length at (not_sent f) out h = refl
put_length at not_now out h = refl

-- what is put stands there
put_there : (at : ℕ) (x : S.Answer) (out : List ℕ) → at ≤ length out → take (sent_size (shown x)) (drop at (put_at at x out)) ≡ bytes_in x
put_there at done out h = refl
put_there at (sent bytes d) out h =
    ap (take (length bytes)) (drop_at (take at out) (bytes ++ drop (at + length bytes) out) at (length-take-le at out h))
    ∙ take_at bytes (drop (at + length bytes) out) (length bytes) refl
put_there at (refused f) out h = refl
put_there at (not_sent f) out h = refl
put_there at not_now out h = refl

shown_size : (x : S.Answer) → sent_size (shown x) ≡ length (bytes_in x)
shown_size done = refl
shown_size (sent bytes d) = refl
shown_size (refused f) = refl
shown_size (not_sent f) = refl
shown_size not_now = refl

-- later entries leave the rooms before theirs
pub stays : (at : ℕ) (es : List Entry) (out : List ℕ) → at + rooms (map call_in es) ≤ length out → Roomy es → take at (written at es out) ≡ take at out
unfolding written
stays at [] out h r = refl
stays at (e ∷ es) out h r =
    let then : ℕ = at + room_in e.call in
    let new : List ℕ = put_at at e.answer out in
    let n : length new ≡ length out = put_length at e.answer out (omega (arith, r.0, h)) in
    let rest : take then (written then es new) ≡ take then new = stays then es new (omega (arith, n, h)) r.1 in
    sym (take-take at then (written then es new) (omega arith)) ∙ ap (take at) rest ∙ take-take at then new (omega arith)
    ∙ put_before at e.answer out (omega (arith, h))

-- the lines by the output are the lines of the entries
pub lines_are : (at : ℕ) (es : List Entry) (out : List ℕ) → at + rooms (map call_in es) ≤ length out → Roomy es
    → lines_from at (map call_in es) (map shown_in es) (written at es out) ≡ answer_lines es
unfolding written lines_from answer_lines
lines_are at [] out h r = refl
lines_are at (e ∷ es) out h r =
    let x : S.Answer = e.answer in
    let then : ℕ = at + room_in e.call in
    let new : List ℕ = put_at at x out in
    let all : List ℕ = written then es new in
    let k : ℕ = sent_size (shown x) in
    let size : k ≡ length (bytes_in x) = shown_size x in
    let n : length new ≡ length out = put_length at x out (omega (arith, r.0, h)) in
    let kept : take then all ≡ take then new = stays then es new (omega (arith, n, h)) r.1 in
    let near : take (at + k) all ≡ take (at + k) new =
    sym (take-take (at + k) then all (omega (arith, size, r.0))) ∙ ap (take (at + k)) kept ∙ take-take (at + k) then new (omega (arith, size, r.0)) in
    let there : take k (drop at all) ≡ bytes_in x =
    sym (drop-take at k all) ∙ ap (drop at) near ∙ drop-take at k new ∙ put_there at x out (omega (arith, h)) in
    ap (λ (bs : List ℕ). answer_text (shown x) bs ++ lines_from then (map call_in es) (map shown_in es) all) there
    ∙ ap (λ (ls : List ℕ). answer_text (shown x) (bytes_in x) ++ ls) (lines_are then es new (omega (arith, n, h)) r.1)

-- the sum of the rooms of the calls that a fold has passed, each of which adds its own
summed : {F : Type 0} (Turn : F × ℕ → Bor Asked → F × ℕ → Type 0)
    → ((p : F × ℕ) (x : Bor Asked) (q : F × ℕ) → Turn p x q → q.1 ≡ p.1 + room_in (asked_call x.now))
    → (xs : List (Bor Asked)) (s t : Iter Asked) (p q : F × ℕ) → Yields fronts s xs t → FoldsTo {P = F × ℕ} Turn p xs q
    → p.1 + rooms (map asked_call s.rest.now) ≡ q.1 + rooms (map asked_call t.rest.now)
summed Turn turns [] s t p q y f =
    let e = ap (λ (i : Iter Asked). rooms (map asked_call i.rest.now)) y in
    let n = ap (λ (w : _ × ℕ). w.1) f in
    omega (arith, e, n)
summed Turn turns (x ∷ xs) s t p q y f =
    let e = ap (λ (ys : List Asked). rooms (map asked_call ys)) y.1 in
    let n = turns p x f.0 f.1 in
    let r = summed Turn turns xs y.0 t f.0 q y.2 f.2 in
    omega (arith, e, n, r)

none_left : (script : List Asked) → length script ≡ 0 → rooms (map asked_call script) ≡ 0
none_left [] e = omega arith
none_left (x ∷ xs) e = absurd (omega arith)

-- what the fold gives is the sum of all rooms
pub all_summed : {F : Type 0} (Turn : F × ℕ → Bor Asked → F × ℕ → Type 0)
    → ((p : F × ℕ) (x : Bor Asked) (q : F × ℕ) → Turn p x q → q.1 ≡ p.1 + room_in (asked_call x.now))
    → (r : Option ℕ) (xs : List (Bor Asked)) (o : Option (Bor Asked)) (s t u : Iter Asked) (script : List Asked) (f : F) (q : F × ℕ) (Broke : Bor Asked → Type 0)
    → s.rest.now ≡ script → Yields fronts s xs t → fronts t o u → FoldsTo {P = F × ℕ} Turn (f, 0) xs q → MatchOption o (r ≡ Some q.1) Broke
    → ((x : Bor Asked) → Broke x → r ≡ None) → IfSome r (λ n. n ≡ rooms (map asked_call script))
all_summed Turn turns r xs None s t u script f q Broke i y z k m breaks =
    let a = summed Turn turns xs s t (f, 0) q y k in
    let b = none_left t.rest.now z.0 in
    let e = ap (λ (ys : List Asked). rooms (map asked_call ys)) i in
    let n : q.1 ≡ rooms (map asked_call script) = omega (arith, a, b, e) in
    subst (λ (o : Option ℕ). IfSome o (λ n. n ≡ rooms (map asked_call script))) (sym m) n
all_summed Turn turns r xs (Some x) s t u script f q Broke i y z k m breaks =
    subst (λ (o : Option ℕ). IfSome o (λ n. n ≡ rooms (map asked_call script))) (sym (breaks x m)) tt

-- the lines from a place on are those of what is left of the output there
lines_shifted : (at k : ℕ) (cs : List S.Call) (xs : List Answer) (out : List ℕ) → lines_from (at + k) cs xs out ≡ lines_from k cs xs (drop at out)
unfolding lines_from
lines_shifted at k [] xs out = refl
lines_shifted at k (c ∷ cs) [] out = refl
lines_shifted at k (c ∷ cs) (x ∷ xs) out =
    let e : (at + k) + room_in c ≡ at + (k + room_in c) = omega arith in
    ap (λ (bs : List ℕ). answer_text x (take (sent_size x) bs) ++ lines_from ((at + k) + room_in c) cs xs out) (sym (drop-drop k at out))
    ∙ ap (λ (n : ℕ). answer_text x (take (sent_size x) (drop k (drop at out))) ++ lines_from n cs xs out) e
    ∙ ap (λ (ls : List ℕ). answer_text x (take (sent_size x) (drop k (drop at out))) ++ ls) (lines_shifted at (k + room_in c) cs xs out)

-- the lines from a call on are its own, and those of the calls behind it over what its room leaves
pub lines_here : (script rest : List Asked) (answers more : List Answer) (out : List ℕ) (a : Asked) (x : Answer) → script ≡ a ∷ rest → answers ≡ x ∷ more
    → lines_from 0 (map asked_call script) answers out
    ≡ answer_text x (take (sent_size x) out) ++ lines_from 0 (map asked_call rest) more (drop (room_in (asked_call a)) out)
unfolding lines_from
lines_here script rest answers more out a x p q =
    let z : 0 + room_in (asked_call a) ≡ room_in (asked_call a) + 0 = omega arith in
    ap₂ (λ (ys : List Asked) (xs : List Answer). lines_from 0 (map asked_call ys) xs out) p q
    ∙ ap (λ (n : ℕ). answer_text x (take (sent_size x) out) ++ lines_from n (map asked_call rest) more out) z
    ∙ ap (λ (ls : List ℕ). answer_text x (take (sent_size x) out) ++ ls) (lines_shifted (room_in (asked_call a)) 0 (map asked_call rest) more out)

-- there are none where either list is empty
pub lines_none : (script : List Asked) (answers : List Answer) (out : List ℕ) → (script ≡ []) ⊎ (answers ≡ []) → lines_from 0 (map asked_call script) answers out ≡ []
unfolding lines_from
lines_none script answers out (inl e) = ap (λ (ys : List Asked). lines_from 0 (map asked_call ys) answers out) e
lines_none [] answers out (inr e) = refl
lines_none (a ∷ ys) answers out (inr e) = ap (λ (xs : List Answer). lines_from 0 (asked_call a ∷ map asked_call ys) xs out) e

-- what a run left, line by line, and the rows held are played
pub all_played : (size : ℕ) (script : List Asked) (calls : List Call) (before after : List Answer) (out-before out : List ℕ) (rows : Rows) (text : List ℕ)
    → map called calls ≡ map asked_call script → length before ≡ length script → rooms (map called calls) ≤ length out-before
    → Runs size calls before after out-before out rows
    → text ≡ lines_from 0 (map asked_call script) after out ++ listed rows → Played size (map asked_call script) text
all_played size script calls before after out-before out rows text same many room ran told =
    let es : List Entry = ran.0 in
    let asked : map call_in es ≡ map asked_call script = ran.1 ∙ same in
    let count : length calls ≡ length script = sym (length-map calls called) ∙ ap length same ∙ length-map script asked_call in
    let none : drop (length calls) before ≡ [] = drop_all (length calls) before (omega (arith, count, many)) in
    let shown-all : after ≡ map shown_in es = ran.3 ∙ ap (λ (xs : List Answer). map shown_in es ++ xs) none ∙ append-nil (map shown_in es) in
    let fit : rooms (map call_in es) ≤ length out-before = omega (arith, room, ap rooms ran.1) in
    let lines : lines_from 0 (map asked_call script) after out ≡ answer_lines es =
    ap (λ (cs : List S.Call). lines_from 0 cs after out) (sym asked)
    ∙ ap (λ (xs : List Answer). lines_from 0 (map call_in es) xs out) shown-all
    ∙ ap (λ (bs : List ℕ). lines_from 0 (map call_in es) (map shown_in es) bs) ran.4
    ∙ lines_are 0 es out-before (omega (arith, fit)) (roomy size [] es ran.2).1 in (
      es,
      asked,
      ran.2,
      told ∙ ap (λ (xs : List ℕ). xs ++ listed rows) lines ∙ ap (λ (rs : Rows). answer_lines es ++ listed rs) ran.5,
    )

-- the calls of a script with an answer each and room for all they send fit
pub fits : (script : List Asked) (calls : List Call) (answers room : ℕ) → map called calls ≡ map asked_call script → length script ≤ answers
    → rooms (map called calls) ≤ room → fits_script calls answers room ≡ true
fits script calls answers room same many h =
    let count : length calls ≡ length script = sym (length-map calls called) ∙ ap length same ∙ length-map script asked_call in
    ap₂ (λ (a b : Bool). a && b) (le-leb (length calls) answers (omega (arith, count, many))) (le-leb (rooms (map called calls)) room h)
