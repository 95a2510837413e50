-- Whether the rooms of calls fit a limit, where each takes its own from what is left.
-- Assumes nothing.
use Rattle.std.proofs.Common.{◌≡◌, ℕ, ◌+◌, ◌<◌, Bor, Iter, List, [], ◌∷◌, map, length, Some, None, Option, nat_le, ap, ◌∙◌, arith}
use Rattle.std.specs.Iterator.{Yields}
use Rattle.std.specs.List.{FoldsTo}
use Rattle.std.specs.Option.{MatchOption, is_some}
use Rattle.std.proofs.iter.Yields.{fronts}
use borrow.Author.Tests.{le-true, lt-false}
use Rattle.grammar.specs.Sheet.{room_in}
use Rattle.runs.specs.declared.script.Call.{Call}
use Rattle.runs.specs.Scripts.{called, rooms}

none_left : (cs : List Call) → length cs ≡ 0 → rooms (map called cs) ≡ 0
none_left [] e = omega arith
none_left (c ∷ cs) e = absurd (omega arith)

module _ {F : Type 0} (Turn : F × ℕ → Bor Call → F × ℕ → Type 0)
    (turns : (p : F × ℕ) (x : Bor Call) (q : F × ℕ) → Turn p x q → room_in (called x.now) + q.1 ≡ p.1) where
  left : (xs : List (Bor Call)) (s t : Iter Call) (p q : F × ℕ) → Yields fronts s xs t → FoldsTo {P = F × ℕ} Turn p xs q
      → rooms (map called s.rest.now) + q.1 ≡ p.1 + rooms (map called t.rest.now)
  left [] s t p q y f =
      let e = ap (λ (i : Iter Call). rooms (map called i.rest.now)) y in
      let n = ap (λ (w : F × ℕ). w.1) f in
      omega (arith, e, n)
  left (x ∷ xs) s t p q y f =
      let e = ap (λ (cs : List Call). rooms (map called cs)) y.1 in
      let n = turns p x f.0 f.1 in
      let r = left xs y.0 t f.0 q y.2 f.2 in
      omega (arith, e, n, r)

  -- the fold over the rooms gives a number exactly when they fit
  pub fits_tried : (r : Option ℕ) (xs : List (Bor Call)) (o : Option (Bor Call)) (s t u : Iter Call) (f : F) (limit : ℕ) (q : F × ℕ) (Broke : Bor Call → Type 0)
      → Yields fronts s xs t → fronts t o u → FoldsTo {P = F × ℕ} Turn (f, limit) xs q → MatchOption o (r ≡ Some q.1) Broke
      → ((x : Bor Call) → Broke x → (q.1 < room_in (called x.now)) × (r ≡ None))
      → is_some r ≡ nat_le (rooms (map called s.rest.now)) limit
  fits_tried r xs None s t u f limit q Broke y z k m breaks =
      let a = left xs s t (f, limit) q y k in
      let b = none_left t.rest.now z.0 in
      ap is_some m ∙ le-true (rooms (map called s.rest.now)) limit (omega (arith, a, b))
  fits_tried r xs (Some x) s t u f limit q Broke y z k m breaks =
      let a = left xs s t (f, limit) q y k in
      let b = ap (λ (cs : List Call). rooms (map called cs)) z in
      let d = breaks x m in
      ap is_some d.1 ∙ lt-false (rooms (map called s.rest.now)) limit (omega (arith, a, b, d.0))
