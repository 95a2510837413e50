-- The highest of the numbers that pass a test.
use Rattle.std.proofs.Common.{◌≡◌, ℕ, zero, suc, ◌<◌, ◌≤◌, Bool, true, false, ◌⊎◌, Some, None, Option, sym, refl, ◌∙◌, subst, inl, inr, true≢false, arith}
use native.Mathlib.Decide.{dec_lt}
use Rattle.grammar.specs.Sending.{better, most}
use Rattle.grammar.proofs.Gathered.{on_ltb}

module _ (test : ℕ → Bool) (w : ℕ → ℕ) where
  abbrev pub Most : ℕ → Option ℕ → Type 0
  Most n None = (e : ℕ) → e < n → test e ≡ true → ⊥
  Most n (Some d) = (d < n) × (test d ≡ true) × ((e : ℕ) → e < n → test e ≡ true → (w e < w d) ⊎ ((w e ≡ w d) × (d ≤ e)))

  last_or : (e n : ℕ) → e < suc n → (e < n) ⊎ (e ≡ n)
  last_or e n h = elim (dec_lt e n) [ yes k ↦ inl k | no k ↦ inr (omega arith) ]

  -- what holds below n, and at n, holds below suc n
  more : (P : ℕ → Type 0) (n : ℕ) → ((e : ℕ) → e < n → test e ≡ true → P e) → (test n ≡ true → P n) → (e : ℕ) → e < suc n → test e ≡ true → P e
  more P n below here e h t =
      elim (last_or e n h) [ inl k ↦ below e k t | inr k ↦ subst P (sym k) (here (subst (λ (x : ℕ). test x ≡ true) k t)) ]

  better_is : (n : ℕ) (b : Bool) (o : Option ℕ) → test n ≡ b → Most n o → Most (suc n) (better w n b o)
  better_is n false None t l = more (λ e. ⊥) n l (λ q. true≢false (sym q ∙ t))
  better_is n false (Some d) t l =
      (omega arith, l.1, more (λ e. (w e < w d) ⊎ ((w e ≡ w d) × (d ≤ e))) n l.2 (λ q. absurd (true≢false (sym q ∙ t))))
  better_is n true None t l =
      (omega arith, t, more (λ e. (w e < w n) ⊎ ((w e ≡ w n) × (n ≤ e))) n (λ e h q. absurd (l e h q)) (λ q. inr (refl, omega arith)))
  better_is n true (Some d) t l =
      on_ltb (λ b. Most (suc n) (elim b [ true ↦ Some n | false ↦ Some d ])) (w d) (w n)
      (λ h. (
        omega arith,
        t,
        more (λ e. (w e < w n) ⊎ ((w e ≡ w n) × (n ≤ e))) n
            (λ e k q. elim (l.2 e k q) [ inl g ↦ inl (omega arith) | inr g ↦ inl (omega arith) ]) (λ q. inr (refl, omega arith)),
      ))
      (λ h. (
        omega arith,
        l.1,
        more (λ e. (w e < w d) ⊎ ((w e ≡ w d) × (d ≤ e))) n
            l.2 (λ q. elim (dec_lt (w n) (w d)) [ yes g ↦ inl g | no g ↦ inr (omega arith, omega arith) ]),
      ))

  pub most_is : (n : ℕ) → Most n (most test w n)
  unfolding most
  most_is zero = λ e h t. omega arith
  most_is (suc n) = better_is n (test n) (most test w n) refl (most_is n)
