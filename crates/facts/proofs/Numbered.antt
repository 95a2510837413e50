-- Kinds by number, by one computed test over the table.
-- Assumes nothing.
use Rattle.std.proofs.Common.{◌≡◌, ℕ, ◌+◌, ◌*◌, ◌≤◌, Bool, true, false, cond, not, ◌&&◌, ◌||◌, T, eqb, ltb, leb, sym, refl, ap, ◌∙◌, arith, ltb-false, ltb-true, ne_eqb}
use Rattle.std.proofs.lemmas.Bool.{true≢false, false≢true}
use Rattle.grammar.specs.declared.table.Layout.{Layout}
use Rattle.grammar.specs.Format.{layout, blank}
use Rattle.grammar.specs.Grammar.{Rows}
use Rattle.grammar.specs.Reading.{is_text, is_count}
use Rattle.grammar.proofs.Cut.{by_cases}
use Rattle.grammar.proofs.Lines.{all_below, below_at, same, same_eq, no_line}
use Rattle.facts.specs.Kinds.{KindsByNumber}

-- what a test says of a line is what another says of its number, where it is so below 28 and past that neither holds
by_number : (t : Layout → Bool) (u : ℕ → Bool) → T (all_below (λ (k : ℕ). same (t (layout k)) (u k)) 28)
    → t blank ≡ false → ((k : ℕ) → 28 ≤ k → u k ≡ false) → (k : ℕ) → t (layout k) ≡ u k
by_number t u all off past k =
    by_cases (ltb k 28)
    (λ q. same_eq _ _ (below_at (λ (k : ℕ). same (t (layout k)) (u k)) 28 all k (ltb-true k 28 q)))
    (λ q. let h = ltb-false k 28 q in ap t (no_line k h) ∙ off ∙ sym (past k h))

pub texts_are : (k : ℕ) → is_text (layout k).fields ≡ (eqb k 2 || eqb k 27)
texts_are =
    by_number (λ (l : Layout). is_text l.fields) (λ (k : ℕ). eqb k 2 || eqb k 27) tt refl
    (λ k h. rw (ne_eqb k 2 (λ e. omega arith), ne_eqb k 27 (λ e. omega arith)))

pub counts_are : (k : ℕ) → is_count (layout k).fields ≡ eqb k 7
counts_are = by_number (λ (l : Layout). is_count l.fields) (λ (k : ℕ). eqb k 7) tt refl (λ k h. ne_eqb k 7 (λ e. omega arith))

left_out : (x y : Rows) (a b c : Bool) → a ≡ b → cond (not a || c) x y ≡ cond (b && not c) y x
left_out x y true true true e = refl
left_out x y true true false e = refl
left_out x y false false c e = refl
left_out x y true false c e = absurd (true≢false e)
left_out x y false true c e = absurd (false≢true e)

pub kinds : KindsByNumber
kinds =
    record {
      texts = texts_are;
      counts = counts_are;
      language = λ l r rs. left_out _ _ _ _ (eqb r.language l) (texts_are r.kind);
      cut = λ n k depth. ap (λ (b : Bool). b && leb (2 * n) (depth + 1)) (counts_are k);
    }
