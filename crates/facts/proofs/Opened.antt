-- The defaults that serve rows, by the long names.
-- Assumes nothing.
use Rattle.std.proofs.Common.{◌≡◌, ℕ, ◌+◌, ◌*◌, ◌^◌, ◌<◌, ◌≤◌, Bool, true, false, eqb, ◌⊎◌, List, [], ◌∷◌, length, sym, refl, ap, ◌∙◌, inl, inr, arith, eqb-true, leb}
use Rattle.std.proofs.lemmas.Bool.{eqb-false, leb-true, leb-false, true≢false}
use Rattle.grammar.specs.Format.{layout, width}
use Rattle.grammar.specs.Grammar.{Row}
use Rattle.grammar.specs.Reading.{is_text}
use Rattle.grammar.specs.Deciding.{RowFits, RowsFit, text_frame}
use Rattle.grammar.specs.Sending.{texts_in, frame, full_size}
use Rattle.grammar.specs.Choice.{length_under}
use Rattle.grammar.proofs.Cut.{by_cases}
use Rattle.grammar.proofs.Choosing.{size_under}
use Rattle.facts.specs.Defaults.{LongNamesIn, OpenByLongNames}
use Rattle.facts.proofs.Numbered.{texts_are}

text_kind : (k : ℕ) → is_text (layout k).fields ≡ true → (k ≡ 2) ⊎ (k ≡ 27)
text_kind k q =
    by_cases (eqb k 2) (λ e. inl (eqb-true k 2 e))
    (λ e. by_cases (eqb k 27) (λ f. inr (eqb-true k 27 f)) (λ f. absurd (true≢false (sym q ∙ texts_are k ∙ rw (e, f)))))

long_in : (d : ℕ) (r : Row) (b : Bool) → is_text (layout r.kind).fields ≡ b → RowFits b d r → r.kind ≡ 27 → 252 ≤ length r.text → r.language ≡ d
long_in d r false q h k n = absurd (true≢false (sym (ap (λ (k : ℕ). is_text (layout k).fields) k) ∙ q))
long_in d r true q (l, t, m, f) k n =
    by_cases (eqb r.language d) (λ e. eqb-true r.language d e)
    (λ e.
    let f' : length r.text + 4 < 256 ^ width (layout r.kind).holder = rw e at f in
    let w : 256 ^ width (layout r.kind).holder ≡ 256 = ap (λ (k : ℕ). 256 ^ width (layout k).holder) k in
    absurd (omega arith))

fits_too : (e d : ℕ) (r : Row) (b : Bool) → is_text (layout r.kind).fields ≡ b → RowFits b e r
    → (r.kind ≡ 27 → 252 ≤ length r.text → r.language ≡ d) → RowFits b d r
fits_too e d r false q h long = tt
fits_too e d r true q (l, t, m, f) long = (l, t, m, go (text_kind r.kind q))
  where
    wide : 256 ^ width (layout r.kind).holder ≡ 65536 → (b : Bool) → length r.text + text_frame b < 256 ^ width (layout r.kind).holder
    wide w true = omega arith
    wide w false = omega arith

    least : (b : Bool) → 1 ≤ text_frame b
    least true = omega arith
    least false = omega arith

    narrow : r.kind ≡ 27 → (b : Bool) → eqb r.language d ≡ b → length r.text + text_frame b < 256 ^ width (layout r.kind).holder
    narrow k true s = let x = least (eqb r.language e) in omega arith
    narrow k false s =
        let w : 256 ^ width (layout r.kind).holder ≡ 256 = ap (λ (k : ℕ). 256 ^ width (layout k).holder) k in
        by_cases (leb 252 (length r.text))
        (λ y. absurd (eqb-false r.language d s (long k (leb-true 252 (length r.text) y))))
        (λ y. let z = leb-false 252 (length r.text) y in omega arith)

    go : (r.kind ≡ 2) ⊎ (r.kind ≡ 27) → length r.text + text_frame (eqb r.language d) < 256 ^ width (layout r.kind).holder
    go (inl k) = wide (ap (λ (k : ℕ). 256 ^ width (layout k).holder) k) (eqb r.language d)
    go (inr k) = narrow k (eqb r.language d) refl

all_long : (d : ℕ) (rows : List Row) → RowsFit d rows → LongNamesIn d rows
all_long d [] h = tt
all_long d (r ∷ rs) h = (long_in d r (is_text (layout r.kind).fields) refl h.0, all_long d rs h.1)

all_fit : (e d : ℕ) (rows : List Row) → RowsFit e rows → LongNamesIn d rows → RowsFit d rows
all_fit e d [] h l = tt
all_fit e d (r ∷ rs) h l = (fits_too e d r (is_text (layout r.kind).fields) refl h.0 l.0, all_fit e d rs h.1 l.1)

pub open_by_long_names : OpenByLongNames
open_by_long_names rows e d s = (
  λ h. (all_long d rows h.2, (let x = h.3 in let y = size_under d rows in omega arith)),
  λ l n. (s.0, s.1, all_fit e d rows s.2 l, (let y = size_under d rows in omega arith)),
)
