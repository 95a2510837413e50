-- What is sent, by what a look over the rows found and the default that was chosen from it.
-- Assumes nothing.
use Rattle.std.proofs.Common.{◌≡◌, ℕ, suc, ◌+◌, ◌-◌, ◌*◌, ◌<◌, ◌≤◌, Bool, true, false, cond, ◌⊎◌, [], ◌∷◌, length, get_or, ltb, lt-ltb, Some, None, Option, sym, refl, ap, ◌∙◌, subst, arith, length-append}
use Rattle.grammar.specs.Format.{layout, width, fixed_bytes, big}
use Rattle.grammar.specs.Grammar.{Rows, default_of}
use Rattle.grammar.specs.Reading.{if, is_text}
use Rattle.grammar.specs.Sending.{texts_in, frame, sending}
use Rattle.grammar.specs.Flat.{flat, flat_container}
use Rattle.grammar.specs.Admits.{top_level}
use Rattle.grammar.specs.Choice.{suits, base_size, texts as texts_of, length_under}
use Rattle.grammar.proofs.Choosing.{texts_in_le, rows_fit}
use Rattle.grammar.proofs.Sent.{flat_long, sent_under, none_under}
use Rattle.sender.specs.declared.survey.Survey.{Survey}
use Rattle.sender.specs.Surveyed.{Surveyed, Bounded, length_for, Chosen, Settled}
use Rattle.sender.specs.Writable.{Writable}
use Rattle.sender.proofs.Writes.{writable}

-- each text has its byte of length
texts_small : (rows : Rows) → texts_of rows ≤ base_size rows
texts_small [] = omega arith
texts_small (r ∷ rs) = let h = texts_small rs in go (is_text (layout r.kind).fields) h
  where
    go : (b : Bool) → texts_of rs ≤ base_size rs
        → if b (λ _. suc (texts_of rs)) (λ _. texts_of rs)
        ≤ (suc (width (layout r.kind).holder) + if b (λ _. length r.text + 1) (λ _. fixed_bytes (layout r.kind).fields)) + base_size rs
    go true h = omega arith
    go false h = omega arith

framed : (rows : Rows) → cond (ltb 0 (base_size rows)) 4 1 ≡ frame rows
framed [] = refl
framed (r ∷ rs) = let l = lt-ltb 0 (base_size (r ∷ rs)) (omega arith) in ap (λ (b : Bool). cond b 4 1) l

pub default_is : (d : ℕ) (rows : Rows) → d ≡ default_of (flat_container d rows)
default_is d [] = refl
default_is d (r ∷ rs) = refl

-- the rows' own bytes are no longer than the container
inner_small : (d : ℕ) (rows : Rows) → length (flat d rows) ≤ length (flat_container d rows)
inner_small d [] = omega arith
inner_small d (r ∷ rs) = let a = length-append (big 2 (length (flat d (r ∷ rs)))) (flat d (r ∷ rs)) in omega arith

module _ (rows : Rows) (s : Survey) (f : Surveyed rows s) where
  pub bounded : Bounded s
  bounded =
      let t = texts_small rows in
      let few = f.few in
      let eb = f.base in
      let et = f.texts in
      record {
        long = f.long;
        base = omega arith;
        texts = omega arith;
        each = λ k h. let e = f.tally k h in let l = texts_in_le k rows in omega arith;
      }

  long_is : (d : ℕ) → d < 256 → length_for s d ≡ length_under d rows
  long_is d h =
      let some : cond (ltb 0 s.sums.base) 4 1 ≡ frame rows = ap (λ (n : ℕ). cond (ltb 0 n) 4 1) f.base ∙ framed rows in
      λ i. (some i + f.base i) + 3 * (f.texts i - f.tally d h i)

  -- no default serves
  pub none_chosen : Chosen s None → sending rows ≡ None
  none_chosen c = none_under rows f.tree f.fit f.bytes (λ d h q. let l = long_is d h in let m = c d h (sym (f.suit d) ∙ q) in omega arith)

  -- this one does
  module _ (n d : ℕ) (c : Chosen s (Some (n, d))) where
    suited : suits d rows ≡ true
    suited = f.suit d ∙ c.1

    pub chosen_long : length (flat_container d rows) ≡ n
    chosen_long = flat_long rows f.tree f.fit f.bytes d ∙ (sym (long_is d c.0) ∙ sym c.2)

    pub chosen_sent : sending rows ≡ Some (flat_container d rows)
    chosen_sent =
        sent_under rows f.tree f.fit f.bytes d c.0 suited (let l = long_is d c.0 in let e = c.2 in let m = c.3 in omega arith)
        (λ e h q.
        subst (λ (x : ℕ). (texts_in e rows < x) ⊎ ((texts_in e rows ≡ x) × (d ≤ e))) (f.tally d c.0)
        (subst (λ (x : ℕ). (x < get_or s.tally d 0) ⊎ ((x ≡ get_or s.tally d 0) × (d ≤ e))) (f.tally e h) (c.4 e h (sym (f.suit e) ∙ q))))

    pub chosen_writable : Writable d rows
    chosen_writable =
        let l = chosen_long in
        let i = inner_small d rows in
        let m = c.3 in
        writable d top_level rows f.tree (rows_fit d rows f.bytes f.fit suited) (omega arith)

-- what was chosen is what is sent
pub settled : (rows : Rows) (s : Survey) → Surveyed rows s → (o : Option (ℕ × ℕ)) → Chosen s o → Settled rows o
settled rows s f None c = none_chosen rows s f c
settled rows s f (Some (n, d)) c = (chosen_sent rows s f n d c, chosen_long rows s f n d c, c.3, chosen_writable rows s f n d c)
