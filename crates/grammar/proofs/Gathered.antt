-- The rows of a legal tree are gathered to that tree, less what it does not tell.
use Rattle.std.proofs.Common.{◌≡◌, ℕ, suc, ◌<◌, ◌≤◌, Bool, true, false, ltb, List, [], ◌∷◌, ◌++◌, ℤ, pos, sym, refl, ap, ◌∙◌, subst, append_assoc, append-nil, arith}
use Rattle.grammar.proofs.Cut.{by_cases}
use Rattle.std.proofs.lemmas.Bool.{ltb-true, ltb-false}
use Rattle.grammar.specs.declared.table.Spot.{Spot}
use Rattle.grammar.specs.declared.table.Fields.{Fields}
use Rattle.grammar.specs.declared.table.Fields.TheVariants.{Nothing, Code, Text, Globe, Floor, Count, Radius, Height}
use Rattle.grammar.specs.Format.{layout, Fit}
use Rattle.grammar.specs.Grammar.{Row, Parts, none, unknown, named, held, how_many, said, tell, deeper, PartsLegal}
use Rattle.grammar.specs.Reading.{is_text}
use Rattle.grammar.specs.Sending.{part, gather}
use Rattle.grammar.proofs.Normal.{on_eqb, full}

pub on_ltb : (P : Bool → Type 0) (m n : ℕ) → (m < n → P true) → ((m < n → ⊥) → P false) → P (ltb m n)
on_ltb P m n yes-so not_so =
    by_cases (ltb m n) (λ q. subst P (sym q) (yes-so (ltb-true m n q))) (λ q. subst P (sym q) (not_so (λ h. let l = ltb-false m n q in omega arith)))

module _ (r : Row) (rs : List Row) where
  abbrev pub here : ℕ → Parts
  here m = part (is_text (layout r.kind).fields) r (gather rs (suc m)) (gather rs m)

  abbrev pub elsewhere : ℕ → Bool → Parts
  elsewhere m b = elim b [ true ↦ gather rs m | false ↦ none ]

  abbrev pub at : ℕ → Bool → Parts
  at m b = elim b [ true ↦ here m | false ↦ elsewhere m (ltb m r.depth) ]

  pub gather_here : (m : ℕ) → m ≡ r.depth → gather (r ∷ rs) m ≡ here m
  gather_here m e = on_eqb (λ b. at m b ≡ here m) m r.depth (λ f. refl) (λ n. absurd (n e))

  pub gather_above : (m : ℕ) → m < r.depth → gather (r ∷ rs) m ≡ gather rs m
  gather_above m h =
      on_eqb (λ b. at m b ≡ gather rs m) m r.depth (λ f. absurd (omega arith))
      (λ n. on_ltb (λ b. elsewhere m b ≡ gather rs m) m r.depth (λ f. refl) (λ n. absurd (n h)))

  pub gather_below : (m : ℕ) → r.depth < m → gather (r ∷ rs) m ≡ none
  gather_below m h =
      on_eqb (λ b. at m b ≡ none) m r.depth (λ f. absurd (omega arith))
      (λ n. on_ltb (λ b. elsewhere m b ≡ none) m r.depth (λ f. absurd (omega arith)) (λ n. refl))

-- of rows that tell p and go on with others
record Gathers (d n : ℕ) (p : Parts) (rows more : List Row) : Type 0 where
  pub there : gather rows n ≡ full d p
  pub above : (m : ℕ) → m < n → gather rows m ≡ gather more m
  pub below : (m : ℕ) → n < m → gather rows m ≡ none

pub held_no_text : (f : Fields) (a b : ℤ) (n : ℕ) → Fit f a b n → is_text f ≡ false
held_no_text Nothing a b n h = refl
held_no_text Code a b n h = refl
held_no_text Text a b n h = absurd h
held_no_text Globe a b n h = refl
held_no_text Floor a b n h = refl
held_no_text Count a b n h = refl
held_no_text Radius a b n h = refl
held_no_text Height a b n h = refl

gathers : (d : ℕ) (s : Spot) (k n : ℕ) (p : Parts) (more : List Row)
    → PartsLegal s k p → ((m : ℕ) → n ≤ m → gather more m ≡ none) → Gathers d n p (tell d n p ++ more) more
gathers d s k n none more l h = record { there = h n (omega arith); above = λ m g. refl; below = λ m g. h m (omega arith) }
gathers d s k n (unknown id bs rest) more l h =
    let ih = gathers d s k n rest more l.5 h in record { there = ih.there; above = ih.above; below = ih.below }
gathers d s k n (named kind t tail rest) more l h =
    let r : Row = record { depth = n; kind = kind; a = pos 0; b = pos 0; language = said d tail; text = t } in
    let rs : List Row = tell d n rest ++ more in
    let ih : Gathers d n rest rs more = gathers d s k n rest more l.6 h in
    let e : is_text (layout kind).fields ≡ true = ap is_text l.1 in
    record {
      there = gather_here r rs n refl ∙ (λ i. part (e i) r (gather rs (suc n)) (ih.there i));
      above = λ m g. gather_above r rs m g ∙ ih.above m g;
      below = λ m g. gather_below r rs m g;
    }
gathers d s k n (held kind a b inner rest) more l h =
    let r : Row = record { depth = n; kind = kind; a = a; b = b; language = 0; text = [] } in
    let ms : List Row = tell d n rest ++ more in
    let rs : List Row = tell d (suc n) inner ++ ms in
    let ih : Gathers d n rest ms more = gathers d s k n rest more l.6 h in
    let ij : Gathers d (suc n) inner rs ms =
    gathers d (layout kind).inside (deeper (layout kind).inside k) (suc n) inner ms l.4 (λ m g. ih.below m g) in
    let e : is_text (layout kind).fields ≡ false = held_no_text (layout kind).fields a b (how_many inner) l.2 in
    let q : r ∷ rs ≡ tell d n (held kind a b inner rest) ++ more = ap (λ (x : List Row). r ∷ x) (sym (append_assoc (tell d (suc n) inner) (tell d n rest) more)) in
    let all : Gathers d n (held kind a b inner rest) (r ∷ rs) more =
    record {
      there =
          gather_here r rs n refl
          ∙ ((λ i. part (e i) r (ij.there i) (ij.above n (omega arith) i))
          ∙ (λ i. held kind a b (full d inner) (ih.there i)));
      above = λ m g. gather_above r rs m g ∙ (ij.above m (omega arith) ∙ ih.above m g);
      below = λ m g. gather_below r rs m g;
    } in
    subst (λ (x : List Row). Gathers d n (held kind a b inner rest) x more) q all

pub gather_tell : (d : ℕ) (s : Spot) (k : ℕ) (p : Parts) → PartsLegal s k p → gather (tell d 0 p) 0 ≡ full d p
gather_tell d s k p l =
    subst (λ (x : List Row). gather x 0 ≡ full d p) (append-nil (tell d 0 p)) (gathers d s k 0 p [] l (λ m g. refl)).there
