-- What the table of kinds obeys, by one computed test over it.
-- Assumes nothing.
use Rattle.std.proofs.Common.{◌≡◌, ℕ, zero, suc, ◌+◌, ◌<◌, ◌≤◌, Bool, true, false, not, ◌&&◌, ◌||◌, T, eqb, ltb, List, [], ◌∷◌, get_or, sym, refl, ap, ◌∙◌, subst, inl, inr, ⊎_elim, arith, eqb→eq, ltb-false, ltb-true, eqb-true}
use Rattle.std.proofs.lemmas.Bool.{eqb-false}
use Rattle.grammar.specs.declared.table.Spot.TheVariants.{Descriptions, Node, Reference, Place, Modes, Associated, Nowhere}
use Rattle.grammar.specs.declared.table.Spot.{Spot}
use Rattle.grammar.specs.declared.table.Fields.{Fields}
use Rattle.grammar.specs.declared.table.Fields.TheVariants.{Nothing, Code, Text, Globe, Floor, Count, Radius, Height}
use Rattle.grammar.specs.declared.table.Layout.{Layout}
use Rattle.grammar.specs.Format.{layout, table, blank, kind_at}
use Rattle.grammar.specs.Reading.{counted, is_count, is_text, closed}
use lib.ListN.{get_or-eq_default}
use Rattle.grammar.specs.Format.{width, fixed_bytes}
use Rattle.grammar.specs.Offsets as O
use Rattle.grammar.specs.Checks.{leafy}
use Rattle.grammar.specs.Theorems.{StandsAt, FoundByLine, FoundById, FixedByFields}
use Rattle.grammar.proofs.Cut.{by_cases}

pub both_left : (a b : Bool) → T (a && b) → T a
both_left true b t = tt
both_left false b t = t

pub both_right : (a b : Bool) → T (a && b) → T b
both_right true b t = t
both_right false b t = absurd t

abbrev pub all_below : (ℕ → Bool) → ℕ → Bool
all_below t zero = true
all_below t (suc n) = t n && all_below t n

pub below_at : (t : ℕ → Bool) (n : ℕ) → T (all_below t n) → (i : ℕ) → i < n → T (t i)
below_at t zero p i h = absurd (omega arith)
below_at t (suc n) p i h =
    by_cases (eqb i n)
    (λ q. subst (λ (j : ℕ). T (t j)) (sym (eqb-true i n q)) (both_left (t n) (all_below t n) p))
    (λ q. below_at t n (both_right (t n) (all_below t n) p) i (omega (arith, eqb-false i n q)))

-- a known identifier's kind stands in the table under that identifier
pub kind_id : (s : Spot) (i : ℕ) → (kind_at s i ≡ 0 → ⊥) → (layout (kind_at s i)).id ≡ i
kind_id Descriptions i h = by_cases (eqb i 2) (λ q. rw (q, kind_at) (sym (eqb-true i 2 q))) (λ q. absurd (h (rw (q, kind_at))))
kind_id Node i h = by_cases (ltb i 6) (λ q. rw (q, kind_at) (eqb→eq _ _ (below_at (λ (j : ℕ). eqb (layout (2 + j)).id j) 6 tt i (ltb-true i 6 q)))) (λ q. absurd (h (rw (q, kind_at))))
kind_id Reference i h = by_cases (ltb i 12) (λ q. rw (q, kind_at) (eqb→eq _ _ (below_at (λ (j : ℕ). eqb (layout (16 + j)).id j) 12 tt i (ltb-true i 12 q)))) (λ q. absurd (h (rw (q, kind_at))))
kind_id Place i h = by_cases (ltb i 2) (λ q. rw (q, kind_at) (eqb→eq _ _ (below_at (λ (j : ℕ). eqb (layout (8 + j)).id j) 2 tt i (ltb-true i 2 q)))) (λ q. absurd (h (rw (q, kind_at))))
kind_id Modes i h = by_cases (eqb i 0) (λ q. rw (q, kind_at) (sym (eqb-true i 0 q))) (λ q. absurd (h (rw (q, kind_at))))
kind_id Associated i h = by_cases (eqb i 2) (λ q. rw (q, kind_at) (sym (eqb-true i 2 q))) (λ q. absurd (h (rw (q, kind_at))))
kind_id Nowhere i h = absurd (h refl)

pub text_known : (k : ℕ) → (layout k).fields ≡ Text → 0 < k
text_known zero e = absurd (subst (λ (f : Fields). T (not (is_text f))) e tt)
text_known (suc k) e = omega arith

abbrev pub all_lines : (Layout → Bool) → List Layout → Bool
all_lines t [] = true
all_lines t (l ∷ ls) = t l && all_lines t ls

pub line_at : (t : Layout → Bool) (d : Layout) → T (t d) → (ls : List Layout) → T (all_lines t ls) → (k : ℕ) → T (t (get_or ls k d))
line_at t d e [] p k = e
line_at t d e (l ∷ ls) p zero = both_left (t l) (all_lines t ls) p
line_at t d e (l ∷ ls) p (suc k) = line_at t d e ls (both_right (t l) (all_lines t ls) p) k

abbrev pub same : Bool → Bool → Bool
same true b = b
same false b = not b

pub same_eq : (a b : Bool) → T (same a b) → a ≡ b
same_eq true true t = refl
same_eq true false t = absurd t
same_eq false true t = absurd t
same_eq false false t = refl

-- nodes are counted just where the fields have a count, and nothing stands in a text's holder
pub counts_agree : (k : ℕ) → counted (layout k).inside ≡ is_count (layout k).fields
counts_agree k = same_eq _ _ (line_at (λ (l : Layout). same (counted l.inside) (is_count l.fields)) blank tt table tt k)

implied : (a b : Bool) → T (not a || b) → a ≡ true → b ≡ true
implied true true t q = refl
implied true false t q = absurd t
implied false b t q = cc

pub text_closed : (k : ℕ) → is_text (layout k).fields ≡ true → closed (layout k).inside ≡ true
text_closed k = implied _ _ (line_at (λ (l : Layout). not (is_text l.fields) || closed l.inside) blank tt table tt k)

-- A line is found by its identifier at each spot where it stands, and has the width of the spot.
abbrev right_at : ℕ → Layout → Spot → Bool
right_at k l s = closed s || (eqb (kind_at s l.id) k && eqb (width s) l.width)

abbrev line_right : ℕ → Bool
line_right k = right_at k (layout k) (layout k).holder && right_at k (layout k) (layout k).again

not_closed : (s : Spot) → (s ≡ Nowhere → ⊥) → closed s ≡ false
not_closed Descriptions h = refl
not_closed Node h = refl
not_closed Reference h = refl
not_closed Place h = refl
not_closed Modes h = refl
not_closed Associated h = refl
not_closed Nowhere h = absurd (h refl)

right_there : (k : ℕ) (s : Spot) → (s ≡ Nowhere → ⊥) → T (right_at k (layout k) s) → (kind_at s (layout k).id ≡ k) × (width s ≡ (layout k).width)
right_there k s o t =
    let u : T (eqb (kind_at s (layout k).id) k && eqb (width s) (layout k).width) = rw (not_closed s o) at t in
    (eqb→eq _ _ (both_left _ _ u), eqb→eq _ _ (both_right _ _ u))

all_right : (k : ℕ) → k < 28 → T (line_right k)
all_right k h = below_at line_right 28 tt k h

pub no_line : (k : ℕ) → 28 ≤ k → layout k ≡ blank
no_line k h = get_or-eq_default table blank h

pub found_by_line : FoundByLine
found_by_line k s (o, at) =
    by_cases (ltb k 28)
    (λ q.
    let t = all_right k (ltb-true k 28 q) in
    ⊎_elim
    (λ e. right_there k s o (subst (λ (x : Spot). T (right_at k (layout k) x)) e (both_left _ _ t)))
    (λ e. right_there k s o (subst (λ (x : Spot). T (right_at k (layout k) x)) e (both_right _ _ t)))
    at)
    (λ q.
    let e = no_line k (ltb-false k 28 q) in
    absurd (o (⊎_elim (λ x. sym x ∙ ap (λ (l : Layout). l.holder) e) (λ x. sym x ∙ ap (λ (l : Layout). l.again) e) at)))

pub fixed_by_fields : FixedByFields
fixed_by_fields k = eqb→eq _ _ (line_at (λ (l : Layout). eqb l.fixed (fixed_bytes l.fields)) blank tt table tt k)

-- spots by number, so that a test can compare them
abbrev spot_number : Spot → ℕ
spot_number Descriptions = 0
spot_number Node = 1
spot_number Reference = 2
spot_number Place = 3
spot_number Modes = 4
spot_number Associated = 5
spot_number Nowhere = 6

abbrev numbered : ℕ → Spot
numbered n = get_or (Descriptions ∷ Node ∷ Reference ∷ Place ∷ Modes ∷ Associated ∷ []) n Nowhere

numbered_back : (s : Spot) → numbered (spot_number s) ≡ s
numbered_back Descriptions = refl
numbered_back Node = refl
numbered_back Reference = refl
numbered_back Place = refl
numbered_back Modes = refl
numbered_back Associated = refl
numbered_back Nowhere = refl

same_spot : (a b : Spot) → T (eqb (spot_number a) (spot_number b)) → a ≡ b
same_spot a b t = sym (numbered_back a) ∙ ap numbered (eqb→eq _ _ t) ∙ numbered_back b

-- of the kinds from first on, each of the next so many stands at s
held_at : (s : Spot) (first many : ℕ) → T (all_below (λ (j : ℕ). eqb (spot_number (layout (first + j)).holder) (spot_number s)) many)
    → (i : ℕ) → i < many → (layout (first + i)).holder ≡ s
held_at s first many t i h = same_spot _ s (below_at (λ (j : ℕ). eqb (spot_number (layout (first + j)).holder) (spot_number s)) many t i h)

apart : (s t : Spot) → (eqb (spot_number s) (spot_number t) ≡ false) → s ≡ t → ⊥
apart s t h e = let z = eqb-false (spot_number s) (spot_number t) h in z (ap spot_number e)

stands : (s : Spot) (i : ℕ) → (kind_at s i ≡ 0 → ⊥) → StandsAt (kind_at s i) s
stands Descriptions i h = by_cases (eqb i 2) (λ q. rw (q, kind_at) (apart Descriptions Nowhere refl, inl refl)) (λ q. absurd (h (rw (q, kind_at))))
stands Node i h = by_cases (ltb i 6) (λ q. rw (q, kind_at) (apart Node Nowhere refl, inl (held_at Node 2 6 tt i (ltb-true i 6 q)))) (λ q. absurd (h (rw (q, kind_at))))
stands Reference i h = by_cases (ltb i 12) (λ q. rw (q, kind_at) (apart Reference Nowhere refl, inl (held_at Reference 16 12 tt i (ltb-true i 12 q)))) (λ q. absurd (h (rw (q, kind_at))))
stands Place i h = by_cases (ltb i 2) (λ q. rw (q, kind_at) (apart Place Nowhere refl, inl (held_at Place 8 2 tt i (ltb-true i 2 q)))) (λ q. absurd (h (rw (q, kind_at))))
stands Modes i h = by_cases (eqb i 0) (λ q. rw (q, kind_at) (apart Modes Nowhere refl, inl refl)) (λ q. absurd (h (rw (q, kind_at))))
stands Associated i h = by_cases (eqb i 2) (λ q. rw (q, kind_at) (apart Associated Nowhere refl, inr refl)) (λ q. absurd (h (rw (q, kind_at))))
stands Nowhere i h = absurd (h refl)

pub found_by_id : FoundById
found_by_id s i h = (stands s i h, kind_id s i h)

-- where a line says so of both its spots, it holds of each kind that is found at such a spot
found_line : (t : Spot → Layout → Bool) → T (all_lines (λ (l : Layout). t l.holder l && (closed l.again || t l.again l)) table)
    → T (t Nowhere blank) → (s : Spot) (i : ℕ) → (kind_at s i ≡ 0 → ⊥) → T (t s (layout (kind_at s i)))
found_line t all none s i h =
    let at = stands s i h in
    let l : Layout = layout (kind_at s i) in
    let both = line_at (λ (l : Layout). t l.holder l && (closed l.again || t l.again l)) blank (and_in _ _ none (tt)) table all (kind_at s i) in
    ⊎_elim
    (λ e. subst (λ (x : Spot). T (t x l)) e (both_left _ _ both))
    (λ e.
    let u : T (closed s || t s l) = subst (λ (x : Spot). T (closed x || t x l)) e (both_right _ _ both) in
    rw (not_closed s at.0) at u)
    at.1
  where
    and_in : (a b : Bool) → T a → T b → T (a && b)
    and_in true b x y = y
    and_in false b x y = x

-- what stands at a leafy spot holds nothing
pub leafy_closed : (s : Spot) (i : ℕ) → leafy s ≡ true → (kind_at s i ≡ 0 → ⊥) → closed (layout (kind_at s i)).inside ≡ true
leafy_closed s i y h = implied _ _ (found_line (λ (x : Spot) (l : Layout). not (leafy x) || closed l.inside) tt tt s i h) y

abbrev at_node : Spot → Bool
at_node s = eqb (spot_number s) 1

-- what stands in a node and counts no nodes holds leaves at most
pub node_leafy : (i : ℕ) → (kind_at Node i ≡ 0 → ⊥) → is_count (layout (kind_at Node i)).fields ≡ false → leafy (layout (kind_at Node i)).inside ≡ true
node_leafy i h c =
    let t = implied (at_node Node) (is_count (layout (kind_at Node i)).fields || leafy (layout (kind_at Node i)).inside)
    (found_line (λ (x : Spot) (l : Layout). not (at_node x) || (is_count l.fields || leafy l.inside)) tt tt Node i h) refl in
    rw c at t

-- nothing but nodes stands among the descriptions and in associated modes
pub node_described : (i : ℕ) → (kind_at Descriptions i ≡ 0 → ⊥) → (layout (kind_at Descriptions i)).inside ≡ Node
node_described i h = same_spot _ Node (found_line (λ (x : Spot) (l : Layout). not (eqb (spot_number x) 0) || at_node l.inside) tt tt Descriptions i h)

pub node_associated : (i : ℕ) → (kind_at Associated i ≡ 0 → ⊥) → (layout (kind_at Associated i)).inside ≡ Node
node_associated i h = same_spot _ Node (found_line (λ (x : Spot) (l : Layout). not (eqb (spot_number x) 5) || at_node l.inside) tt tt Associated i h)

-- the bytes that fields take at least, by the line of their kind
pub least_fixed : (bs : List ℕ) (k i : ℕ) → is_text (layout k).fields ≡ false → O.least bs (layout k).fields i ≡ (layout k).fixed
least_fixed bs k i t = go (layout k).fields t ∙ sym (fixed_by_fields k)
  where
    go : (f : Fields) → is_text f ≡ false → O.least bs f i ≡ fixed_bytes f
    go Nothing h = refl
    go Code h = refl
    go Text h = cc
    go Globe h = refl
    go Floor h = refl
    go Count h = refl
    go Radius h = refl
    go Height h = refl

pub least_text : (bs : List ℕ) (k i : ℕ) → is_text (layout k).fields ≡ true → O.least bs (layout k).fields i ≡ (layout k).fixed + get_or bs i 0
least_text bs k i t = go (layout k).fields t ∙ ap (λ (n : ℕ). n + get_or bs i 0) (sym (fixed_by_fields k))
  where
    go : (f : Fields) → is_text f ≡ true → O.least bs f i ≡ fixed_bytes f + get_or bs i 0
    go Nothing h = cc
    go Code h = cc
    go Text h = refl
    go Globe h = cc
    go Floor h = cc
    go Count h = cc
    go Radius h = cc
    go Height h = cc
