-- The normal tree under a default: no unknown component, and of each text's tail a language part exactly where its language is not the default.
use Rattle.std.proofs.Common.{◌≡◌, ℕ, suc, ◌+◌, ◌<◌, ◌≤◌, Bool, true, false, eqb, ◌⊎◌, List, [], ◌∷◌, ◌++◌, length, ℤ, pos, sym, refl, subst, inl, inr, arith, length-append}
use Rattle.grammar.proofs.Numbers.{length_big}
use Rattle.grammar.proofs.Cut.{by_cases}
use Rattle.std.proofs.lemmas.Bool.{eqb-true, eqb-false}
use Rattle.grammar.specs.declared.table.Spot.{Spot}
use Rattle.grammar.specs.declared.table.Fields.{Fields}
use Rattle.grammar.specs.declared.table.Fields.TheVariants.{Nothing, Code, Text, Globe, Floor, Count, Radius, Height}
use Rattle.grammar.specs.Format.{width, layout, header, fixed, Fit}
use Rattle.grammar.specs.Grammar.{Tail, bare, other, spoken, Parts, none, unknown, named, held, tail_bytes, how_many, bytes_of, said, tell, deeper, PartsLegal}
use Rattle.grammar.specs.Sending.{spoken_unless, tail_for, normal}
use Rattle.grammar.specs.Deciding.{Sound}

-- a goal on the test of two numbers, by whether they are equal
pub on_eqb : (P : Bool → Type 0) (m n : ℕ) → (m ≡ n → P true) → ((m ≡ n → ⊥) → P false) → P (eqb m n)
on_eqb P m n yes-so not_so =
    by_cases (eqb m n) (λ q. subst P (sym q) (yes-so (eqb-true m n q))) (λ q. subst P (sym q) (not_so (eqb-false m n q)))

-- it tells the same
pub said_tail_for : (d l : ℕ) → said d (tail_for d l) ≡ l
said_tail_for d l = on_eqb (λ b. said d (spoken_unless b l) ≡ l) l d sym (λ n. refl)

pub tell_normal : (d n : ℕ) (p : Parts) → tell d n (normal d p) ≡ tell d n p
tell_normal d n none = refl
tell_normal d n (unknown id bs rest) = tell_normal d n rest
tell_normal d n (named k t tail rest) =
    λ i. record { depth = n; kind = k; a = pos 0; b = pos 0; language = said_tail_for d (said d tail) i; text = t } ∷ tell_normal d n rest i
tell_normal d n (held k a b inner rest) =
    λ i. record { depth = n; kind = k; a = a; b = b; language = 0; text = [] } ∷ (tell_normal d (suc n) inner i ++ tell_normal d n rest i)

-- it is shorter, or the same
abbrev pub Shortens : {A : Type 0} → (A → List ℕ) → A → A → Type 0
Shortens bytes x y = (length (bytes x) < length (bytes y)) ⊎ (x ≡ y)

pub at_most : {A : Type 0} (bytes : A → List ℕ) (x y : A) → Shortens bytes x y → length (bytes x) ≤ length (bytes y)
at_most bytes x y (inl h) = omega arith
at_most bytes x y (inr e) = rw e (omega arith)

pub tail_shortens : (d : ℕ) (t : Tail) → Shortens tail_bytes (tail_for d (said d t)) t
tail_shortens d bare = on_eqb (λ b. Shortens tail_bytes (spoken_unless b d) bare) d d (λ e. inr refl) (λ n. absurd (n refl))
tail_shortens d (other id bs rest) =
    let h : length (tail_bytes (tail_for d (said d rest))) ≤ length (tail_bytes rest) = at_most tail_bytes _ _ (tail_shortens d rest) in
    inl (simp length-append (omega arith))
tail_shortens d (spoken l bare) = on_eqb (λ b. Shortens tail_bytes (spoken_unless b l) (spoken l bare)) l d (λ e. inl (omega arith)) (λ n. inr refl)
tail_shortens d (spoken l (other id bs rest)) =
    on_eqb (λ b. Shortens tail_bytes (spoken_unless b l) (spoken l (other id bs rest))) l d (λ e. inl (omega arith)) (λ n. inl (omega arith))
tail_shortens d (spoken l (spoken m rest)) =
    on_eqb (λ b. Shortens tail_bytes (spoken_unless b l) (spoken l (spoken m rest))) l d (λ e. inl (omega arith)) (λ n. inl (omega arith))

pub length_part : (s : Spot) (id n : ℕ) (body rest : List ℕ) → length ((header s id n ++ body) ++ rest) ≡ suc (width s) + length body + length rest
length_part s id n body rest = simp (length-append, length_big) (omega arith)

length_fixed : (f : Fields) (a b : ℤ) (n m : ℕ) → length (fixed f a b n) ≡ length (fixed f a b m)
length_fixed Nothing a b n m = refl
length_fixed Code a b n m = refl
length_fixed Text a b n m = refl
length_fixed Globe a b n m = refl
length_fixed Floor a b n m = refl
length_fixed Count a b n m = refl
length_fixed Radius a b n m = refl
length_fixed Height a b n m = refl

pub size_named : (s : Spot) (k : ℕ) (t : List ℕ) (tail : Tail) (rest : Parts)
    → length (bytes_of s (named k t tail rest)) ≡ suc (width s) + (suc (length t) + length (tail_bytes tail)) + length (bytes_of s rest)
size_named s k t tail rest = rw length_part (simp length-append (omega arith))

pub size_held : (s : Spot) (k : ℕ) (a b : ℤ) (inner rest : Parts)
    → length (bytes_of s (held k a b inner rest))
    ≡ suc (width s) + (length (fixed (layout k).fields a b (how_many inner)) + length (bytes_of (layout k).inside inner)) + length (bytes_of s rest)
size_held s k a b inner rest = rw length_part (simp length-append (omega arith))

named_shortens : (s : Spot) (k : ℕ) (t : List ℕ) (x y : Tail) (p q : Parts)
    → Shortens tail_bytes x y → Shortens (bytes_of s) p q → Shortens (bytes_of s) (named k t x p) (named k t y q)
named_shortens s k t x y p q (inr e) (inr f) = inr (λ i. named k t (e i) (f i))
named_shortens s k t x y p q (inl h) r =
    let g : length (bytes_of s p) ≤ length (bytes_of s q) = at_most (bytes_of s) p q r in
    inl (omega (arith, size_named s k t x p, size_named s k t y q))
named_shortens s k t x y p q (inr e) (inl h) =
    let g : length (tail_bytes x) ≤ length (tail_bytes y) = at_most tail_bytes x y (inr e) in
    inl (omega (arith, size_named s k t x p, size_named s k t y q))

held_shortens : (s : Spot) (k : ℕ) (a b : ℤ) (x y p q : Parts)
    → Shortens (bytes_of (layout k).inside) x y → Shortens (bytes_of s) p q → Shortens (bytes_of s) (held k a b x p) (held k a b y q)
held_shortens s k a b x y p q (inr e) (inr f) = inr (λ i. held k a b (e i) (f i))
held_shortens s k a b x y p q (inl h) r =
    let g : length (bytes_of s p) ≤ length (bytes_of s q) = at_most (bytes_of s) p q r in
    inl (omega (arith, size_held s k a b x p, size_held s k a b y q, length_fixed (layout k).fields a b (how_many x) (how_many y)))
held_shortens s k a b x y p q (inr e) (inl h) =
    let g : length (bytes_of (layout k).inside x) ≤ length (bytes_of (layout k).inside y) = at_most (bytes_of (layout k).inside) x y (inr e) in
    inl (omega (arith, size_held s k a b x p, size_held s k a b y q, length_fixed (layout k).fields a b (how_many x) (how_many y)))

pub shortens : (d : ℕ) (s : Spot) (p : Parts) → Shortens (bytes_of s) (normal d p) p
shortens d s none = inr refl
shortens d s (unknown id bs rest) =
    let h : length (bytes_of s (normal d rest)) ≤ length (bytes_of s rest) = at_most (bytes_of s) _ _ (shortens d s rest) in
    inl (rw length_part (omega arith))
shortens d s (named k t tail rest) = named_shortens s k t _ tail _ rest (tail_shortens d tail) (shortens d s rest)
shortens d s (held k a b inner rest) = held_shortens s k a b _ inner _ rest (shortens d (layout k).inside inner) (shortens d s rest)

-- the same tree with each language written out
abbrev pub full : ℕ → Parts → Parts
full d none = none
full d (unknown id bs rest) = full d rest
full d (named k t tail rest) = named k t (spoken (said d tail) bare) (full d rest)
full d (held k a b inner rest) = held k a b (full d inner) (full d rest)

pub normal_full : (d : ℕ) (p : Parts) → normal d (full d p) ≡ normal d p
normal_full d none = refl
normal_full d (unknown id bs rest) = normal_full d rest
normal_full d (named k t tail rest) = λ i. named k t (tail_for d (said d tail)) (normal_full d rest i)
normal_full d (held k a b inner rest) = λ i. held k a b (normal_full d inner i) (normal_full d rest i)

full_fewer : (d : ℕ) (p : Parts) → how_many (full d p) ≤ how_many p
full_fewer d none = omega arith
full_fewer d (unknown id bs rest) = let h : how_many (full d rest) ≤ how_many rest = full_fewer d rest in omega arith
full_fewer d (named k t tail rest) = let h : how_many (full d rest) ≤ how_many rest = full_fewer d rest in omega arith
full_fewer d (held k a b inner rest) = let h : how_many (full d rest) ≤ how_many rest = full_fewer d rest in omega arith

pub normal_fewer : (d : ℕ) (p : Parts) → how_many (normal d p) ≤ how_many p
normal_fewer d none = omega arith
normal_fewer d (unknown id bs rest) = let h : how_many (normal d rest) ≤ how_many rest = normal_fewer d rest in omega arith
normal_fewer d (named k t tail rest) = let h : how_many (normal d rest) ≤ how_many rest = normal_fewer d rest in omega arith
normal_fewer d (held k a b inner rest) = let h : how_many (normal d rest) ≤ how_many rest = normal_fewer d rest in omega arith

pub fit_fewer : (f : Fields) (a b : ℤ) (n m : ℕ) → m ≤ n → Fit f a b n → Fit f a b m
fit_fewer Nothing a b n m h k = k
fit_fewer Code a b n m h k = k
fit_fewer Text a b n m h k = k
fit_fewer Globe a b n m h k = k
fit_fewer Floor a b n m h k = k
fit_fewer Count a b n m h k = (k.0, k.1, omega arith)
fit_fewer Radius a b n m h k = k
fit_fewer Height a b n m h k = k

pub sound_full : (d : ℕ) (s : Spot) (n : ℕ) (p : Parts) → PartsLegal s n p → Sound s n (full d p)
sound_full d s n none l = tt
sound_full d s n (unknown id bs rest) l = sound_full d s n rest l.5
sound_full d s n (named k t tail rest) l = (l.0, l.1, sound_full d s n rest l.6)
sound_full d s n (held k a b inner rest) l = (
  l.0,
  l.1,
  fit_fewer (layout k).fields a b (how_many inner) (how_many (full d inner)) (full_fewer d inner) l.2,
  l.3,
  sound_full d (layout k).inside (deeper (layout k).inside n) inner l.4,
  sound_full d s n rest l.6,
)
