-- What rows must be to have a tree: their shape, the places of their kinds, and their numbers; and that all of it is decided.
use Rattle.std.specs.Prelude.{◌≡◌, ℕ, suc, ◌+◌, ◌^◌, ◌<◌, ◌≤◌, Bool, true, false, T, List, [], ◌∷◌, length, ℤ, pos, negsuc, ◌==◌, nat_le, refl}
use Rattle.std.proofs.Common.{sym, ap, subst, leb→le, le→leb, eqb→eq}
use Rattle.std.proofs.Math.Dec.{eqb_refl}
use Rattle.grammar.specs.declared.table.Spot.{Spot}
use Rattle.grammar.specs.declared.table.Fields.{Fields}
use Rattle.grammar.specs.declared.table.Fields.TheVariants.{Nothing, Code, Text, Globe, Floor, Count, Radius, Height}
use Rattle.grammar.specs.Format.{width, layout, Fit, kind_at, UpTo, Between}
use Rattle.grammar.specs.Reading.{is_text}
use Rattle.grammar.specs.Grammar.{Row, Parts, none, unknown, named, held, how_many, Byte, Bytes, deeper}

abbrev le_on : (m n : ℕ) (b : Bool) → nat_le m n ≡ b → Dec (m ≤ n)
le_on m n true e = yes (leb→le m n (subst T (sym e) tt))
le_on m n false e = no (λ h. subst T e (le→leb m n h))

abbrev pub le? : (m n : ℕ) → Dec (m ≤ n)
le? m n = le_on m n (nat_le m n) refl

abbrev pub lt? : (m n : ℕ) → Dec (m < n)
lt? m n = le? (suc m) n

abbrev eq_on : (m n : ℕ) (b : Bool) → (m == n) ≡ b → Dec (m ≡ n)
eq_on m n true e = yes (eqb→eq m n (subst T (sym e) tt))
eq_on m n false e = no (λ h. subst T e (subst (λ (k : ℕ). T (m == k)) h (eqb_refl m)))

abbrev pub eq? : (m n : ℕ) → Dec (m ≡ n)
eq? m n = eq_on m n (m == n) refl

module _ {A B : Type 0} where
  abbrev pub and₂ : Dec A → Dec B → Dec (A × B)
  and₂ (no n) b = no (λ h. n h.0)
  and₂ (yes a) (no n) = no (λ h. n h.1)
  and₂ (yes a) (yes b) = yes (a, b)

  abbrev pub either_way : (A → B) → (B → A) → Dec A → Dec B
  either_way f g (yes a) = yes (f a)
  either_way f g (no n) = no (λ b. n (g b))

module _ {A B C : Type 0} where
  abbrev pub and₃ : Dec A → Dec (B × C) → Dec (A × B × C)
  and₃ (no n) b = no (λ h. n h.0)
  and₃ (yes a) (no n) = no (λ h. n (h.1, h.2))
  and₃ (yes a) (yes b) = yes (a, b.0, b.1)

module _ {A B C D : Type 0} where
  abbrev pub and₄ : Dec A → Dec (B × C × D) → Dec (A × B × C × D)
  and₄ (no n) b = no (λ h. n h.0)
  and₄ (yes a) (no n) = no (λ h. n (h.1, h.2, h.3))
  and₄ (yes a) (yes b) = yes (a, b.0, b.1, b.2)

module _ {A B C D E : Type 0} where
  abbrev pub and₅ : Dec A → Dec (B × C × D × E) → Dec (A × B × C × D × E)
  and₅ (no n) b = no (λ h. n h.0)
  and₅ (yes a) (no n) = no (λ h. n (h.1, h.2, h.3, h.4))
  and₅ (yes a) (yes b) = yes (a, b.0, b.1, b.2, b.3)

module _ {A B C D E F : Type 0} where
  abbrev pub and₆ : Dec A → Dec (B × C × D × E × F) → Dec (A × B × C × D × E × F)
  and₆ (no n) b = no (λ h. n h.0)
  and₆ (yes a) (no n) = no (λ h. n (h.1, h.2, h.3, h.4, h.5))
  and₆ (yes a) (yes b) = yes (a, b.0, b.1, b.2, b.3, b.4)

abbrev no_text : (f : Fields) → is_text f ≡ false → Dec (f ≡ Text)
no_text f e = no (λ h. subst T e (subst (λ (g : Fields). T (is_text g)) (sym h) tt))

abbrev pub text? : (f : Fields) → Dec (f ≡ Text)
text? Nothing = no_text Nothing refl
text? Code = no_text Code refl
text? Text = yes refl
text? Globe = no_text Globe refl
text? Floor = no_text Floor refl
text? Count = no_text Count refl
text? Radius = no_text Radius refl
text? Height = no_text Height refl

abbrev under : ℤ → ℕ
under (pos x) = x
under (negsuc x) = x

abbrev is_pos : ℤ → Bool
is_pos (pos x) = true
is_pos (negsuc x) = false

abbrev pub int? : (x y : ℤ) → Dec (x ≡ y)
int? (pos m) (pos n) = either_way (λ (e : m ≡ n). ap pos e) (λ e. ap under e) (eq? m n)
int? (pos m) (negsuc n) = no (λ h. subst (λ (z : ℤ). T (is_pos z)) h tt)
int? (negsuc m) (pos n) = no (λ h. subst (λ (z : ℤ). T (is_pos z)) (sym h) tt)
int? (negsuc m) (negsuc n) = either_way (λ (e : m ≡ n). ap negsuc e) (λ e. ap under e) (eq? m n)

abbrev never : Dec ⊥
never = no (λ h. h)

abbrev up_to? : (m : ℕ) (z : ℤ) → Dec (UpTo m z)
up_to? m (pos x) = lt? x m
up_to? m (negsuc x) = never

abbrev between? : (m n : ℕ) (z : ℤ) → Dec (Between m n z)
between? m n (pos x) = le? x n
between? m n (negsuc x) = le? (suc x) m

abbrev pub fit? : (f : Fields) (a b : ℤ) (n : ℕ) → Dec (Fit f a b n)
fit? Nothing a b n = and₂ (int? a (pos 0)) (int? b (pos 0))
fit? Code a b n = and₂ (up_to? 256 a) (int? b (pos 0))
fit? Text a b n = never
fit? Globe a b n = and₂ (between? 18000000 18000000 a) (between? 9000000 9000000 b)
fit? Floor a b n = and₂ (between? 128 127 a) (int? b (pos 0))
fit? Count a b n = and₃ (int? a (pos 0)) (and₂ (int? b (pos 0)) (lt? n 256))
fit? Radius a b n = and₂ (up_to? 65536 a) (int? b (pos 0))
fit? Height a b n = and₂ (up_to? 256 a) (between? 32768 32767 b)

abbrev pub bytes? : (xs : List ℕ) → Dec (Bytes xs)
bytes? [] = yes tt
bytes? (x ∷ xs) = and₂ (lt? x 256) (bytes? xs)

-- the kinds stand where they may, hold numbers that fit, and none is inside a ninth node
abbrev pub Sound : Spot → ℕ → Parts → Type 0
Sound s n none = Unit {0}
Sound s n (unknown id bs rest) = ⊥
Sound s n (named k t tail rest) = (kind_at s (layout k).id ≡ k) × ((layout k).fields ≡ Text) × Sound s n rest
Sound s n (held k a b inner rest) =
    (kind_at s (layout k).id ≡ k) × (0 < k) × Fit (layout k).fields a b (how_many inner) × (deeper (layout k).inside n ≤ 8)
    × Sound (layout k).inside (deeper (layout k).inside n) inner × Sound s n rest

abbrev pub sound? : (s : Spot) (n : ℕ) (p : Parts) → Dec (Sound s n p)
sound? s n none = yes tt
sound? s n (unknown id bs rest) = never
sound? s n (named k t tail rest) = and₃ (eq? (kind_at s (layout k).id) k) (and₂ (text? (layout k).fields) (sound? s n rest))
sound? s n (held k a b inner rest) =
    and₆ (eq? (kind_at s (layout k).id) k)
    (and₅ (lt? 0 k)
    (and₄ (fit? (layout k).fields a b (how_many inner))
    (and₃ (le? (deeper (layout k).inside n) 8)
    (and₂ (sound? (layout k).inside (deeper (layout k).inside n) inner) (sound? s n rest)))))

-- under the default d a row's text fits the width of its component's length
abbrev pub text_frame : Bool → ℕ
text_frame true = 1
text_frame false = 4

abbrev pub RowFits : Bool → ℕ → Row → Type 0
RowFits true d r =
    Byte r.language × Bytes r.text × (length r.text < 256)
    × (length r.text + text_frame (r.language == d) < 256 ^ width (layout r.kind).holder)
RowFits false d r = Unit {0}

abbrev pub RowsFit : ℕ → List Row → Type 0
RowsFit d [] = Unit {0}
RowsFit d (r ∷ rs) = RowFits (is_text (layout r.kind).fields) d r × RowsFit d rs

abbrev row_fits? : (b : Bool) (d : ℕ) (r : Row) → Dec (RowFits b d r)
row_fits? true d r =
    and₄ (lt? r.language 256)
    (and₃ (bytes? r.text)
    (and₂ (lt? (length r.text) 256) (lt? (length r.text + text_frame (r.language == d)) (256 ^ width (layout r.kind).holder))))
row_fits? false d r = yes tt

abbrev pub rows_fit? : (d : ℕ) (rows : List Row) → Dec (RowsFit d rows)
rows_fit? d [] = yes tt
rows_fit? d (r ∷ rs) = and₂ (row_fits? (is_text (layout r.kind).fields) d r) (rows_fit? d rs)

-- rows that are some tree's: each at most one deeper than the row before it, or no deeper under a text, and with nothing that a row of its kind does not tell
abbrev pub Plain : Bool → Row → Type 0
Plain true r = (r.a ≡ pos 0) × (r.b ≡ pos 0)
Plain false r = (r.language ≡ 0) × (r.text ≡ [])

abbrev pub next : Bool → ℕ → ℕ
next true n = n
next false n = suc n

abbrev pub Shaped : ℕ → List Row → Type 0
Shaped m [] = Unit {0}
Shaped m (r ∷ rs) = (r.depth ≤ m) × Plain (is_text (layout r.kind).fields) r × Shaped (next (is_text (layout r.kind).fields) r.depth) rs

abbrev empty : List ℕ → Bool
empty [] = true
empty (x ∷ xs) = false

abbrev empty? : (xs : List ℕ) → Dec (xs ≡ [])
empty? [] = yes refl
empty? (x ∷ xs) = no (λ h. subst (λ (l : List ℕ). T (empty l)) (sym h) tt)

abbrev plain? : (b : Bool) (r : Row) → Dec (Plain b r)
plain? true r = and₂ (int? r.a (pos 0)) (int? r.b (pos 0))
plain? false r = and₂ (eq? r.language 0) (empty? r.text)

abbrev pub shaped? : (m : ℕ) (rows : List Row) → Dec (Shaped m rows)
shaped? m [] = yes tt
shaped? m (r ∷ rs) =
    and₃ (le? r.depth m)
    (and₂ (plain? (is_text (layout r.kind).fields) r) (shaped? (next (is_text (layout r.kind).fields) r.depth) rs))
