-- What is sent is the best that tells the rows.
use Rattle.std.proofs.Common.{◌≡◌, ℕ, suc, ◌+◌, ◌*◌, ◌<◌, ◌≤◌, true, false, ◌⊎◌, List, [], ◌++◌, length, Some, None, Option, sym, refl, ap, ◌∙◌, subst, inl, inr, true≢false, append-nil, arith, length-append}
use native.Mathlib.Decide.{ℕ_discrete}
use Rattle.grammar.specs.declared.table.Spot.TheVariants.{Descriptions}
use Rattle.grammar.specs.Grammar.{
  Row,
  Parts,
  none,
  unknown,
  named,
  held,
  bytes_of,
  tell,
  Byte,
  PartsLegal,
  Tops,
  no_more,
  passed,
  described,
  tops_bytes,
  TopsLegal,
  tops_tell,
  Container,
  sent_as,
  Good,
  told,
  Tells,
  default_of,
  Best,
}
use Rattle.grammar.specs.Deciding.{Shaped, Sound, RowsFit}
use Rattle.grammar.specs.Sending.{gather, normal, tops_for, candidate, is_yes, Stands, stands?, stands, texts_in, full_size, frame, most, score, sent, SendingStands, StandsExactly, SizesStand, BestIsOne}
use Rattle.grammar.proofs.Normal.{tell_normal, Shortens, at_most, shortens, full, normal_full, sound_full}
use Rattle.grammar.proofs.Gathered.{gather_tell}
use Rattle.grammar.proofs.Shapes.{tell_gather, tell_shaped}
use Rattle.grammar.proofs.Sizes.{normal_size}
use Rattle.grammar.proofs.Legal.{tell_fits, legal_from}
use Rattle.grammar.proofs.Chosen.{Most, most_is}

tops_for_cases : (p : Parts) → (tops_for p ≡ described p no_more) ⊎ (p ≡ none)
tops_for_cases none = inr refl
tops_for_cases (unknown id bs rest) = inl refl
tops_for_cases (named k t tail rest) = inl refl
tops_for_cases (held k a b inner rest) = inl refl

tops_for_tell : (d : ℕ) (p : Parts) → tops_tell d (tops_for p) ≡ tell d 0 p
tops_for_tell d none = refl
tops_for_tell d (unknown id bs rest) = append-nil (tell d 0 rest)
tops_for_tell d (named k t tail rest) = append-nil (tell d 0 (named k t tail rest))
tops_for_tell d (held k a b inner rest) = append-nil (tell d 0 (held k a b inner rest))

tops_for_legal : (p : Parts) → PartsLegal Descriptions 0 p → length (bytes_of Descriptions p) < 65536 → TopsLegal false (tops_for p)
tops_for_legal none l h = tt
tops_for_legal (unknown id bs rest) l h = (refl, l, h, tt)
tops_for_legal (named k t tail rest) l h = (refl, l, h, tt)
tops_for_legal (held k a b inner rest) l h = (refl, l, h, tt)

size_passed : (id : ℕ) (bs : List ℕ) (rest : Tops) → length (tops_bytes (passed id bs rest)) ≡ 3 + length bs + length (tops_bytes rest)
size_passed id bs rest = simp length-append (omega arith)

size_described : (p : Parts) (rest : Tops) → length (tops_bytes (described p rest)) ≡ 3 + length (bytes_of Descriptions p) + length (tops_bytes rest)
size_described p rest = simp length-append (omega arith)

tops_for_size : (p : Parts) → length (tops_bytes (tops_for p)) ≤ 3 + length (bytes_of Descriptions p)
tops_for_size none = omega arith
tops_for_size (unknown id bs rest) = omega (arith, size_described (unknown id bs rest) no_more)
tops_for_size (named k t tail rest) = omega (arith, size_described (named k t tail rest) no_more)
tops_for_size (held k a b inner rest) = omega (arith, size_described (held k a b inner rest) no_more)

rest_tells : (d : ℕ) (t : Tops) → TopsLegal true t → tops_tell d t ≡ []
rest_tells d no_more l = refl
rest_tells d (passed id bs rest) l = rest_tells d rest l.4
rest_tells d (described p rest) l = absurd (true≢false l.0)

rest_long : (t : Tops) → (t ≡ no_more) ⊎ (0 < length (tops_bytes t))
rest_long no_more = inl refl
rest_long (passed id bs rest) = inr (omega arith)
rest_long (described p rest) = inr (omega arith)

-- the rows of the components t have a tree that stands for them
record Slim (d : ℕ) (t : Tops) (q : Parts) : Type 0 where
  pub shape : Shaped 0 (tops_tell d t)
  pub sound : Sound Descriptions 0 q
  pub fit : RowsFit d (tops_tell d t)
  pub size : Shortens tops_bytes (tops_for (normal d q)) t

described_size : (p q : Parts) (rest : Tops) → Shortens (bytes_of Descriptions) q p → (rest ≡ no_more) ⊎ (0 < length (tops_bytes rest))
    → (tops_for q ≡ described q no_more) ⊎ (q ≡ none) → Shortens tops_bytes (tops_for q) (described p rest)
described_size p q rest (inl h) r c = inl (omega (arith, tops_for_size q, size_described p rest))
described_size p q rest (inr e) (inr h) c =
    let g : length (bytes_of Descriptions q) ≤ length (bytes_of Descriptions p) = at_most (bytes_of Descriptions) q p (inr e) in
    inl (omega (arith, tops_for_size q, size_described p rest))
described_size p q rest (inr e) (inl f) (inl g) = inr (g ∙ (λ i. described (e i) (sym f i)))
described_size p q rest (inr e) (inl f) (inr g) =
    inl (omega (arith, ap (λ (x : Parts). length (tops_bytes (tops_for x))) g, size_described p rest))

slim : (d : ℕ) (t : Tops) → Byte d → TopsLegal false t → Slim d t (gather (tops_tell d t) 0)
slim d no_more h l = record { shape = tt; sound = tt; fit = tt; size = inr refl }
slim d (passed id bs rest) h l =
    let ih = slim d rest h l.4 in
    let g : length (tops_bytes (tops_for (normal d (gather (tops_tell d rest) 0)))) ≤ length (tops_bytes rest) = at_most tops_bytes _ rest ih.size in
    record { shape = ih.shape; sound = ih.sound; fit = ih.fit; size = inl (omega (arith, size_passed id bs rest)) }
slim d (described p rest) h l =
    let e : tell d 0 p ++ tops_tell d rest ≡ tell d 0 p = ap (λ (x : List Row). tell d 0 p ++ x) (rest_tells d rest l.3) ∙ append-nil (tell d 0 p) in
    let q : gather (tell d 0 p ++ tops_tell d rest) 0 ≡ full d p = ap (λ (x : List Row). gather x 0) e ∙ gather_tell d Descriptions 0 p l.1 in
    let it : Slim d (described p rest) (full d p) =
    record {
      shape = subst (Shaped 0) (sym e) (tell_shaped d Descriptions 0 p l.1);
      sound = sound_full d Descriptions 0 p l.1;
      fit = subst (RowsFit d) (sym e) (tell_fits d Descriptions 0 0 p h l.1);
      size =
          subst (λ (x : Parts). Shortens tops_bytes (tops_for x) (described p rest)) (sym (normal_full d p))
          (described_size p (normal d p) rest (shortens d Descriptions p) (rest_long rest) (tops_for_cases (normal d p)));
    } in
    subst (Slim d (described p rest)) (sym q) it

pub is_yes_of : {A : Type 0} (x : Dec A) → A → is_yes x ≡ true
is_yes_of (yes a) b = refl
is_yes_of (no n) b = absurd (n b)

of_is_yes : {A : Type 0} (x : Dec A) → is_yes x ≡ true → A
of_is_yes (yes a) e = a
of_is_yes (no n) e = absurd (true≢false (sym e))

-- the length of a candidate that stands
frame_of : (d : ℕ) (p : Parts)
    → suc (length (tops_bytes (tops_for (normal d p)))) ≡ frame (tell d 0 p) + length (bytes_of Descriptions (normal d p))
frame_of d none = refl
frame_of d (unknown id bs rest) = frame_of d rest
frame_of d (named k t tail rest) = omega (arith, size_described (normal d (named k t tail rest)) no_more)
frame_of d (held k a b inner rest) = omega (arith, size_described (normal d (held k a b inner rest)) no_more)

sized : (rows : List Row) (d : ℕ) → Shaped 0 rows → Sound Descriptions 0 (gather rows 0)
    → length (sent_as (candidate rows d)) + 3 * texts_in d rows ≡ frame rows + full_size rows
sized rows d s l =
    let g : Parts = gather rows 0 in
    let t : tell d 0 g ≡ rows = tell_gather d rows s in
    let f : suc (length (tops_bytes (tops_for (normal d g)))) ≡ frame rows + length (bytes_of Descriptions (normal d g)) =
    subst (λ (x : List Row). suc (length (tops_bytes (tops_for (normal d g)))) ≡ frame x + length (bytes_of Descriptions (normal d g))) t (frame_of d g) in
    let z : length (bytes_of Descriptions (normal d g)) + 3 * texts_in d rows ≡ full_size rows =
    subst (λ (x : List Row). length (bytes_of Descriptions (normal d g)) + 3 * texts_in d x ≡ full_size x) t (normal_size d Descriptions 0 0 g l) in
    omega arith

pub sizes : SizesStand
sizes rows d s = sized rows d s.0 s.1

stood : (rows : List Row) (d : ℕ) → d < 256 → Stands rows d → Good (candidate rows d) × (told (candidate rows d) ≡ rows)
stood rows d b s =
    let g : Parts = gather rows 0 in
    let z : length (sent_as (candidate rows d)) + 3 * texts_in d rows ≡ frame rows + full_size rows = sizes rows d s in
    let k : length (sent_as (candidate rows d)) ≤ 65535 = omega arith in
    let t : tell d 0 g ≡ rows = tell_gather d rows s.0 in
    let h : length (bytes_of Descriptions (normal d g)) < 65536 = omega (arith, frame_of d g) in
    let l : PartsLegal Descriptions 0 (normal d g) = legal_from d Descriptions 0 0 g s.1 (subst (RowsFit d) (sym t) s.2) h in
    ((b, tops_for_legal (normal d g) l h, k), tops_for_tell d (normal d g) ∙ (tell_normal d 0 g ∙ t))

abbrev weight : List Row → ℕ → ℕ
weight rows d = length (sent_as (candidate rows d))

weigh : (rows : List Row) (d e : ℕ) → Stands rows d → Stands rows e
    → (score rows e < score rows d) ⊎ ((score rows e ≡ score rows d) × (d ≤ e)) → (weight rows d < weight rows e) ⊎ ((weight rows d ≡ weight rows e) × (d ≤ e))
weigh rows d e p q (inl h) = let x = sizes rows d p in let y = sizes rows e q in inl (omega arith)
weigh rows d e p q (inr h) = let x = sizes rows d p in let y = sizes rows e q in inr (omega arith, h.1)

-- whatever tells the rows, the candidate of its default stands, and is shorter or the same
abbrev Covers : List Row → Container → Type 0
Covers rows c = Stands rows c.default × Shortens sent_as (candidate rows c.default) c

grown : (d : ℕ) (x y : Tops) → Shortens tops_bytes x y → Shortens sent_as (record { default = d; tops = x }) (record { default = d; tops = y })
grown d x y (inl h) = inl (omega arith)
grown d x y (inr e) = inr (λ i. record { default = d; tops = e i })

covers : (c : Container) → Good c → Covers (told c) c
covers c g =
    let d : ℕ = c.default in
    let rows : List Row = told c in
    let s : Slim d c.tops (gather rows 0) = slim d c.tops g.0 g.1 in
    let z : Shortens sent_as (candidate rows d) c = grown d (tops_for (normal d (gather rows 0))) c.tops s.size in
    let k : length (sent_as (candidate rows d)) ≤ length (sent_as c) = at_most sent_as (candidate rows d) c z in
    let m : length (sent_as c) ≤ 65535 = g.2 in
    let y : length (sent_as (candidate rows d)) + 3 * texts_in d rows ≡ frame rows + full_size rows = sized rows d s.shape s.sound in
    ((s.shape, s.sound, s.fit, omega arith), z)

covers_of : (rows : List Row) (c : Container) → Good c → told c ≡ rows → Covers rows c
covers_of rows c g t = subst (λ (x : List Row). Covers x c) t (covers c g)

pub exactly : StandsExactly
exactly = (λ rows c g t. (covers_of rows c g t).0, stood)

abbrev Verdict : List ℕ → List ℕ → Type 0
Verdict bytes rival =
    (rival ≡ bytes) ⊎ ((length bytes < length rival) ⊎ ((length bytes ≡ length rival) × (default_of bytes < default_of rival)))

verdict : (rows : List Row) (d : ℕ) (c : Container)
    → (weight rows d < weight rows c.default) ⊎ ((weight rows d ≡ weight rows c.default) × (d ≤ c.default))
    → Shortens sent_as (candidate rows c.default) c → Verdict (sent_as (candidate rows d)) (sent_as c)
verdict rows d c (inl h) z =
    let k : weight rows c.default ≤ length (sent_as c) = at_most sent_as (candidate rows c.default) c z in inr (inl (omega arith))
verdict rows d c (inr h) (inl z) = inr (inl (omega arith))
verdict rows d c (inr h) (inr f) =
    elim (ℕ_discrete d c.default) [
      | yes q ↦ inl (sym (ap sent_as ((λ i. candidate rows (q i)) ∙ f)))
      | no n ↦ inr (inr (h.0 ∙ ap (λ (x : Container). length (sent_as x)) f, omega arith))
    ]

best : (rows : List Row) (d : ℕ) → Most (stands rows) (score rows) 256 (Some d) → Best rows (sent_as (candidate rows d))
best rows d l =
    let st : Stands rows d = of_is_yes (stands? rows d) l.1 in
    let ok = stood rows d l.0 st in (
      (candidate rows d, ok.0, refl, ok.1),
      λ rival t.
          let c : Container = t.0 in
          let v : Covers rows c = covers_of rows c t.1 t.3 in
          subst (Verdict (sent_as (candidate rows d))) t.2 (verdict rows d c (weigh rows d c.default st v.0 (l.2 c.default t.1.0 (is_yes_of (stands? rows c.default) v.0))) v.1),
    )

found : (rows : List Row) (o : Option ℕ) (bytes : List ℕ) → Most (stands rows) (score rows) 256 o → sent rows o ≡ Some bytes → Best rows bytes
found rows None bytes l e = let z : ◌≡◌ {A = ℕ} 0 1 = cc in absurd (omega arith)
found rows (Some d) bytes l e = let q : sent_as (candidate rows d) ≡ bytes = cc in subst (Best rows) q (best rows d l)

missing : (rows : List Row) (o : Option ℕ) → Most (stands rows) (score rows) 256 o → sent rows o ≡ None → (bytes : List ℕ) → Tells bytes rows → ⊥
missing rows (Some d) l e bytes t = let z : ◌≡◌ {A = ℕ} 0 1 = cc in omega arith
missing rows None l e bytes t =
    let c : Container = t.0 in
    let v : Covers rows c = covers_of rows c t.1 t.3 in
    l c.default t.1.0 (is_yes_of (stands? rows c.default) v.0)

pub sends : SendingStands
sends = (
  λ rows bytes e. found rows (most (stands rows) (score rows) 256) bytes (most_is (stands rows) (score rows) 256) e,
  λ rows e. missing rows (most (stands rows) (score rows) 256) (most_is (stands rows) (score rows) 256) e,
)

-- the best is one
pub unique : BestIsOne
unique rows x y p q = go (p.1 y q.0) (q.1 x p.0)
  where
    go : Verdict x y → Verdict y x → x ≡ y
    go (inl e) v = sym e
    go (inr h) (inl e) = e
    go (inr (inl h)) (inr (inl k)) = absurd (omega arith)
    go (inr (inl h)) (inr (inr k)) = absurd (omega arith)
    go (inr (inr h)) (inr (inl k)) = absurd (omega arith)
    go (inr (inr h)) (inr (inr k)) = absurd (omega arith)
