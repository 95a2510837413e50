-- What stands in a record is the row that was written.
-- Assumes nothing.
use Rattle.std.proofs.Common.{◌≡◌, ℕ, zero, suc, ◌+◌, ◌-◌, ◌/◌, ◌%◌, ◌<◌, ◌≤◌, List, [], ◌∷◌, ◌++◌, length, get_or, take, drop, ℤ, pos, negsuc, sym, refl, ap, ◌∙◌, ap₂, append_assoc, div-one, add-one, arith, length-append, length-drop, length-take-le, take_all, w32, SFits, of_z, le-leb, leb-false, leb-true}
use borrow.Author.Tests.{lt-leb}
use Rattle.std.proofs.lemmas.List.{nil_from_length, get_or_append_left, drop-append-le, take-append-le}
use Rattle.grammar.specs.Format.{big, twos, Between}
use Rattle.grammar.specs.Grammar.{Rows, Row as Told}
use Rattle.grammar.specs.Reading.{signed}
use Rattle.grammar.proofs.Cut.{by_cases}
use Rattle.grammar.proofs.Numbers.{length_twos, signed_twos}
use Rattle.location.specs.declared.Row.{Row}
use Rattle.location.specs.Answers.{seen}
use Rattle.grammar.specs.Sheet.{cost_of, cost}
use Rattle.sheet.specs.Records.{encoded, head_of, record_size, is_whole, first_row, rows_in}

-- a number of four bytes is between the least and the greatest of them
within : (z : ℤ) → SFits w32 z → Between 2147483648 2147483647 z
within (pos x) f = let h = f.sfits in omega arith
within (negsuc x) f = let h = f.sfits in omega arith

back : (z : ℤ) (rest : List ℕ) → SFits w32 z → signed 4 (twos 4 z ++ rest) ≡ z
back z rest f = signed_twos 4 2147483648 refl z rest (within z f) (omega arith)

long_four : (z : ℤ) → length (twos 4 z) ≡ 4
long_four z = length_twos 4 2147483648 refl z

-- the four bytes of a number's bits are those of the number
four_is : (x : ℕ) → x / 16777216 % 256 ∷ x / 65536 % 256 ∷ x / 256 % 256 ∷ x % 256 ∷ [] ≡ big 4 x
four_is x = rw (div-one x)

pub four_bytes : (z : ℤ) (p : List ℕ)
    → p ≡ of_z w32 z / 16777216 % 256 ∷ of_z w32 z / 65536 % 256 ∷ of_z w32 z / 256 % 256 ∷ of_z w32 z % 256 ∷ []
    → get_or p 0 0 ∷ get_or p 1 0 ∷ get_or p 2 0 ∷ get_or p 3 0 ∷ [] ≡ twos 4 z
four_bytes (pos x) p e = rw e (four_is x)
four_bytes (negsuc x) p e = rw e (four_is (4294967296 - suc x))

-- a head and a text behind it are a record
pub laid : (b0 b1 b2 top text : List ℕ) (at : ℕ) (T : List ℕ) → top ≡ T → length T ≡ 12
    → take (at + length top) b1 ≡ take at b0 ++ top → take (at + 12 + length text) b2 ≡ take (at + 12) b1 ++ text
    → take (at + (12 + length text)) b2 ≡ take at b0 ++ (T ++ text)
laid b0 b1 b2 top text at T e n p q =
    let a = append_assoc (take at b0) T text in
    let m : length top ≡ 12 = ap length e ∙ n in
    let s : at + (12 + length text) ≡ at + 12 + length text = omega arith in
    cc

pub head_long : (r : Row) → length (head_of r) ≡ 12
head_long r =
    let k = long_four r.a in
    let l = long_four r.b in
    let m = length-append (twos 4 r.a) (twos 4 r.b ++ (r.language ∷ r.length ∷ [])) in
    let n = length-append (twos 4 r.b) (r.language ∷ r.length ∷ []) in
    omega arith

-- one record more, or none
pub rows_whole : (n : ℕ) (bs : List ℕ) → record_size bs ≤ length bs → rows_in (suc n) bs ≡ first_row bs ∷ rows_in n (drop (record_size bs) bs)
unfolding rows_in
rows_whole n bs h = rw (le-leb (record_size bs) (length bs) h, rows_in)

pub rows_cut : (n : ℕ) (bs : List ℕ) → length bs < record_size bs → rows_in n bs ≡ []
unfolding rows_in
rows_cut zero bs h = refl
rows_cut (suc n) bs h = rw (lt-leb (record_size bs) (length bs) h, rows_in)

pub rows_none : (bs : List ℕ) → rows_in 0 bs ≡ []
unfolding rows_in
rows_none bs = refl

-- the text of a whole record
pub text_long : (bs : List ℕ) → record_size bs ≤ length bs → length (first_row bs).text ≡ get_or bs 11 0
text_long bs h = let l = length-drop 12 bs in length-take-le (get_or bs 11 0) (drop 12 bs) (omega arith)

signed_front : (xs ys : List ℕ) → 4 ≤ length xs → signed 4 (xs ++ ys) ≡ signed 4 xs
signed_front xs ys h = rw (take-append-le 4 xs ys h)

-- bytes that begin with a whole record begin with it whatever follows
module _ (bs cs : List ℕ) (h : record_size bs ≤ length bs) where
  at_front : (i : ℕ) → i < 12 → get_or (bs ++ cs) i 0 ≡ get_or bs i 0
  at_front i l = get_or_append_left bs cs 0 i (omega arith)

  size_append : record_size (bs ++ cs) ≡ record_size bs
  size_append = ap (λ (n : ℕ). 12 + n) (at_front 11 (omega arith))

  signed_append : (i : ℕ) → i < 9 → signed 4 (drop i (bs ++ cs)) ≡ signed 4 (drop i bs)
  signed_append i l =
      let n = length-drop i bs in
      ap (λ (xs : List ℕ). signed 4 xs) (drop-append-le i bs cs (omega arith))
      ∙ signed_front (drop i bs) cs (omega arith)

  text_append : (first_row (bs ++ cs)).text ≡ (first_row bs).text
  text_append =
      let n = length-drop 12 bs in
      ap₂ (λ (k : ℕ) (xs : List ℕ). take k xs) (at_front 11 (omega arith)) (drop-append-le 12 bs cs (omega arith))
      ∙ take-append-le (get_or bs 11 0) (drop 12 bs) cs (omega arith)

  first_append : first_row (bs ++ cs) ≡ first_row bs
  first_append =
      let p = at_front 0 (omega arith) in
      let q = at_front 1 (omega arith) in
      let r = at_front 10 (omega arith) in
      let s = signed_append 2 (omega arith) in
      let t = signed_append 6 (omega arith) in
      let u = text_append in
      λ i. record { depth = p i; kind = q i; a = s i; b = t i; language = r i; text = u i }

-- n records that fill their bytes, and one behind them
pub rows_append : (n : ℕ) (bs cs : List ℕ) → length (rows_in n bs) ≡ n → cost (rows_in n bs) ≡ length bs
    → rows_in (suc n) (bs ++ cs) ≡ rows_in n bs ++ rows_in 1 cs
rows_append zero bs cs e f =
    let z : bs ≡ [] = nil_from_length bs (sym f ∙ ap cost (rows_none bs)) in
    rw (rows_none bs) (ap (λ (xs : List ℕ). rows_in 1 (xs ++ cs)) z)
rows_append (suc n) bs cs e f =
    by_cases (is_whole bs)
    (λ q.
    let h = leb-true (record_size bs) (length bs) q in
    let rest : List ℕ = drop (record_size bs) bs in
    let w : rows_in (suc n) bs ≡ first_row bs ∷ rows_in n rest = rows_whole n bs h in
    let e₁ = ap length (sym w) ∙ e in
    let f₁ = ap cost (sym w) ∙ f in
    let l = length-drop (record_size bs) bs in
    let t = text_long bs h in
    let more : rows_in (suc n) (rest ++ cs) ≡ rows_in n rest ++ rows_in 1 cs = rows_append n rest cs (omega arith) (omega arith) in
    let s = size_append bs cs h in
    let d : drop (record_size (bs ++ cs)) (bs ++ cs) ≡ rest ++ cs = ap (λ (k : ℕ). drop k (bs ++ cs)) s ∙ drop-append-le (record_size bs) bs cs h in
    let a = length-append bs cs in
    rows_whole (suc n) (bs ++ cs) (omega arith)
    ∙ ap₂ (λ (x : Told) (xs : List ℕ). x ∷ rows_in (suc n) xs) (first_append bs cs h) d
    ∙ ap (λ (xs : Rows). first_row bs ∷ xs) more
    ∙ ap (λ (xs : Rows). xs ++ rows_in 1 cs) (sym w))
    (λ q.
    let h = leb-false (record_size bs) (length bs) q in
    let z = ap length (sym (rows_cut (suc n) bs h)) ∙ e in
    absurd (omega arith))

-- the parts of a record, by the signs of its numbers
module _ (d k l n : ℕ) (t : List ℕ) where
  abbrev made : ℤ → ℤ → List ℕ
  made a b = d ∷ k ∷ ((twos 4 a ++ (twos 4 b ++ (l ∷ n ∷ []))) ++ t)

  language_made : (a b : ℤ) → get_or (made a b) 10 0 ≡ l
  language_made (pos x) (pos y) = refl
  language_made (pos x) (negsuc y) = refl
  language_made (negsuc x) (pos y) = refl
  language_made (negsuc x) (negsuc y) = refl

  size_made : (a b : ℤ) → get_or (made a b) 11 0 ≡ n
  size_made (pos x) (pos y) = refl
  size_made (pos x) (negsuc y) = refl
  size_made (negsuc x) (pos y) = refl
  size_made (negsuc x) (negsuc y) = refl

  text_made : (a b : ℤ) → drop 12 (made a b) ≡ t
  text_made (pos x) (pos y) = refl
  text_made (pos x) (negsuc y) = refl
  text_made (negsuc x) (pos y) = refl
  text_made (negsuc x) (negsuc y) = refl

  first_made : (a b : ℤ) → SFits w32 a → signed 4 (drop 2 (made a b)) ≡ a
  first_made a b f = ap (signed 4) (append_assoc (twos 4 a) (twos 4 b ++ (l ∷ n ∷ [])) t) ∙ back a ((twos 4 b ++ (l ∷ n ∷ [])) ++ t) f

  second_made : (a b : ℤ) → SFits w32 b → signed 4 (drop 6 (made a b)) ≡ b
  second_made (pos x) b f = ap (signed 4) (append_assoc (twos 4 b) (l ∷ n ∷ []) t) ∙ back b ((l ∷ n ∷ []) ++ t) f
  second_made (negsuc x) b f = ap (signed 4) (append_assoc (twos 4 b) (l ∷ n ∷ []) t) ∙ back b ((l ∷ n ∷ []) ++ t) f

-- the record of a row, and the row again
module _ (r : Told) where
  pub encoded_size : record_size (encoded r) ≡ cost_of r
  encoded_size = ap (λ (n : ℕ). 12 + n) (size_made r.depth r.kind r.language (length r.text) r.text r.a r.b)

  pub encoded_long : length (encoded r) ≡ cost_of r
  encoded_long = length-append (head_of (seen r)) r.text ∙ ap (λ (n : ℕ). n + length r.text) (head_long (seen r))

  pub encoded_row : SFits w32 r.a → SFits w32 r.b → first_row (encoded r) ≡ r
  encoded_row fa fb =
      let n : ℕ = length r.text in
      let p = first_made r.depth r.kind r.language n r.text r.a r.b fa in
      let q = second_made r.depth r.kind r.language n r.text r.a r.b fb in
      let l = language_made r.depth r.kind r.language n r.text r.a r.b in
      let s = size_made r.depth r.kind r.language n r.text r.a r.b in
      let d = text_made r.depth r.kind r.language n r.text r.a r.b in
      let t : (first_row (encoded r)).text ≡ r.text = ap₂ (λ (k : ℕ) (xs : List ℕ). take k xs) s d ∙ take_all n r.text (omega arith) in
      λ i. record { depth = r.depth; kind = r.kind; a = p i; b = q i; language = l i; text = t i }

  pub encoded_one : SFits w32 r.a → SFits w32 r.b → rows_in 1 (encoded r) ≡ r ∷ []
  encoded_one fa fb =
      let s = encoded_size in
      let l = encoded_long in
      rows_whole 0 (encoded r) (omega arith) ∙ ap₂ (λ (x : Told) (xs : Rows). x ∷ xs) (encoded_row fa fb) (rows_none (drop (record_size (encoded r)) (encoded r)))

pub cost_append : (xs ys : Rows) → cost (xs ++ ys) ≡ cost xs + cost ys
cost_append [] ys = omega arith
cost_append (x ∷ xs) ys = let e = cost_append xs ys in omega arith

-- the rows of the bytes up to an offset are one more
pub record More (n used to : ℕ) (b0 b1 : List ℕ) (r : Told) : Type 0 where
  pub rows : rows_in (n + 1) (take to b1) ≡ rows_in n (take used b0) ++ (r ∷ [])
  pub counted : length (rows_in (n + 1) (take to b1)) ≡ n + 1
  pub costs : cost (rows_in (n + 1) (take to b1)) ≡ to

-- a record written behind those that are there, up to an offset
pub more : (n used to : ℕ) (b0 b1 : List ℕ) (r : Told) → used ≤ length b0 → length (rows_in n (take used b0)) ≡ n → cost (rows_in n (take used b0)) ≡ used
    → to ≡ used + cost_of r → take to b1 ≡ take used b0 ++ encoded r → SFits w32 r.a → SFits w32 r.b → More n used to b0 b1 r
more n used to b0 b1 r fits counted costs up_to after fa fb =
    let m : rows_in (n + 1) (take to b1) ≡ rows_in n (take used b0) ++ (r ∷ []) =
    ap₂ (λ (k : ℕ) (xs : List ℕ). rows_in k xs) (add-one n) after
    ∙ rows_append n (take used b0) (encoded r) counted (costs ∙ sym (length-take-le used b0 fits))
    ∙ ap (λ (xs : Rows). rows_in n (take used b0) ++ xs) (encoded_one r fa fb) in
    record {
      rows = m;
      counted = ap length m ∙ omega (arith, length-append (rows_in n (take used b0)) (r ∷ []), counted);
      costs = ap cost m ∙ omega (arith, cost_append (rows_in n (take used b0)) (r ∷ []), costs, up_to);
    }
