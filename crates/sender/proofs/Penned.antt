-- Bytes that a pen writes one behind the other.
-- Assumes nothing.
use Rattle.std.proofs.Common.{◌≡◌, ℕ, zero, suc, ◌+◌, ◌≤◌, List, [], ◌∷◌, ◌++◌, length, take, drop, ◌-◌, ◌/◌, ◌%◌, ◌^◌, sym, refl, ap, ◌∙◌, subst, div-one, take_all, arith, length-append}
use Rattle.std.specs.Int.{bytes_high_first}
use Rattle.grammar.specs.Format.{big}
use Rattle.grammar.proofs.Numbers.{length_big}
use Rattle.sender.specs.declared.pen.Pen.{Pen}
use Rattle.sender.specs.Penned.{Room, Wrote}
use Rattle.sender.specs.Splice.{splice}
use Rattle.sender.proofs.Spliced.{splice_none, splice_splice}

-- nothing was written
pub none_wrote : (p : Pen) → Room p 0 → Wrote p [] p
none_wrote p h =
    record {
      room = h;
      bytes = sym (splice_none p.out.now p.at);
      next = omega arith;
      long = refl;
      same_output = refl;
    }

-- one write behind another is one write
pub behind : (p q r : Pen) (us bs : List ℕ) → Wrote p us q → Wrote q bs r → Wrote p (us ++ bs) r
behind p q r us bs u b =
    let l = length-append us bs in
    let n = u.next in
    let k = u.long in
    let h : p.at + length us + length bs ≤ length p.out.now = omega (arith, b.room) in
    record {
      room = omega (arith, h);
      bytes = b.bytes ∙ (λ i. splice (u.bytes i) (u.next i) bs) ∙ splice_splice p.out.now p.at us bs h;
      next = omega (arith, b.next);
      long = b.long ∙ u.long;
      same_output = b.same_output ∙ u.same_output;
    }

-- the same bytes, said otherwise
pub wrote_as : (p q : Pen) (us bs : List ℕ) → us ≡ bs → Wrote p us q → Wrote p bs q
wrote_as p q us bs e w = subst (λ (xs : List ℕ). Wrote p xs q) e w

bytes_are : (n x : ℕ) → bytes_high_first n x ≡ big n x
bytes_are zero x = refl
bytes_are (suc zero) x = ap (λ (y : ℕ). y % 256 ∷ []) (sym (div-one x))
bytes_are (suc (suc n)) x = λ i. (x / 256 ^ suc n) % 256 ∷ bytes_are (suc n) x i

-- the last bytes of a number
last_bytes : (k w m x : ℕ) → m ≡ k + w → drop k (bytes_high_first m x) ≡ big w x
last_bytes zero w m x e = let f : m ≡ w = omega arith in rw f (bytes_are w x)
last_bytes (suc k) w m x e = let f : m ≡ suc (k + w) = omega arith in rw f (last_bytes k w (k + w) x refl)

-- those of the eight bytes that a number has
pub number_bytes : (w x : ℕ) (bs : List ℕ) → w ≤ 8 → bs ≡ bytes_high_first 8 x → take (8 - (8 - w)) (drop (8 - w) bs) ≡ big w x
number_bytes w x bs h e =
    rw e
    (let l = last_bytes (8 - w) w 8 x (omega arith) in
    let n = ap length l in
    take_all (8 - (8 - w)) (drop (8 - w) (bytes_high_first 8 x)) (let b = length_big w x in omega arith) ∙ l)
