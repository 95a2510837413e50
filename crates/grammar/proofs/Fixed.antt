-- The fixed fields: what is written reads back, and what is read is written back.
-- Assumes nothing.
use Rattle.std.proofs.Common.{◌≡◌, ℕ, suc, ◌-◌, ◌<◌, ◌≤◌, true, false, List, [], ◌∷◌, ◌++◌, length, get_or, take, drop, ℤ, pos, negsuc, sym, refl, ap, ◌∙◌, ap₂, append_assoc, arith, length-append, length-drop, take-add, drop_at, ltb-false, le-ltb}
use Rattle.std.proofs.lemmas.Bool.{or_parts, true≢false, false≢true}
use Rattle.grammar.specs.declared.table.Fields.{Fields}
use Rattle.grammar.specs.declared.table.Fields.TheVariants.{Nothing, Code, Text, Globe, Floor, Count, Radius, Height}
use Rattle.grammar.specs.Format.{big, twos, fixed, Fit, Between}
use Rattle.grammar.specs.Grammar.{Bytes}
use Rattle.grammar.specs.Reading.{signed, least, first_number, second_number, off_globe, is_text, is_count, beyond}
use Rattle.grammar.proofs.Tails.{big_one}
use Rattle.grammar.proofs.Numbers.{length_twos, number_big, number_lt, big_number, signed_twos, twos_signed, signed_between, bytes_drop}

module _ (f : Fields) (bs : List ℕ) (n : ℕ) where
  pub record Writes : Type 0 where
    pub fit : Fit f (first_number f bs) (second_number f bs) n
    pub same : fixed f (first_number f bs) (second_number f bs) n ≡ take (least f bs) bs

inside_globe : (m : ℕ) (z : ℤ) → beyond m z ≡ false → Between m m z
inside_globe m (pos x) h = ltb-false m x h
inside_globe m (negsuc x) h = ltb-false m (suc x) h

pub fields_written : (f : Fields) (bs : List ℕ) (n : ℕ) → Bytes bs → is_text f ≡ false → least f bs ≤ length bs → off_globe f bs ≡ false
    → (is_count f ≡ true → n ≡ get_or bs 0 0) → Writes f bs n
fields_written Nothing bs n b t l g c = record { fit = (refl, refl); same = refl }
fields_written Code bs n b t l g c = record { fit = (number_lt 1 bs b l, refl); same = big_number 1 bs b l }
fields_written Text bs n b t l g c = absurd (true≢false t)
fields_written Globe bs n b t l g c =
    let d = length-drop 4 bs in
    record {
      fit = (inside_globe 18000000 (signed 4 bs) (or_parts _ _ g).0, inside_globe 9000000 (signed 4 (drop 4 bs)) (or_parts _ _ g).1);
      same = ap₂ (λ (x y : List ℕ). x ++ y) (twos_signed 4 2147483648 refl bs b (omega arith)) (twos_signed 4 2147483648 refl (drop 4 bs) (bytes_drop 4 bs b) (omega arith))
          ∙ sym (take-add 4 4 bs);
    }
fields_written Floor bs n b t l g c = record { fit = (signed_between 1 128 refl bs b l, refl); same = twos_signed 1 128 refl bs b l }
fields_written Count [] n b t l g c = absurd (omega arith)
fields_written Count (x ∷ xs) n b t l g c =
    let e : n ≡ x = c refl in
    let s : n < 256 = rw e b.0 in
    record { fit = (refl, refl, s); same = big_one n s ∙ ap (λ (y : ℕ). y ∷ []) e }
fields_written Radius bs n b t l g c = record { fit = (number_lt 2 bs b l, refl); same = big_number 2 bs b l }
fields_written Height bs n b t l g c =
    let d = length-drop 1 bs in
    record {
      fit = (number_lt 1 bs b (omega arith), signed_between 2 32768 refl (drop 1 bs) (bytes_drop 1 bs b) (omega arith));
      same = ap₂ (λ (x y : List ℕ). x ++ y) (big_number 1 bs b (omega arith)) (twos_signed 2 32768 refl (drop 1 bs) (bytes_drop 1 bs b) (omega arith))
          ∙ sym (take-add 1 2 bs);
    }

module _ (f : Fields) (a b : ℤ) (n : ℕ) (bs : List ℕ) where
  pub record Reads : Type 0 where
    pub no_text : is_text f ≡ false
    pub size : least f bs ≡ length (fixed f a b n)
    pub first : first_number f bs ≡ a
    pub second : second_number f bs ≡ b
    pub on_globe : off_globe f bs ≡ false
    pub counts : is_count f ≡ true → get_or bs 0 0 ≡ n

pub no_count : {X : Type 0} → false ≡ true → X
no_count h = absurd (false≢true h)

narrow : (m h : ℕ) (z : ℤ) → m < h → Between m m z → Between h (h - 1) z
narrow m h (pos x) l k = omega arith
narrow m h (negsuc x) l k = omega arith

not_beyond : (m : ℕ) (z : ℤ) → Between m m z → beyond m z ≡ false
not_beyond m (pos x) h = le-ltb m x h
not_beyond m (negsuc x) h = le-ltb m (suc x) h

pub fields_read : (f : Fields) (a b : ℤ) (n : ℕ) (rest : List ℕ) → Fit f a b n → Reads f a b n (fixed f a b n ++ rest)
fields_read Nothing a b n rest h =
    record { no_text = refl; size = refl; first = sym h.0; second = sym h.1; on_globe = refl; counts = no_count }
fields_read Code (pos x) b n rest h =
    record { no_text = refl; size = refl; first = ap pos (number_big 1 x rest h.0); second = sym h.1; on_globe = refl; counts = no_count }
fields_read Code (negsuc x) b n rest h = absurd h.0
fields_read Text a b n rest h = absurd h
fields_read Globe a b n rest h =
    let m = length-append (twos 4 a) (twos 4 b) in
    let k = length_twos 4 2147483648 refl a in
    let l = length_twos 4 2147483648 refl b in
    let fst : signed 4 (twos 4 a ++ twos 4 b ++ rest) ≡ a =
    rw append_assoc (signed_twos 4 2147483648 refl a (twos 4 b ++ rest) (narrow 18000000 2147483648 a (omega arith) h.0) (omega arith)) in
    let snd : signed 4 (drop 4 (twos 4 a ++ twos 4 b ++ rest)) ≡ b =
    rw (append_assoc, drop_at (twos 4 a) (twos 4 b ++ rest) 4 k) (signed_twos 4 2147483648 refl b rest (narrow 9000000 2147483648 b (omega arith) h.1) (omega arith)) in
    record {
      no_text = refl;
      size = omega arith;
      first = fst;
      second = snd;
      on_globe = rw (fst, snd, not_beyond 18000000 a h.0, not_beyond 9000000 b h.1);
      counts = no_count;
    }
fields_read Floor a b n rest h =
    record { no_text = refl; size = sym (length_twos 1 128 refl a); first = signed_twos 1 128 refl a rest h.0 (omega arith); second = sym h.1; on_globe = refl; counts = no_count }
fields_read Count a b n rest h =
    record { no_text = refl; size = refl; first = sym h.0; second = sym h.1; on_globe = refl; counts = λ _. ap (λ (r : List ℕ). get_or r 0 0) (big_one n h.2) }
fields_read Radius (pos x) b n rest h =
    record { no_text = refl; size = refl; first = ap pos (number_big 2 x rest h.0); second = sym h.1; on_globe = refl; counts = no_count }
fields_read Radius (negsuc x) b n rest h = absurd h.0
fields_read Height (pos x) b n rest h =
    let m = length-append (big 1 x) (twos 2 b) in
    let l = length_twos 2 32768 refl b in
    record {
      no_text = refl;
      size = omega arith;
      first = ap pos (number_big 1 x (twos 2 b ++ rest) h.0);
      second = signed_twos 2 32768 refl b rest h.1 (omega arith);
      on_globe = refl;
      counts = no_count;
    }
fields_read Height (negsuc x) b n rest h = absurd h.0
