-- The test that numbers fit the fields says that they do.
-- Assumes nothing.
use Rattle.std.specs.Prelude.{◌≡◌, ℕ, suc, ◌<◌, true, ℤ, pos, negsuc}
use Rattle.std.proofs.Common.{ap}
use borrow.Author.Tests.{ltb-true, lt-ltb, leb-true, le-leb, eqb-true, clash}
use Rattle.std.proofs.lemmas.Bool.{and_parts, and_from}
use Rattle.grammar.specs.declared.table.Fields.{Fields}
use Rattle.grammar.specs.declared.table.Fields.TheVariants.{Nothing, Code, Text, Globe, Floor, Count, Radius, Height}
use Rattle.grammar.specs.Format.{Fit, fits, Between, ranges, UpTo, below, is_zero}

-- each test of a number, as what it says
zero_is : (z : ℤ) → is_zero z ≡ true → z ≡ pos 0
zero_is (pos x) h = ap pos (eqb-true x 0 h)
zero_is (negsuc x) h = absurd (clash h)

is_zero_from : (z : ℤ) → z ≡ pos 0 → is_zero z ≡ true
is_zero_from z h = rw h

below_is : (m : ℕ) (z : ℤ) → below m z ≡ true → UpTo m z
below_is m (pos x) h = ltb-true x m h
below_is m (negsuc x) h = absurd (clash h)

below_from : (m : ℕ) (z : ℤ) → UpTo m z → below m z ≡ true
below_from m (pos x) h = lt-ltb x m h
below_from m (negsuc x) h = absurd h

ranges_is : (m n : ℕ) (z : ℤ) → ranges m n z ≡ true → Between m n z
ranges_is m n (pos x) h = leb-true x n h
ranges_is m n (negsuc x) h = leb-true (suc x) m h

ranges_from : (m n : ℕ) (z : ℤ) → Between m n z → ranges m n z ≡ true
ranges_from m n (pos x) h = le-leb x n h
ranges_from m n (negsuc x) h = le-leb (suc x) m h

-- the test passed, and a byte can count the parts
pub fit_is : (f : Fields) (a b : ℤ) (n : ℕ) → fits f a b ≡ true → n < 256 → Fit f a b n
fit_is Nothing a b n h k = let p = and_parts (is_zero a) (is_zero b) h in (zero_is a p.0, zero_is b p.1)
fit_is Code a b n h k = let p = and_parts (below 256 a) (is_zero b) h in (below_is 256 a p.0, zero_is b p.1)
fit_is Text a b n h k = absurd (clash h)
fit_is Globe a b n h k =
    let p = and_parts (ranges 18000000 18000000 a) (ranges 9000000 9000000 b) h in
    (ranges_is 18000000 18000000 a p.0, ranges_is 9000000 9000000 b p.1)
fit_is Floor a b n h k = let p = and_parts (ranges 128 127 a) (is_zero b) h in (ranges_is 128 127 a p.0, zero_is b p.1)
fit_is Count a b n h k = let p = and_parts (is_zero a) (is_zero b) h in (zero_is a p.0, zero_is b p.1, k)
fit_is Radius a b n h k = let p = and_parts (below 65536 a) (is_zero b) h in (below_is 65536 a p.0, zero_is b p.1)
fit_is Height a b n h k =
    let p = and_parts (below 256 a) (ranges 32768 32767 b) h in (below_is 256 a p.0, ranges_is 32768 32767 b p.1)

-- the other way round
pub fits_from : (f : Fields) (a b : ℤ) (n : ℕ) → Fit f a b n → fits f a b ≡ true
fits_from Nothing a b n h = and_from _ _ (is_zero_from a h.0) (is_zero_from b h.1)
fits_from Code a b n h = and_from _ _ (below_from 256 a h.0) (is_zero_from b h.1)
fits_from Text a b n h = absurd h
fits_from Globe a b n h = and_from _ _ (ranges_from 18000000 18000000 a h.0) (ranges_from 9000000 9000000 b h.1)
fits_from Floor a b n h = and_from _ _ (ranges_from 128 127 a h.0) (is_zero_from b h.1)
fits_from Count a b n h = and_from _ _ (is_zero_from a h.0) (is_zero_from b h.1)
fits_from Radius a b n h = and_from _ _ (below_from 65536 a h.0) (is_zero_from b h.1)
fits_from Height a b n h = and_from _ _ (below_from 256 a h.0) (ranges_from 32768 32767 b h.1)
