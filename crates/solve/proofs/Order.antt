-- The order of magnitudes, NaNs among them: none is below itself, and what is below one that is at most a third is below the third. Assumes nothing.
use mathlib.Core.Path.{◌≡◌, refl, sym, ◌∙◌}
use mathlib.Core.Logic.{⊎_elim}
use mathlib.Core.Bool.{true, false, ◌&&◌, ◌||◌, false≢true}
use Prim.Native.Nat.{ℕ, ◌*◌, ◌≤◌, ◌<◌}
use native.Mathlib.Nat.{eq-or-lt_of_le, lt_of_lt_of_le, lt_of_mul-lt-mul_right, mul-lt-mul_of_pos_right, mul-le-mul_right, mul_right_comm}
use native.Mathlib.Decide.{dec_le}
use native.Mathlib.Omega.{arith}
use lib.Dec.{ltb, eqb}
use lib.Ieee.{Float, nan, inf, fin, up, down, lt, eq, le, is_nan}
use lib.Ieee.Fits.{down_pos}
use borrow.Author.Tests.{ltb-true, ltb-false, lt-ltb, le-ltb, eq-eqb, ne_eqb}
use Rattle.std.proofs.lemmas.Bool.{or_left, or_parts, false_from_ne_true}
use Rattle.float.specs.Magnitude.{magnitude_of}

-- x / p < y / q ≤ z / r
through : (x y z p q r : ℕ) → 0 < r → x * q < y * p → y * r ≤ z * q → x * r < z * p
through x y z p q r R h l =
    lt_of_mul-lt-mul_right q
    (rw (mul_right_comm x r q, mul_right_comm z p q)
    (lt_of_lt_of_le (mul-lt-mul_of_pos_right h R) (rw (mul_right_comm y p r) (mul-le-mul_right p l))))

at_most : (a b : ℕ) → ltb a b || (eqb a b && true) ≡ true → a ≤ b
at_most a b h = pick (dec_le a b) where
  pick : Dec (a ≤ b) → a ≤ b
  pick (yes l) = l
  pick (no n) =
      absurd (false≢true (rw (le-ltb a b (omega arith), ne_eqb a b (λ e. omega arith)) at h))

pub lt-le-trans : (x y z : Float) → lt (magnitude_of x) (magnitude_of y) ≡ true → le (magnitude_of y) (magnitude_of z) ≡ true → lt (magnitude_of x) (magnitude_of z) ≡ true
unfolding lt eq le magnitude_of
lt-le-trans nan y z h l = h
lt-le-trans (inf s) nan z h l = cc
lt-le-trans (inf s) (inf t) z h l = cc
lt-le-trans (inf s) (fin t n d) z h l = cc
lt-le-trans (fin s m e) nan z h l = cc
lt-le-trans (fin s m e) (inf t) nan h l = l
lt-le-trans (fin s m e) (inf t) (inf u) h l = refl
lt-le-trans (fin s m e) (inf t) (fin u o c) h l = cc
lt-le-trans (fin s m e) (fin t n d) nan h l = l
lt-le-trans (fin s m e) (fin t n d) (inf u) h l = refl
lt-le-trans (fin s m e) (fin t n d) (fin u o c) h l =
    lt-ltb _ _ (through (m * up e) (n * up d) (o * up c) (down e) (down d) (down c) (down_pos c) (ltb-true _ _ h) (at_most _ _ l))

-- ---- as a search for the first of largest magnitude uses it

pub lt_trans : (x y z : Float) → lt (magnitude_of x) (magnitude_of y) ≡ true → lt (magnitude_of y) (magnitude_of z) ≡ true → lt (magnitude_of x) (magnitude_of z) ≡ true
unfolding le
lt_trans x y z h l = lt-le-trans x y z h (or_left _ _ l)

-- what is as large as nothing is below nothing
pub not-below : (x y : Float) → le x y ≡ false → lt x y ≡ false
unfolding le
not-below x y h = (or_parts _ _ h).0

-- a magnitude above one that z is not above: z is not as large
pub not-as-large : (x y z : Float) → lt (magnitude_of x) (magnitude_of y) ≡ true → lt (magnitude_of x) (magnitude_of z) ≡ false → le (magnitude_of y) (magnitude_of z) ≡ false
not-as-large x y z h l = false_from_ne_true _ (λ e. false≢true (sym l ∙ lt-le-trans x y z h e))

pub lt_irrefl : (x : Float) → lt (magnitude_of x) (magnitude_of x) ≡ false
unfolding lt magnitude_of
lt_irrefl nan = refl
lt_irrefl (inf s) = refl
lt_irrefl (fin s m e) = le-ltb (m * up e * down e) (m * up e * down e) (omega arith)

-- ---- of two numbers, one is as large as the other

pub above-number : (x y : Float) → lt x y ≡ true → is_nan y ≡ false
unfolding lt is_nan
above-number nan y h = absurd (false≢true h)
above-number (inf s) nan h = absurd (false≢true h)
above-number (inf s) (inf t) h = refl
above-number (inf s) (fin t n d) h = refl
above-number (fin s m e) nan h = absurd (false≢true h)
above-number (fin s m e) (inf t) h = refl
above-number (fin s m e) (fin t n d) h = refl

pub below-number : (x y : Float) → lt x y ≡ true → is_nan x ≡ false
unfolding lt is_nan
below-number nan y h = absurd (false≢true h)
below-number (inf s) y h = refl
below-number (fin s m e) y h = refl

level : (a b : ℕ) → ltb a b ≡ false → ltb b a || (eqb b a && true) ≡ true
level a b h = ⊎_elim (λ e. rw (le-ltb b a (omega arith), eq-eqb b a e)) (λ l. rw (lt-ltb b a l)) (eq-or-lt_of_le (ltb-false a b h))

pub as-large : (x y : Float) → is_nan (magnitude_of x) ≡ false → is_nan (magnitude_of y) ≡ false → lt (magnitude_of x) (magnitude_of y) ≡ false → le (magnitude_of y) (magnitude_of x) ≡ true
unfolding lt eq le is_nan magnitude_of
as-large nan y n m h = absurd (false≢true (sym n))
as-large (inf s) nan n m h = absurd (false≢true (sym m))
as-large (inf s) (inf t) n m h = refl
as-large (inf s) (fin t b d) n m h = refl
as-large (fin s a e) nan n m h = absurd (false≢true (sym m))
as-large (fin s a e) (inf t) n m h = absurd (false≢true (sym h))
as-large (fin s a e) (fin t b d) n m h = level (a * up e * down d) (b * up d * down e) h
