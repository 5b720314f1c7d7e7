-- By the Rust's rounded steps sigma16 is the whole number nearest to 16 × root(s / n), halves up, for counts up to a plane's samples, 2 ^ 24, and squares to 65536 each (`sigma16-nearest`). So it is also the one by a whole root (`sigma16-whole`).
-- y is the rounded quotient, z its rounded root. 16 × z is exact, and k is the whole number nearest to it.
-- * Where s / n is j² / 1024 or more, for an odd j, y is too, and z is j / 32 or more.
-- * Where s / n is less, it is less by 2 ^ -34 at least: y is D / 2 ^ 34 at most, D = j² × 2 ^ 24 − 1, and z is G / 2 ^ 43 at most, G = j × 2 ^ 38 − 1, so below j / 32.
-- Assumes nothing.
use Rattle.std.proofs.Common.{◌≡◌, ℕ, zero, suc, ◌+◌, ◌-◌, ◌*◌, ◌/◌, ◌^◌, ◌<◌, ◌≤◌, min, true, false, T, List, [], ◌∷◌, length, ℤ, pos, negsuc, neg_ℤ, nat_abs, ◌≤ℤ◌, sym, ap, ◌∙◌, inl, inr, zero-le, le_trans, le_of_eq, lt_of_lt_of_le, le_of_suc-le-suc, mul-le-mul_right, suc-mul, eq-zero-or-pos, mul-le-mul, mul-pos, lt_of_not-le, zero-mul, mul_right_comm, not-le_of_lt, le_of_mul-le-mul_right, arith, lit<, lit≤, leb→le, pow_pos, ne_eqb}
use native.Mathlib.Nat.{mul-mul-mul_comm}
use lib.Ieee.{Float, nan, inf, fin, binary64, up, down, round, mul, fits, le, to_unsigned}
use lib.Ieee.Fits.{down_pos, mul-fits}
use lib.Ieee.Order.{round_mono}
use lib.Ieee.Scale.{round_same}
use lib.Ieee.Positive.{num, den, den_pos, positive}
use Rattle.laws.specs.Limits.{plane_limit}
use Rattle.float.specs.Round.{half_up, round_half_away, NearestWhole}
use Rattle.float.specs.Root.{root}
use Rattle.float.specs.Steps.{deviation16, sigma16_of}
use Rattle.float.specs.Sigma.{Nearest16, whole_sigma16, sum_of_squares, EachSmall}
use Rattle.float.proofs.Units.{fit}
use Rattle.float.proofs.Times.{times-exact}
use Rattle.float.proofs.Cut.{unsigned-cut}
use Rattle.float.proofs.NearestWhole.{round-nearest, half-nearest}
use Rattle.float.proofs.WholeRoot.{square-suc}
use Rattle.float.proofs.WholeSigma.{nearest16-unique, whole-sigma16-nearest}
use Rattle.float.proofs.Fractions.{rounded, Fraction, AtLeast, AtMost, least, most, positive-between, quotient, root-least, root-most}
use Rattle.float.proofs.root.Bits.{root-fits}
use Rattle.float.proofs.root.Normal.{root-of-number}

-- ---- the last steps: 16 × z, rounded, as a whole number
at_most : (v d k : ℕ) → 0 < d → v ≤ 256 * d → NearestWhole (v * 16) d k → k ≤ 256 * 16
at_most v d k D l p =
    elim (eq-zero-or-pos k) [
      | inl e ↦ omega arith
      | inr h ↦ let a : 2 * k - 1 ≤ 8192 = le_of_mul-le-mul_right (le_trans (p.below h) (twice v d l)) D in omega arith
    ]
  where
    twice : (v d : ℕ) → v ≤ 256 * d → 2 * (v * 16) ≤ 8192 * d
    twice v d l = omega arith

last-steps : (z : Float) → T (fits binary64 z) → T (positive z) → num z ≤ 256 * den z
    → to_unsigned 64 (round_half_away (mul binary64 z (fin false 1 (pos 4)))) ≡ half_up (num z * 16) (den z)
last-steps nan t p l = absurd p
last-steps (inf s) t p l = absurd p
last-steps (fin true m e) t p l = absurd p
last-steps (fin false m e) t p l =
    let d = down e in
    let v = m * up e in
    let w = mul binary64 (fin false m e) (fin false 1 (pos 4)) in
    let k = half_up (v * 16) d in
    let small : v * 16 < 4097 * d = omega (arith, down_pos e) in
    let value = times-exact 4 false m e (fit false m e t) (lt_of_lt_of_le small (mul-le-mul_right d (lit≤ tt))) in
    let near = round-nearest w false (v * 16) d (mul-fits binary64 (fin false m e) (fin false 1 (pos 4))) (down_pos e) value in
    unsigned-cut 64 (round_half_away w) k 1 (lit< tt) near.0 ∙ held k (at_most v d k (down_pos e) l near.1)
  where
    held : (k : ℕ) → k ≤ 256 * 16 → min (k / 1) (2 ^ 64 - 1) ≡ k
    held k l = omega arith

-- ---- plain numbers
-- s / n below j² / 1024, for J = j²
gap-y : (s n J D : ℕ) → n ≤ plane_limit → suc D ≡ J * 2 ^ 24 → 1024 * s < J * n → s * 2 ^ 34 ≤ D * n
gap-y s n J D N d h =
    let a : D * n + n ≡ J * n * 2 ^ 24 = sym (suc-mul D n) ∙ ap (λ (x : ℕ). x * n) d ∙ mul_right_comm J (2 ^ 24) n in
    omega arith

-- D / 2 ^ 34 is no more than the square of G / 2 ^ 43
gap-root : (j D G : ℕ) → j < 2 ^ 13 → suc D ≡ j * j * 2 ^ 24 → suc G ≡ j * 2 ^ 38 → D * 2 ^ 52 ≤ G * G
gap-root j D G J d g =
    let a : j * 2 ^ 38 * (j * 2 ^ 38) ≡ G * G + 2 * G + 1 = ap (λ (x : ℕ). x * x) (sym g) ∙ square-suc G in
    let b : j * 2 ^ 38 * (j * 2 ^ 38) ≡ j * j * 2 ^ 76 = mul-mul-mul_comm j (2 ^ 38) j (2 ^ 38) in
    omega arith

gap-z : (v d D G : ℕ) → D * 2 ^ 52 ≤ G * G → v * 2 ^ 34 ≤ D * d → v * (2 ^ 43 * 2 ^ 43) ≤ G * G * d
gap-z v d D G h k =
    let a : D * d * 2 ^ 52 ≤ G * G * d = le_trans (le_of_eq (mul_right_comm D d (2 ^ 52))) (mul-le-mul_right d h) in
    omega arith

-- G / 2 ^ 43 is below j / 32
gap-last : (v d j G : ℕ) → 0 < d → suc G ≡ j * 2 ^ 38 → v * 2 ^ 43 ≤ G * d → 2 * (v * 16) < j * d
gap-last v d j G D g h =
    let a : G * d + d ≡ j * d * 2 ^ 38 = sym (suc-mul G d) ∙ ap (λ (x : ℕ). x * d) g ∙ mul_right_comm j (2 ^ 38) d in
    omega arith

-- ---- the steps
module _ (s n : ℕ) (S : 0 < s) (N : 0 < n) (n-small : n ≤ plane_limit) (s-small : s ≤ 65536 * n) where
  fraction : (a l : ℕ) → 0 < a → a < 2 ^ 53 → l ≤ 1074 → Fraction a l
  fraction a l p f d = record { some = p; few = f; deep = d }

  y : Float
  y = rounded s n

  y-over : (a l : ℕ) → a * n ≤ s * 2 ^ l → T (le (rounded a (2 ^ l)) y)
  unfolding y
  y-over a l h = round_mono binary64 a (2 ^ l) s n (pow_pos l) N h

  y-under : (a l : ℕ) → s * 2 ^ l ≤ a * n → T (le y (rounded a (2 ^ l)))
  unfolding y
  y-under a l h = round_mono binary64 s n a (2 ^ l) N (pow_pos l) h

  y-pos : T (positive y)
  y-pos = positive-between y 1 24 65536 0 (fraction 1 24 (lit< tt) (lit< tt) (lit≤ tt)) (fraction 65536 0 (lit< tt) (lit< tt) (lit≤ tt)) (y-over 1 24 (omega arith)) (y-under 65536 0 (omega arith))

  y-least : (a l : ℕ) → Fraction a l → a * n ≤ s * 2 ^ l → AtLeast a l y
  y-least a l f h = least a l f y y-pos (y-over a l h)

  y-most : (a l : ℕ) → Fraction a l → s * 2 ^ l ≤ a * n → AtMost a l y
  y-most a l f h = most a l f y y-pos (y-under a l h)

  z : Float
  z = root y

  z-over : (a l : ℕ) → l ≤ 1074 → a * a * den y ≤ num y * (2 ^ l * 2 ^ l) → T (le (rounded a (2 ^ l)) z)
  unfolding z
  z-over a l L h = root-least y y-pos a l L h

  z-under : (a l : ℕ) → l ≤ 1074 → num y * (2 ^ l * 2 ^ l) ≤ a * a * den y → T (le z (rounded a (2 ^ l)))
  unfolding z
  z-under a l L h = root-most y y-pos a l L h

  z-256 : T (le z (rounded 256 (2 ^ 0)))
  z-256 = z-under 256 0 (lit≤ tt) (omega (arith, y-most 65536 0 (fraction 65536 0 (lit< tt) (lit< tt) (lit≤ tt)) (omega arith)))

  z-pos : T (positive z)
  z-pos = positive-between z 1 12 256 0 (fraction 1 12 (lit< tt) (lit< tt) (lit≤ tt)) (fraction 256 0 (lit< tt) (lit< tt) (lit≤ tt))
      (z-over 1 12 (lit≤ tt) (omega (arith, y-least 1 24 (fraction 1 24 (lit< tt) (lit< tt) (lit≤ tt)) (omega arith)))) z-256

  z-small : num z ≤ 256 * den z
  z-small = omega (arith, most 256 0 (fraction 256 0 (lit< tt) (lit< tt) (lit≤ tt)) z z-pos z-256)

  k : ℕ
  k = half_up (num z * 16) (den z)

  k-near : NearestWhole (num z * 16) (den z) k
  unfolding k
  k-near = half-nearest (num z * 16) (den z) (den_pos z)

  k-small : k ≤ 256 * 16
  k-small = at_most (num z) (den z) k (den_pos z) z-small k-near

  above : 1024 * s < (2 * k + 1) * (2 * k + 1) * n
  above = lt_of_not-le (λ (h : (2 * k + 1) * (2 * k + 1) * n ≤ 1024 * s). not-le_of_lt k-near.above (reach (2 * k + 1) (omega (arith, k-small)) (omega arith) h))
    where
      reach : (j : ℕ) → j ≤ 8193 → 0 < j → j * j * n ≤ 1024 * s → j * den z ≤ 2 * (num z * 16)
      reach j small p h =
          let J : j * j ≤ 8193 * 8193 = mul-le-mul small small in
          let a : j * j * den y ≤ num y * 2 ^ 10 = y-least (j * j) 10 (fraction (j * j) 10 (mul-pos p p) (omega arith) (lit≤ tt)) (omega arith) in
          let b : j * den z ≤ num z * 2 ^ 5 = least j 5 (fraction j 5 p (omega arith) (lit≤ tt)) z z-pos (z-over j 5 (lit≤ tt) a) in
          omega arith

  below : 0 < k → (2 * k - 1) * (2 * k - 1) * n ≤ 1024 * s
  below K = le_of_suc-le-suc (lt_of_not-le (λ (h : 1024 * s < (2 * k - 1) * (2 * k - 1) * n). not-le_of_lt (miss (2 * k - 1) (omega (arith, k-small)) (omega arith) h) (k-near.below K)))
    where
      miss : (j : ℕ) → j ≤ 8191 → 0 < j → 1024 * s < j * j * n → 2 * (num z * 16) < j * den z
      miss j small p h =
          let J : j * j ≤ 8191 * 8191 = mul-le-mul small small in
          let P : 0 < j * j = mul-pos p p in
          let D = j * j * 2 ^ 24 - 1 in
          let G = j * 2 ^ 38 - 1 in
          let d : suc D ≡ j * j * 2 ^ 24 = omega arith in
          let g : suc G ≡ j * 2 ^ 38 = omega arith in
          let a : num y * 2 ^ 34 ≤ D * den y = y-most D 34 (fraction D 34 (omega arith) (omega arith) (lit≤ tt)) (gap-y s n (j * j) D n-small d h) in
          let b : num z * 2 ^ 43 ≤ G * den z = most G 43 (fraction G 43 (omega arith) (omega arith) (lit≤ tt)) z z-pos (z-under G 43 (lit≤ tt) (gap-z (num y) (den y) D G (gap-root j D G (omega arith) d g) a)) in
          gap-last (num z) (den z) j G (den_pos z) g b

  z-fits : T (fits binary64 z)
  unfolding z
  z-fits = rw (root-of-number y y-pos) (root-fits _)

  steps : sigma16_of s n ≡ k
  unfolding sigma16_of deviation16 round k z y
  steps =
      rw (ne_eqb n 0 (λ e. omega arith))
      (ap (λ (x : Float). to_unsigned 64 (round_half_away (mul binary64 (root x) (fin false 1 (pos 4))))) (quotient s n N (omega arith) (omega arith)) ∙ last-steps z z-fits z-pos z-small)

  pub sigma16-positive : Nearest16 s n (sigma16_of s n)
  sigma16-positive = rw steps (record { above = above; below = below })

-- ---- no square at all
steps-zero : (n : ℕ) → 0 < n → n ≤ plane_limit → sigma16_of 0 n ≡ 0
unfolding sigma16_of deviation16 round_half_away half_up to_unsigned mul root round
steps-zero n N h =
    rw (ne_eqb n 0 (λ e. omega arith))
    (ap (λ (x : Float). to_unsigned 64 (round_half_away (mul binary64 (root x) (fin false 1 (pos 4))))) (quotient 0 n N zero-le (omega arith) ∙ round_same binary64 false 0 n 0 1 N (lit< tt) (sym (zero-mul n))))

pub sigma16-nearest : (s n : ℕ) → 0 < n → n ≤ plane_limit → s ≤ 65536 * n → Nearest16 s n (sigma16_of s n)
sigma16-nearest zero n N h l = rw (steps-zero n N h) (record { above = omega arith; below = λ k. omega arith })
sigma16-nearest (suc s) n N h l = sigma16-positive (suc s) n (omega arith) N h l

-- ---- by a whole root
pub sigma16-whole : (s n : ℕ) → 0 < n → n ≤ plane_limit → s ≤ 65536 * n → sigma16_of s n ≡ whole_sigma16 s n
sigma16-whole s n N h l = nearest16-unique s n (sigma16_of s n) (whole_sigma16 s n) (sigma16-nearest s n N h l) (whole-sigma16-nearest s n N)

-- ---- each d from −256 to 255
small-square : (d : ℤ) → neg_ℤ (pos 256) ≤ℤ d → d ≤ℤ pos 255 → nat_abs d * nat_abs d ≤ 65536
small-square (pos n) lo hi = let l : n ≤ 256 = omega (arith, leb→le n 255 hi.le) in mul-le-mul l l
small-square (negsuc n) lo hi = let l : suc n ≤ 256 = omega (arith, leb→le n 255 lo.le) in mul-le-mul l l

small-sum : (ds : List ℤ) → EachSmall ds → sum_of_squares ds ≤ 65536 * length ds
unfolding sum_of_squares
small-sum [] t = zero-le
small-sum (d ∷ ds) t = omega (arith, small-square d t.0 t.1, small-sum ds t.2)

pub sigma16-of-noise : (ds : List ℤ) → 0 < length ds → length ds ≤ plane_limit → EachSmall ds → Nearest16 (sum_of_squares ds) (length ds) (sigma16_of (sum_of_squares ds) (length ds))
sigma16-of-noise ds N h t = sigma16-nearest (sum_of_squares ds) (length ds) N h (small-sum ds t)
