-- `root` is correctly rounded: every f64 other than the result is farther from the exact root (`root-nearest`). So no tie arises.
-- * The root of N lies between A and B, q and q + 1 last digits, and never at their middle M. The result is the one on whose side of M it lies (`Rooted`).
-- * An f64 is m × 2 ^ z units with m below 2 ^ 53, so none lies between A and B (`below_next`, `above-this`).
-- * Past the result the middle with any other f64 is M or farther out (`nearest-down`, `nearest-up`).
-- Assumes nothing.
use Rattle.std.proofs.Common.{◌≡◌, ℕ, suc, ◌+◌, ◌-◌, ◌*◌, ◌^◌, ◌<◌, ◌≤◌, false, T, ◌⊎◌, sym, refl, ap, ◌∙◌, subst, inl, inr, le_trans, le_of_eq, lt_of_lt_of_le, le_of_suc-le-suc, lt_of_le_of_lt, le_of_lt, mul-le-mul_right, mul_assoc, suc-mul, add-mul, mul-le-mul, add_comm, le_antisymm, lt_of_mul-lt-mul_right, one-mul, lt_of_not-le, sub-add_cancel, not-le_of_lt, mul_left_comm, arith, pow_mono, pow-add, shl_lt}
use native.Mathlib.Nat.{mul-mul-mul_comm, eq_of_mul-eq-mul_right}
use native.Mathlib.Decide.{dec_le}
use lib.Ieee.{Float, nan, inf, fin, binary64, down, fits}
use lib.Ieee.Fits.{down_pos}
use lib.Ieee.Exact.{HasValue}
use lib.Ieee.Positive.{positive}
use Rattle.float.specs.Root.{whole_root, root_of, root, NearestRoot}
use Rattle.float.proofs.WholeRoot.{square-suc}
use Rattle.float.proofs.Units.{fit, zeros, units_of}
use Rattle.float.proofs.root.Pattern.{pattern}
use Rattle.float.proofs.root.Normal.{normal, fours, root-of-value, value-once}
use Rattle.float.proofs.root.Split.{Split, split, from-q, to-next, under-middle, over-middle}
use Rattle.float.proofs.root.Rounded.{stays, rises}
use Rattle.float.proofs.root.Bits.{root-fits, root-value}

-- ---- the numbers that an f64 holds, in units
record Held (y : ℕ) : Type 0 where
  digits : ℕ
  zeros : ℕ
  few : digits < 2 ^ 53
  is : y ≡ digits * 2 ^ zeros

held : (y : Float) (b : ℕ) → T (fits binary64 y) → HasValue y false b (2 ^ 1074) → Held b
held nan b t v = absurd v
held (inf s) b t v = absurd v
held (fin s m e) b t v =
    let f = fit s m e t in
    record { digits = m; zeros = zeros e; few = f.few; is = eq_of_mul-eq-mul_right (down e) (down_pos e) b (m * 2 ^ zeros e) (sym v.1 ∙ units_of m e f) }

module _ (q k y : ℕ) (q-lo : 2 ^ 52 ≤ q) (h : Held y) where
  on-grid : (y < q * 2 ^ k) ⊎ ((c : ℕ) × (y ≡ c * 2 ^ k))
  on-grid = go (dec_le k h.zeros)
    where
      room : (z k : ℕ) → z < k → 53 + z ≤ 52 + k
      room z k l = omega arith

      go : Dec (k ≤ h.zeros) → (y < q * 2 ^ k) ⊎ ((c : ℕ) × (y ≡ c * 2 ^ k))
      go (yes l) =
          let split : 2 ^ h.zeros ≡ 2 ^ (h.zeros - k) * 2 ^ k = ap (λ (x : ℕ). 2 ^ x) (sym (sub-add_cancel l)) ∙ pow-add 2 (h.zeros - k) k in
          inr (h.digits * 2 ^ (h.zeros - k), h.is ∙ ap (λ (x : ℕ). h.digits * x) split ∙ sym (mul_assoc h.digits (2 ^ (h.zeros - k)) (2 ^ k)))
      go (no f) =
          let reach : 2 ^ (53 + h.zeros) ≤ q * 2 ^ k = le_trans (pow_mono (room h.zeros k (lt_of_not-le f))) (le_trans (le_of_eq (pow-add 2 52 k)) (mul-le-mul_right (2 ^ k) q-lo)) in
          inl (lt_of_le_of_lt (le_of_eq h.is) (lt_of_lt_of_le (shl_lt 53 h.zeros h.few) reach))

  below_next : y < suc q * 2 ^ k → y ≤ q * 2 ^ k
  below_next l =
      elim on-grid [
        | inl s ↦ le_of_lt s
        | inr c ↦ le_trans (le_of_eq c.1) (mul-le-mul_right (2 ^ k) (le_of_suc-le-suc (lt_of_mul-lt-mul_right (2 ^ k) (lt_of_le_of_lt (le_of_eq (sym c.1)) l))))
      ]

  above-this : q * 2 ^ k < y → suc q * 2 ^ k ≤ y
  above-this l =
      elim on-grid [
        | inl s ↦ absurd (not-le_of_lt s (le_of_lt l))
        | inr c ↦ le_trans (mul-le-mul_right (2 ^ k) (lt_of_mul-lt-mul_right (2 ^ k) (lt_of_lt_of_le l (le_of_eq c.1)))) (le_of_eq (sym c.1))
      ]

-- ---- squares
two-square : (a : ℕ) → 2 * a * (2 * a) ≡ 4 * (a * a)
two-square a = mul-mul-mul_comm 2 a 2 a

square-mono : {a b : ℕ} → a < b → a * a < b * b
square-mono {a} {b} h = lt_of_lt_of_le (omega (arith, square-suc a)) (mul-le-mul h h)

module _ (N Y a : ℕ) where
  under : Y ≤ 2 * a → a * a < N → Y * Y < 4 * N
  under h l = lt_of_le_of_lt (mul-le-mul h h) (omega (arith, two-square a))

  under' : Y < 2 * a → a * a ≤ N → Y * Y < 4 * N
  under' h l = lt_of_lt_of_le (square-mono h) (omega (arith, two-square a))

  over : 2 * a ≤ Y → N < a * a → 4 * N < Y * Y
  over h l = lt_of_lt_of_le (omega (arith, two-square a)) (mul-le-mul h h)

  over' : 2 * a < Y → N ≤ a * a → 4 * N < Y * Y
  over' h l = lt_of_le_of_lt (omega (arith, two-square a)) (square-mono h)

-- ---- the nearest
module _ (N k q rest : ℕ) (s : Split N k q rest) (K : k ≤ 2000) where
  A-is : q * 2 ^ k ≡ 2 * q * s.w
  A-is = ap (λ (x : ℕ). q * x) s.weight ∙ mul_left_comm q 2 s.w ∙ sym (mul_assoc 2 q s.w)

  B-is : suc q * 2 ^ k ≡ 2 * suc q * s.w
  B-is = ap (λ (x : ℕ). suc q * x) s.weight ∙ mul_left_comm (suc q) 2 s.w ∙ sym (mul_assoc 2 (suc q) s.w)

  middle : q * 2 ^ k + suc q * 2 ^ k ≡ 2 * ((2 * q + 1) * s.w)
  middle = omega (arith, A-is, B-is, mul_assoc 2 q s.w, mul_assoc 2 (suc q) s.w, suc-mul q s.w, add-mul (2 * q) 1 s.w, one-mul s.w)

  nearest-down : rest ≤ q → NearestRoot N (root_of N)
  nearest-down h = record {
    held = root-fits N;
    units = q * 2 ^ k;
    value = root-value N q k (stays N k q rest s h) K;
    over = λ y b t v l. under' N (b + q * 2 ^ k) (2 * q * s.w) (omega (arith, A-is)) (from-q N k q rest s);
    under = λ y b t v l.
        let g : suc q * 2 ^ k ≤ b = above-this q k b s.q-lo (held y b t v) l in
        over N (b + q * 2 ^ k) ((2 * q + 1) * s.w) (omega (arith, middle)) (under-middle N k q rest s h);
  }

  nearest-up : q < rest → NearestRoot N (root_of N)
  nearest-up h = record {
    held = root-fits N;
    units = suc q * 2 ^ k;
    value = root-value N (suc q) k (rises N k q rest s h) K;
    over = λ y b t v l.
        let g : b ≤ q * 2 ^ k = below_next q k b s.q-lo (held y b t v) l in
        under N (b + suc q * 2 ^ k) ((2 * q + 1) * s.w) (omega (arith, middle)) (over-middle N k q rest s h);
    under = λ y b t v l. over' N (b + suc q * 2 ^ k) (2 * suc q * s.w) (omega (arith, B-is)) (le_of_lt (to-next N k q rest s));
  }

split-nearest : (n s : ℕ) → 2 ^ 52 ≤ n → n < 2 ^ 54 - 1 → 27 ≤ s → s < 1560 → NearestRoot (n * (2 ^ s * 2 ^ s)) (root_of (n * (2 ^ s * 2 ^ s)))
split-nearest n s lo hi l u =
    let q = whole_root (n * 2 ^ 52) in
    let rest = n * 2 ^ 52 - q * q in
    let p = split n s q rest lo hi l refl refl in
    let K : s - 26 ≤ 2000 = omega arith in
    elim (dec_le rest q) [ yes h ↦ nearest-down _ (s - 26) q rest p K h | no f ↦ nearest-up _ (s - 26) q rest p K (lt_of_not-le f) ]

pub root-nearest : (x : Float) (n : ℕ) → T (fits binary64 x) → T (positive x) → HasValue x false n (2 ^ 1074 * 2 ^ 1074) → NearestRoot n (root x)
root-nearest x n t p v =
    let f = fours x (normal x (pattern x t p)) in
    rw (root-of-value x n p v) (subst (λ (N : ℕ). NearestRoot N (root_of N)) (value-once x _ n _ f.value v) (split-nearest f.n f.s f.n-lo f.n-hi f.s-lo f.s-hi))

-- and there is one such number
pub nearest-root-unique : (n : ℕ) (y z : Float) (p : NearestRoot n y) (q : NearestRoot n z) → p.units ≡ q.units
nearest-root-unique n y z p q = le_antisymm (not-above y z p q) (not-above z y q p)
  where
    not-above : (y z : Float) (p : NearestRoot n y) (q : NearestRoot n z) → p.units ≤ q.units
    not-above y z p q = le_of_suc-le-suc (lt_of_not-le (λ (h : suc q.units ≤ p.units). clash (p.over z q.units q.held q.value h) (q.under y p.units p.held p.value h)))
      where
        clash : (q.units + p.units) * (q.units + p.units) < 4 * n → 4 * n < (p.units + q.units) * (p.units + q.units) → ⊥
        clash a b = not-le_of_lt a (le_of_lt (lt_of_lt_of_le b (le_of_eq (ap (λ (x : ℕ). x * x) (add_comm p.units q.units)))))
