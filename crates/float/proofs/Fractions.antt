-- A rounded quotient and a rounded root lie on the side of a fraction a / 2 ^ l that f64 holds on which the exact one lies. Each rounding keeps the order, and changes nothing at such a fraction. Assumes nothing.
use Rattle.std.proofs.Common.{◌≡◌, ℕ, zero, suc, ◌+◌, ◌-◌, ◌*◌, ◌/◌, ◌^◌, ◌<◌, ◌≤◌, Bool, true, false, cond, T, eqb, pos, sym, ap, ◌∙◌, subst, true≢false, le_trans, le_of_eq, lt_of_lt_of_le, lt_irrefl, mul-le-mul_right, zero-lt-suc, mul_assoc, mul_comm, mul-pos, le-div_iff_mul-le, zero-mul, mul-one, sub-add_cancel, div-mul-le_self, le_of_mul-le-mul_right, mul_left_comm, arith, lit<, pow_pos, pow_mono, pow-add, shl_lt}
use lib.Dec.{eqb-suc-zero}
use lib.Ieee.{Float, nan, inf, fin, binary64, up, down, round, div, of_int, le}
use lib.Ieee.Fits.{up_pos, down_pos}
use lib.Ieee.Exact.{HasValue, round_exact}
use lib.Ieee.Back.{round_whole}
use lib.Ieee.Order.{round_mono}
use lib.Ieee.Scale.{round_same}
use lib.Ieee.Positive.{num, den, den_pos, positive, own_value, positive_of_value, values_of_le, between}
use Rattle.float.specs.Root.{twice_root, root_of, root}
use Rattle.float.proofs.WholeRoot.{twice-ge, twice-le}
use Rattle.float.proofs.root.Normal.{root-of-number}

abbrev pub rounded : ℕ → ℕ → Float
rounded = round binary64 false

-- x is no less, and no more, than a / 2 ^ l
abbrev pub AtLeast : ℕ → ℕ → Float → Type 0
AtLeast a l x = a * den x ≤ num x * 2 ^ l

abbrev pub AtMost : ℕ → ℕ → Float → Type 0
AtMost a l x = num x * 2 ^ l ≤ a * den x

-- a fraction that f64 holds
pub record Fraction (a l : ℕ) : Type 0 where
  pub some : 0 < a
  pub few : a < 2 ^ 53
  pub deep : l ≤ 1074

module _ (a l : ℕ) (h : Fraction a l) where
  exact : HasValue (rounded a (2 ^ l)) false a (2 ^ l)
  exact =
      round_exact binary64 false a (2 ^ l) a (1074 - l) (pow_pos l) h.few (lt_of_lt_of_le (shl_lt 53 (1074 - l) h.few) (pow_mono (room l)))
      (ap (λ (x : ℕ). a * x) (ap (λ (x : ℕ). 2 ^ x) (sym (sub-add_cancel h.deep)) ∙ pow-add 2 (1074 - l) l) ∙ sym (mul_assoc a (2 ^ (1074 - l)) (2 ^ l)))
    where
      room : (l : ℕ) → 53 + (1074 - l) ≤ 2098
      room l = omega arith

  above_zero : T (positive (rounded a (2 ^ l)))
  above_zero = positive_of_value (rounded a (2 ^ l)) a (2 ^ l) exact h.some

  pub least : (x : Float) → T (positive x) → T (le (rounded a (2 ^ l)) x) → AtLeast a l x
  least x p t = values_of_le (rounded a (2 ^ l)) x a (2 ^ l) (num x) (den x) above_zero p exact (own_value x p) t

  pub most : (x : Float) → T (positive x) → T (le x (rounded a (2 ^ l))) → AtMost a l x
  most x p t = values_of_le x (rounded a (2 ^ l)) (num x) (den x) a (2 ^ l) p above_zero (own_value x p) exact t

pub positive-between : (x : Float) (a l b k : ℕ) → Fraction a l → Fraction b k → T (le (rounded a (2 ^ l)) x) → T (le x (rounded b (2 ^ k))) → T (positive x)
positive-between x a l b k p q = between (rounded a (2 ^ l)) x (rounded b (2 ^ k)) (above_zero a l p) (above_zero b k q)

-- ---- the quotient of two whole numbers
div-at : (x y : Float) (a b : ℕ) → 0 < b → HasValue x false a 1 → HasValue y false b 1 → div binary64 x y ≡ rounded a b
unfolding div
div-at nan y a b B v w = absurd v
div-at (inf s) y a b B v w = absurd v
div-at (fin true m e) y a b B v w = absurd (true≢false v.0)
div-at (fin false m e) nan a b B v w = absurd w
div-at (fin false m e) (inf t) a b B v w = absurd w
div-at (fin false m e) (fin true n d) a b B v w = absurd (true≢false w.0)
div-at (fin false m e) (fin false zero d) a b B v w = absurd (lt_irrefl 0 (subst (λ (x : ℕ). 0 < x) (sym w.1 ∙ rw (zero-mul (up d))) (mul-pos B (down_pos d))))
div-at (fin false m e) (fin false (suc n) d) a b B v w =
    ap (λ (t : Bool). cond t (cond (eqb m 0) nan (inf false)) (rounded (m * up e * down d) (suc n * up d * down e))) (eqb-suc-zero n)
    ∙ round_same binary64 false (m * up e * down d) (suc n * up d * down e) a b (mul-pos (mul-pos (zero-lt-suc n) (up_pos d)) (down_pos e)) B
    (rw (sym (mul-one (m * up e)) ∙ v.1, sym (mul-one (suc n * up d)) ∙ w.1) (simp (mul_assoc, mul_comm, mul_left_comm)))

pub quotient : (s n : ℕ) → 0 < n → s ≤ 2 ^ 53 → n ≤ 2 ^ 53 → div binary64 (of_int binary64 (pos s)) (of_int binary64 (pos n)) ≡ rounded s n
unfolding of_int
quotient s n N a b = div-at (rounded s 1) (rounded n 1) s n N (round_whole binary64 false s a) (round_whole binary64 false n b)

-- ---- the root of x. In units of 2 ^ -1074 the fraction a / 2 ^ l is a × w, and n is the number under the root
module _ (x : Float) (p : T (positive x)) (a l : ℕ) (L : l ≤ 1074) where
  w : ℕ
  w = 2 ^ (1074 - l)

  n : ℕ
  n = num x * (2 ^ 1074 * 2 ^ 1074) / den x

  unit : 2 ^ 1074 ≡ 2 ^ l * w
  unfolding w
  unit = ap (λ (y : ℕ). 2 ^ y) (sym (sub-add_cancel L)) ∙ pow-add 2 (1074 - l) l ∙ mul_comm (2 ^ (1074 - l)) (2 ^ l)

  root_is : root x ≡ rounded (twice_root n) (2 * 2 ^ 1074)
  unfolding n root_of
  root_is = root-of-number x p

  -- ×, with the unit taken apart
  squares : a * w * (a * w) * den x ≡ a * a * den x * (w * w)
  squares = simp (mul_assoc, mul_comm, mul_left_comm)

  under : num x * (2 ^ 1074 * 2 ^ 1074) ≡ num x * (2 ^ l * 2 ^ l) * (w * w)
  under = ap (λ (u : ℕ). num x * (u * u)) unit ∙ simp (mul_assoc, mul_left_comm)

  sides : a * (2 * 2 ^ 1074) ≡ 2 * (a * w) * 2 ^ l
  sides = ap (λ (u : ℕ). a * (2 * u)) unit ∙ simp (mul_assoc, mul_comm, mul_left_comm)

  two-units : 0 < 2 * 2 ^ 1074
  two-units = mul-pos {m = 2} (lit< tt) (pow_pos 1074)

  pub root-least : a * a * den x ≤ num x * (2 ^ l * 2 ^ l) → T (le (rounded a (2 ^ l)) (root x))
  unfolding n
  root-least h =
      rw root_is
      (round_mono binary64 a (2 ^ l) (twice_root n) (2 * 2 ^ 1074) (pow_pos l) two-units
      (le_trans (le_of_eq sides)
      (mul-le-mul_right (2 ^ l)
      (twice-ge n (a * w) ((le-div_iff_mul-le (den_pos x)).1 (le_trans (le_of_eq squares) (le_trans (mul-le-mul_right (w * w) h) (le_of_eq (sym under)))))))))

  pub root-most : num x * (2 ^ l * 2 ^ l) ≤ a * a * den x → T (le (root x) (rounded a (2 ^ l)))
  unfolding n
  root-most h =
      rw root_is
      (round_mono binary64 (twice_root n) (2 * 2 ^ 1074) a (2 ^ l) two-units (pow_pos l)
      (le_trans
      (mul-le-mul_right (2 ^ l)
      (twice-le n (a * w)
      (le_of_mul-le-mul_right (le_trans (div-mul-le_self (num x * (2 ^ 1074 * 2 ^ 1074)) (den x)) (le_trans (le_of_eq under) (le_trans (mul-le-mul_right (w * w) h) (le_of_eq (sym squares))))) (den_pos x))))
      (le_of_eq (sym sides))))
