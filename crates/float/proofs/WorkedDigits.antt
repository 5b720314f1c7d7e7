-- The count of `sqrt_digits` is the request's (`digits-worked`), and there is one such number (`worked-unique`).
-- * An exact root of an f64 has 27 digits at most (`exact-few`): its square has no more odd digits than the 53 of the f64. So a count of 53 says that the root isn't exact (`inexact`).
-- * Any argument but a finite number above 0 has none (`no-digits`), and such a number has some (`some-digits`).
-- Assumes nothing.
use Rattle.std.proofs.Common.{◌≡◌, ℕ, zero, suc, ◌+◌, ◌-◌, ◌*◌, ◌%◌, ◌^◌, ◌<◌, ◌≤◌, true, false, T, sym, refl, ap, ◌∙◌, subst, inl, inr, le_trans, le_of_eq, le_of_suc-le-suc, lt_of_le_of_lt, mul_assoc, mul-le-mul_left, mul-pos, lt_of_not-le, mul-one, not-le_of_lt, arith, lt→ltb, pow_pos, pow_mono, pow-add}
use native.Mathlib.Nat.{mul-mul-mul_comm}
use lib.Ieee.{Float, nan, inf, fin, binary64, fits}
use lib.Ieee.Exact.{HasValue}
use lib.Ieee.Positive.{positive}
use Rattle.float.specs.Root.{whole_root, root_of, root}
use Rattle.float.specs.WorkedDigits.{worked_digits, FirstToLast, Worked}
use Rattle.float.proofs.WholeRoot.{square-lt, square-odd}
use Rattle.float.proofs.FirstToLast.{odd-once, first-to-last, first-to-last-unique}
use Rattle.float.proofs.DigitsOf.{whole-square, root-some, exact-or-not, unscaled, digits-exact, digits-else}
use Rattle.float.proofs.root.Pattern.{pattern}
use Rattle.float.proofs.root.Normal.{normal, fours, root-of-value, digits-of-value, value-once}
use Rattle.float.proofs.root.Split.{in-fours, split}
use Rattle.float.proofs.root.Rounded.{stays}
use Rattle.float.proofs.root.Bits.{root-value}

-- ---- the rounded root of an exact one
split-exact : (n s r : ℕ) → 2 ^ 52 ≤ n → n < 2 ^ 54 - 1 → 27 ≤ s → s < 1560 → r * r ≡ n * (2 ^ s * 2 ^ s) → HasValue (root_of (n * (2 ^ s * 2 ^ s))) false r (2 ^ 1074)
split-exact n s r lo hi l h e =
    let P = n * 2 ^ 52 in
    let q = whole_root P in
    let u = unscaled r P (s - 26) (e ∙ in-fours n 26 s (omega arith)) in
    let same : u.0 ≡ q = sym (whole-square u.0 P u.1) in
    let square : q * q ≡ P = ap (λ (x : ℕ). x * x) (sym same) ∙ u.1 in
    let p = split n s q (P - q * q) lo hi l refl refl in
    subst (λ (a : ℕ). HasValue (root_of (n * (2 ^ s * 2 ^ s))) false a (2 ^ 1074)) (sym (u.2 ∙ ap (λ (x : ℕ). x * 2 ^ (s - 26)) same))
    (root-value (n * (2 ^ s * 2 ^ s)) q (s - 26) (stays _ _ q (P - q * q) p (omega (arith, square))) (omega arith))

module _ (x : Float) (n : ℕ) (t : T (fits binary64 x)) (p : T (positive x)) (v : HasValue x false n (2 ^ 1074 * 2 ^ 1074)) where
  exact-value : (r : ℕ) → r * r ≡ n → HasValue (root x) false r (2 ^ 1074)
  exact-value r e =
      let f = fours x (normal x (pattern x t p)) in
      let same : f.n * (2 ^ f.s * 2 ^ f.s) ≡ n = value-once x _ n _ f.value v in
      rw (root-of-value x n p v) (subst (λ (N : ℕ). HasValue (root_of N) false r (2 ^ 1074)) same (split-exact f.n f.s r f.n-lo f.n-hi f.s-lo f.s-hi (e ∙ sym same)))

  some : 0 < n
  some =
      let f = fours x (normal x (pattern x t p)) in
      subst (λ (a : ℕ). 0 < a) (value-once x _ n _ f.value v) (mul-pos (omega (arith, f.n-lo)) (mul-pos (pow_pos f.s) (pow_pos f.s)))

  pub digits-worked : Worked n (root x) (worked_digits x)
  digits-worked = record {
    exact = λ r e. (exact-value r e, subst (FirstToLast r) (sym (digits-of-value x n p v ∙ digits-exact r n e)) (first-to-last r (root-some r n some e)));
    otherwise = λ f. digits-of-value x n p v ∙ digits-else n f;
  }

  -- the odd number of an exact root has a square with the digits of x, 53 at most
  odd-few : (r d : ℕ) (e : r * r ≡ n) (f : FirstToLast r d) → f.odd * f.odd < 2 ^ 53
  odd-few r d e f =
      let w = normal x (pattern x t p) in
      let m-pos : 0 < w.m = omega (arith, w.m-lo) in
      let g = first-to-last w.m m-pos in
      let number : f.odd * f.odd * 2 ^ (f.zeros + f.zeros) ≡ g.odd * 2 ^ (g.zeros + w.s) =
      ap (λ (y : ℕ). f.odd * f.odd * y) (pow-add 2 f.zeros f.zeros)
      ∙ mul-mul-mul_comm f.odd f.odd (2 ^ f.zeros) (2 ^ f.zeros)
      ∙ ap (λ (y : ℕ). y * y) (sym f.is)
      ∙ e
      ∙ sym (value-once x _ n _ w.value v)
      ∙ ap (λ (y : ℕ). y * 2 ^ w.s) g.is
      ∙ mul_assoc g.odd (2 ^ g.zeros) (2 ^ w.s)
      ∙ ap (λ (y : ℕ). g.odd * y) (sym (pow-add 2 g.zeros w.s)) in
      let same : f.odd * f.odd ≡ g.odd = odd-once (f.odd * f.odd) g.odd (f.zeros + f.zeros) (g.zeros + w.s) (omega (arith, square-odd f.odd f.last)) g.last number in
      lt_of_le_of_lt (le_of_eq same) (lt_of_le_of_lt (no_more g.odd g.zeros w.m g.is) w.m-hi)
    where
      no_more : (o z m : ℕ) → m ≡ o * 2 ^ z → o ≤ m
      no_more o z m e = le_trans (le_of_eq (sym (mul-one o))) (le_trans (mul-le-mul_left o (pow_pos z)) (le_of_eq (sym e)))

  pub exact-few : (r : ℕ) → r * r ≡ n → worked_digits x ≤ 27
  exact-few r e =
      let d = worked_digits x in
      let f : FirstToLast r d = (digits-worked.exact r e).1 in
      let small : f.odd < 2 ^ 27 = square-lt f.odd (2 ^ 27) (omega (arith, odd-few r d e f)) in
      under d (lt_of_le_of_lt f.first (omega arith))
    where
      under : (d : ℕ) → 2 ^ d < 2 ^ 28 → d ≤ 27
      under d l = le_of_suc-le-suc (lt_of_not-le (λ (g : 28 ≤ d). not-le_of_lt l (pow_mono g)))

  -- a count of 53 says that the root isn't exact
  pub inexact : worked_digits x ≡ 53 → (r : ℕ) → r * r ≡ n → ⊥
  inexact c r e = omega (arith, exact-few r e)

  pub some-digits : 0 < worked_digits x
  some-digits =
      elim (exact-or-not n) [
        | inl s ↦ let f : FirstToLast s.0 (worked_digits x) = (digits-worked.exact s.0 s.1).1 in one (worked_digits x) f.odd f.few f.last
        | inr f ↦ omega (arith, digits-worked.otherwise f)
      ]
    where
      one : (d o : ℕ) → o < 2 ^ d → o % 2 ≡ 1 → 0 < d
      one zero o l e = absurd (omega arith)
      one (suc d) o l e = omega arith

pub worked-unique : (n d e : ℕ) (y z : Float) → Worked n y d → Worked n z e → d ≡ e
worked-unique n d e y z f g =
    elim (exact-or-not n) [
      | inl s ↦ first-to-last-unique s.0 d e (f.exact s.0 s.1).1 (g.exact s.0 s.1).1
      | inr h ↦ f.otherwise h ∙ sym (g.otherwise h)
    ]

-- ---- other arguments
pub no-digits : (x : Float) → (T (positive x) → ⊥) → worked_digits x ≡ 0
unfolding worked_digits
no-digits nan n = refl
no-digits (inf s) n = refl
no-digits (fin s zero e) n = refl
no-digits (fin true (suc m) e) n = refl
no-digits (fin false (suc m) e) n = absurd (n (lt→ltb 0 (suc m) (omega arith)))
