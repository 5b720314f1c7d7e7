-- `digits_of n` by cases: of an exact root its digits from the first 1 to the last (`digits-exact`), else 53 (`digits-else`); one of them it is (`exact-or-not`). A power of four before the root changes nothing (`digits-scaled`), since the root of a square so scaled is scaled by its root (`unscaled`). Assumes nothing.
use Rattle.std.proofs.Common.{◌≡◌, ℕ, zero, suc, ◌*◌, ◌/◌, ◌%◌, ◌^◌, ◌<◌, ◌≤◌, ◌⊎◌, sym, ap, ◌∙◌, inl, inr, le_of_eq, mul_assoc, mul-le-mul, pow-suc, lt_of_not-le, mul-one, arith, eq-eqb, ne_eqb}
use native.Mathlib.Nat.{mul-mul-mul_comm}
use native.Mathlib.Decide.{dec_le}
use Rattle.float.specs.Root.{whole_root}
use Rattle.float.specs.WorkedDigits.{first_to_last, digits_of}
use Rattle.float.proofs.WholeRoot.{root-low, root-unique, square-suc, square-odd}
use Rattle.float.proofs.FirstToLast.{first-to-last, zeros-behind, counted}

-- ---- the two cases
pub whole-square : (r n : ℕ) → r * r ≡ n → whole_root n ≡ r
whole-square r n e = root-unique n r (le_of_eq e) (omega (arith, square-suc r))

pub root-some : (r n : ℕ) → 0 < n → r * r ≡ n → 0 < r
root-some r n p e = lt_of_not-le (λ (g : r ≤ 0). absurd (omega (arith, mul-le-mul g g)))

pub digits-exact : (r n : ℕ) → r * r ≡ n → digits_of n ≡ first_to_last r
unfolding digits_of
digits-exact r n e = rw (whole-square r n e, eq-eqb (r * r) n e)

pub digits-else : (n : ℕ) → ((r : ℕ) → r * r ≡ n → ⊥) → digits_of n ≡ 53
unfolding digits_of
digits-else n f = rw (ne_eqb (whole_root n * whole_root n) n (f (whole_root n)))

pub exact-or-not : (n : ℕ) → ((r : ℕ) × (r * r ≡ n)) ⊎ ((r : ℕ) → r * r ≡ n → ⊥)
exact-or-not n =
    let r = whole_root n in
    elim (dec_le n (r * r)) [
      | yes l ↦ inl (r, omega (arith, root-low n))
      | no f ↦ inr (λ q e. f (le_of_eq (sym e ∙ ap (λ (x : ℕ). x * x) (sym (whole-square q n e)))))
    ]

-- ---- powers of four
-- a square that four divides is that of an even number
module _ (r n : ℕ) (e : r * r ≡ n * 4) where
  half-root : r ≡ r / 2 * 2
  half-root = elim (dec_le (r % 2) 0) [ yes z ↦ omega arith | no f ↦ absurd (omega (arith, square-odd r (omega arith))) ]

  half-square : r / 2 * (r / 2) ≡ n
  half-square =
      let h = r / 2 in
      let s : h * 2 * (h * 2) ≡ r * r = sym (ap (λ (x : ℕ). x * x) half-root) in
      omega (arith, e, mul-mul-mul_comm h 2 h 2)

four-more : (n t : ℕ) → n * (2 ^ suc t * 2 ^ suc t) ≡ n * (2 ^ t * 2 ^ t) * 4
four-more n t = rw (pow-suc 2 t, mul-mul-mul_comm (2 ^ t) 2 (2 ^ t) 2) (sym (mul_assoc n (2 ^ t * 2 ^ t) 4))

pub unscaled : (r n t : ℕ) → r * r ≡ n * (2 ^ t * 2 ^ t) → (q : ℕ) × (q * q ≡ n) × (r ≡ q * 2 ^ t)
unscaled r n zero e = (r, e ∙ mul-one n, sym (mul-one r))
unscaled r n (suc t) e =
    let f : r * r ≡ n * (2 ^ t * 2 ^ t) * 4 = e ∙ four-more n t in
    let u = unscaled (r / 2) n t (half-square r (n * (2 ^ t * 2 ^ t)) f) in
    (u.0, u.1, half-root r (n * (2 ^ t * 2 ^ t)) f ∙ ap (λ (x : ℕ). x * 2) u.2 ∙ mul_assoc u.0 (2 ^ t) 2 ∙ ap (λ (x : ℕ). u.0 * x) (sym (pow-suc 2 t)))

pub digits-scaled : (n t : ℕ) → 0 < n → digits_of (n * (2 ^ t * 2 ^ t)) ≡ digits_of n
digits-scaled n t p =
    elim (exact-or-not n) [
      | inl s ↦
          let r = s.0 in
          digits-exact (r * 2 ^ t) (n * (2 ^ t * 2 ^ t)) (mul-mul-mul_comm r (2 ^ t) r (2 ^ t) ∙ ap (λ (x : ℕ). x * (2 ^ t * 2 ^ t)) s.1)
          ∙ counted (r * 2 ^ t) (first_to_last r) (zeros-behind r (first_to_last r) t (first-to-last r (root-some r n p s.1)))
          ∙ sym (digits-exact r n s.1)
      | inr f ↦ digits-else (n * (2 ^ t * 2 ^ t)) (λ r e. let u = unscaled r n t e in f u.0 u.1) ∙ sym (digits-else n f)
    ]
