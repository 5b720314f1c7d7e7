-- `whole_root n` is the root of n cut to a whole number (`root-low`, `root-high`), and no other number is (`root-unique`).
-- `twice_root n` lies to every even number 2b as n to b² (`twice-lt`, `twice-le`, `twice-ge`, `twice-gt`). Assumes nothing.
use Rattle.std.proofs.Common.{◌≡◌, ℕ, zero, suc, ◌+◌, ◌*◌, ◌/◌, ◌%◌, ◌^◌, ◌<◌, ◌≤◌, Bool, true, false, cond, not, T, eqb, leb, ◌⊎◌, sym, refl, ap, ◌∙◌, subst, inl, inr, zero-le, le_trans, le_of_eq, lt_of_lt_of_le, le_of_suc-le-suc, lt_of_le_of_lt, add-zero, mul-le-mul_right, zero-lt-suc, suc-mul, mul_comm, div-lt_iff_lt-mul, mul-le-mul, le_antisymm, pow-suc, lt_of_not-le, mul-suc, not-le_of_lt, div-mul-le_self, add-one, arith, lit≤, eqb→eq, leb→le}
use native.Mathlib.Nat.{mul-mul-mul_comm, pow-le-pow_left}
use lib.Dec.{nleb→lt, eqb_refl}
use lib.Arith.{lt_of_le-ne}
use lib.Ieee.{size}
use lib.Ieee.Digits.{size-lt}
use Rattle.float.specs.Root.{digits_root, whole_root, twice_root}

-- ---- squares
pub square_le : (a b : ℕ) → a * a < suc b * suc b → a ≤ b
square_le a b h = le_of_suc-le-suc (lt_of_not-le (λ (g : suc b ≤ a). not-le_of_lt h (mul-le-mul g g)))

pub square-lt : (a b : ℕ) → a * a < b * b → a < b
square-lt a b h = lt_of_not-le (λ (g : b ≤ a). not-le_of_lt h (mul-le-mul g g))

pub square-suc : (q : ℕ) → suc q * suc q ≡ q * q + 2 * q + 1
square-suc q =
    let a : suc q * suc q ≡ q * q + q + suc q = mul-suc (suc q) q ∙ ap (λ (x : ℕ). x + suc q) (suc-mul q q) in
    omega arith

pub odd-square : (q : ℕ) → (2 * q + 1) * (2 * q + 1) ≡ 4 * (q * q) + 4 * q + 1
odd-square q = ap (λ (x : ℕ). x * x) (add-one (2 * q)) ∙ square-suc (2 * q) ∙ omega (arith, mul-mul-mul_comm 2 q 2 q)

pub square-odd : (r : ℕ) → r % 2 ≡ 1 → r * r % 4 ≡ 1
square-odd r e =
    let q = r / 2 in
    let s : r * r ≡ 4 * (q * q) + 4 * q + 1 = ap (λ (x : ℕ). x * x) (halved r e) ∙ odd-square q in
    omega arith
  where
    halved : (r : ℕ) → r % 2 ≡ 1 → r ≡ 2 * (r / 2) + 1
    halved r e = omega arith

double-square : (r : ℕ) → 2 * r * (2 * r) ≡ r * r * 4
double-square r = mul-mul-mul_comm 2 r 2 r ∙ mul_comm 4 (r * r)

-- ---- the digits
digits_low : (d n : ℕ) → digits_root d n * digits_root d n ≤ n
unfolding digits_root
digits_low zero n = zero-le
digits_low (suc d) n = let r = digits_root d (n / 4) in go r (digits_low d (n / 4)) (leb ((2 * r + 1) * (2 * r + 1)) n) (leb→le ((2 * r + 1) * (2 * r + 1)) n)
  where
    go : (r : ℕ) → r * r ≤ n / 4 → (b : Bool) → (T b → (2 * r + 1) * (2 * r + 1) ≤ n) → cond b (2 * r + 1) (2 * r) * cond b (2 * r + 1) (2 * r) ≤ n
    go r h true k = k tt
    go r h false k = le_trans (le_of_eq (double-square r)) (le_trans (mul-le-mul_right 4 h) (div-mul-le_self n 4))

digits-high : (d n : ℕ) → n < 4 ^ d → n < suc (digits_root d n) * suc (digits_root d n)
unfolding digits_root
digits-high zero n l = l
digits-high (suc d) n l =
    let r = digits_root d (n / 4) in
    go r (digits-high d (n / 4) ((div-lt_iff_lt-mul (zero-lt-suc 3)).1 (rw (pow-suc 4 d) at l))) (leb ((2 * r + 1) * (2 * r + 1)) n) (nleb→lt ((2 * r + 1) * (2 * r + 1)) n)
  where
    up-two : (r : ℕ) → suc (2 * r + 1) ≡ 2 * suc r
    up-two r = omega arith

    up_one : (r : ℕ) → suc (2 * r) ≡ 2 * r + 1
    up_one r = omega arith

    go : (r : ℕ) → n / 4 < suc r * suc r → (b : Bool) → (T (not b) → n < (2 * r + 1) * (2 * r + 1)) → n < suc (cond b (2 * r + 1) (2 * r)) * suc (cond b (2 * r + 1) (2 * r))
    go r h true k = rw (up-two r, double-square (suc r)) ((div-lt_iff_lt-mul (zero-lt-suc 3)).0 h)
    go r h false k = rw (up_one r) (k tt)

pub root-low : (n : ℕ) → whole_root n * whole_root n ≤ n
unfolding whole_root
root-low n = digits_low (size n) n

pub root-high : (n : ℕ) → n < suc (whole_root n) * suc (whole_root n)
unfolding whole_root
root-high n = digits-high (size n) n (lt_of_lt_of_le (size-lt n) (pow-le-pow_left (lit≤ tt) (size n)))

pub root-unique : (n b : ℕ) → b * b ≤ n → n < suc b * suc b → whole_root n ≡ b
root-unique n b h k = le_antisymm (square_le (whole_root n) b (lt_of_le_of_lt (root-low n) k)) (square_le b (whole_root n) (lt_of_le_of_lt h (root-high n)))

-- ---- twice the root
-- a root that is whole, and one that is not
abbrev Whole : ℕ → ℕ → ℕ → Type 0
Whole n r t = (t ≡ 2 * r) × (r * r ≡ n)

abbrev Between : ℕ → ℕ → ℕ → Type 0
Between n r t = (t ≡ 2 * r + 1) × (r * r < n)

either : (n : ℕ) → Whole n (whole_root n) (twice_root n) ⊎ Between n (whole_root n) (twice_root n)
unfolding twice_root
either n = let r = whole_root n in go r (root-low n) (eqb (r * r) n) (eqb→eq (r * r) n) (λ (e : r * r ≡ n). subst (λ (x : ℕ). T (eqb (r * r) x)) e (eqb_refl (r * r)))
  where
    go : (r : ℕ) → r * r ≤ n → (b : Bool) → (T b → r * r ≡ n) → (r * r ≡ n → T b) → Whole n r (2 * r + cond b 0 1) ⊎ Between n r (2 * r + cond b 0 1)
    go r l true h k = inl (add-zero (2 * r), h tt)
    go r l false h k = inr (refl, lt_of_le-ne l k)

module _ (n b : ℕ) where
  pub twice-lt : n < b * b → twice_root n < 2 * b
  twice-lt h =
      let l : whole_root n < b = square-lt (whole_root n) b (lt_of_le_of_lt (root-low n) h) in
      elim (either n) [ inl w ↦ omega arith | inr w ↦ omega arith ]

  pub twice-ge : b * b ≤ n → 2 * b ≤ twice_root n
  twice-ge h =
      let l : b ≤ whole_root n = square_le b (whole_root n) (lt_of_le_of_lt h (root-high n)) in
      elim (either n) [ inl w ↦ omega arith | inr w ↦ omega arith ]

  pub twice-le : n ≤ b * b → twice_root n ≤ 2 * b
  twice-le h =
      elim (either n) [
        | inl w ↦ let l : whole_root n ≤ b = square_le (whole_root n) b (omega (arith, square-suc b)) in omega arith
        | inr w ↦ let l : whole_root n < b = square-lt (whole_root n) b (lt_of_lt_of_le w.1 h) in omega arith
      ]

  pub twice-gt : b * b < n → 2 * b < twice_root n
  twice-gt h =
      elim (either n) [
        | inl w ↦ let l : b < whole_root n = square-lt b (whole_root n) (lt_of_lt_of_le h (le_of_eq (sym w.1))) in omega arith
        | inr w ↦ let l : b ≤ whole_root n = square_le b (whole_root n) (omega (arith, root-high n)) in omega arith
      ]
