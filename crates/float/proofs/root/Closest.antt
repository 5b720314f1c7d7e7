-- The whole number nearest to a / b, where a / b lies between q and q + 1 and not at their middle: q below it, q + 1 above. Assumes nothing.
use Rattle.std.proofs.Common.{◌≡◌, ℕ, suc, ◌+◌, ◌*◌, ◌/◌, ◌%◌, ◌<◌, ◌≤◌, not, T, sym, refl, ap, ◌∙◌, subst, le_of_eq, lt_of_lt_of_le, le_of_lt, lt_irrefl, add-mul, one-mul, div-add-mod', not-le_of_lt, arith, eqb→eq, leb→le}
use Prim.Native.Nat.{compare, Ordering}
use native.Mathlib.Nat.{div-eq_of_lt-le}
use lib.Dec.{is_le, compare_is_eq, nleb→lt}
use lib.Ieee.{nearest}
use lib.Ieee.Nearest.{closest}

below_half : (q x y : ℕ) → x < y → nearest q (compare x y) ≡ q
below_half q x y h = go (compare x y) (nleb→lt x y) (eqb→eq x y)
  where
    go : (o : Ordering) → (T (not (is_le o)) → y < x) → (T (compare_is_eq o) → x ≡ y) → nearest q o ≡ q
    go Ordering.lt k e = refl
    go Ordering.eq k e = absurd (lt_irrefl y (subst (λ (z : ℕ). z < y) (e tt) h))
    go Ordering.gt k e = absurd (not-le_of_lt h (le_of_lt (k tt)))

above_half : (q x y : ℕ) → y < x → nearest q (compare x y) ≡ suc q
above_half q x y h = go (compare x y) (leb→le x y)
  where
    go : (o : Ordering) → (T (is_le o) → x ≤ y) → nearest q o ≡ suc q
    go Ordering.lt k = absurd (not-le_of_lt h (k tt))
    go Ordering.eq k = absurd (not-le_of_lt h (k tt))
    go Ordering.gt k = refl

module _ (a b q : ℕ) (lo : q * b ≤ a) (hi : a < q * b + b) where
  quotient : a / b ≡ q
  quotient = div-eq_of_lt-le b lo (lt_of_lt_of_le hi (le_of_eq (ap (λ (x : ℕ). q * b + x) (sym (one-mul b)) ∙ sym (add-mul q 1 b))))

  remainder : q * b + a % b ≡ a
  remainder = ap (λ (x : ℕ). x * b + a % b) (sym quotient) ∙ div-add-mod' a b

  pub closest-down : 2 * a < 2 * (q * b) + b → closest a b ≡ q
  closest-down h = ap (λ (x : ℕ). nearest x (compare (a % b * 2) b)) quotient ∙ below_half q (a % b * 2) b (omega (arith, remainder))

  pub closest-up : 2 * (q * b) + b < 2 * a → closest a b ≡ suc q
  closest-up h = ap (λ (x : ℕ). nearest x (compare (a % b * 2) b)) quotient ∙ above_half q (a % b * 2) b (omega (arith, remainder))
