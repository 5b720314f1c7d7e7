-- Places in a table of n × n numbers, and in blocks of k numbers: those before them, and the row and the column of each. Assumes nothing.
use mathlib.Core.Path.{◌≡◌, sym, ap, ◌∙◌}
use Prim.Native.Nat.{ℕ, zero, suc, ◌+◌, ◌-◌, ◌*◌, ◌/◌, ◌%◌, ◌≤◌, ◌<◌}
use native.Mathlib.Nat.{mul_comm, mul-le-mul_left, mul-le-mul_right, suc-mul, le_trans, le_of_eq, lt_of_lt_of_le, not-suc-le-zero, div-lt_iff_lt-mul, mod-lt}
use native.Mathlib.Numerals.{add-one, add-one-le}
use native.Mathlib.Omega.{arith}
use lib.Arith.{digits_div, digits_mod}
use lib.IntN.{ℤ}
use Rattle.laws.proofs.Table.{tabulate-same}
use Rattle.normal.specs.Starts.{by_blocks, by_rows}

-- the end of a row is the next row's start
pub row-end : (n r : ℕ) → (r + 1) * n ≡ r * n + n
row-end n r = rw (add-one r) (suc-mul r n)

-- the end of block z
pub block-end : (n z k : ℕ) → z < n → z * k + k ≤ n * k
block-end n z k h = le_trans (le_of_eq (sym (row-end k z))) (mul-le-mul_right k (add-one-le h))

-- number c of block z
pub block-at : (k : ℕ) (f : ℕ → ℕ → ℤ) (z c : ℕ) → c < k → by_blocks k f (z * k + c) ≡ f z c
block-at k f z c h i = f (digits_div z h i) (digits_mod z h i)

-- the place one row and one column before
pub place-back : (n a b : ℕ) → 0 < a → 0 < b → (a - 1) * n + (b - 1) < a * n + b
place-back n a b h k =
    let e : a ≡ a - 1 + 1 = omega arith in
    let d : a * n ≡ (a - 1) * n + n = ap (λ (m : ℕ). m * n) e ∙ row-end n (a - 1) in
    step (a * n) ((a - 1) * n) n b d k
  where
    step : (x y n b : ℕ) → x ≡ y + n → 0 < b → y + (b - 1) < x + b
    step x y n b d k = omega arith

-- row 0 stands before the other rows
pub first-row : (n a : ℕ) → 0 < a → a < n → a < a * n
first-row n a h k = lt_of_lt_of_le (omega (arith, mul_comm a 2)) (mul-le-mul_left a two)
  where
    two : 2 ≤ n
    two = omega arith

-- z / n and z % n of a place of a square
module _ (n z : ℕ) (h : z < n * n) where
  pub positive : 0 < n
  positive = go n z h
    where
      go : (n z : ℕ) → z < n * n → 0 < n
      go zero z h = absurd (not-suc-le-zero h)
      go (suc n) z h = omega arith

  pub quotient : z / n < n
  quotient = (div-lt_iff_lt-mul positive).1 h

  pub remainder : z % n < n
  remainder = mod-lt z positive

-- equal entries
pub rows_ext : (n : ℕ) (f g : ℕ → ℕ → ℤ) → ((a b : ℕ) → a < n → b < n → f a b ≡ g a b) → by_rows n f ≡ by_rows n g
rows_ext n f g h = tabulate-same (n * n) (by_blocks n f) (by_blocks n g) (λ z l. h (z / n) (z % n) (quotient n z l) (remainder n z l))
