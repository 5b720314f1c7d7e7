-- Two factors within a limit multiply within a limit. Assumes nothing.
use Prim.Native.Nat.{ℕ, ◌+◌, ◌*◌, ◌^◌, ◌≤◌}
use native.Mathlib.Nat.{le_trans}
use lib.IntN.{ℤ, ◌*ℤ◌}
use lib.Ieee.{Float, binary64, mul}
use Rattle.laws.specs.Law.{Product}
use Rattle.laws.proofs.Whole.{abs-mul-le}
use Rattle.laws.proofs.Scaled.{mul_holds}

-- two factors, in 2 ^ j-ths and 2 ^ k-ths, of at most c and d of them
module _ (n j k c d : ℕ) (fine : j + k ≤ 1074) (room : c * d ≤ 2 ^ 53) {A : Type 0} (Position : A → Type 0) (u v : A → Float) (x y : A → ℤ) where
  pub multiplied : Product (record { scale = j; count = n; size = c }) Position u x → Product (record { scale = k; count = n; size = d }) Position v y
      → Product (record { scale = j + k; count = n; size = c * d }) Position (λ p. mul binary64 (u p) (v p)) (λ p. x p *ℤ y p)
  multiplied P Q = record {
    few = P.few;
    small = λ p h. abs-mul-le (x p) (y p) c d (P.small p h) (Q.small p h);
    holds = λ p h. mul_holds j k (x p) (y p) (u p) (v p) (P.holds p h) (Q.holds p h) (le_trans (abs-mul-le (x p) (y p) c d (P.small p h) (Q.small p h)) room) fine;
  }
