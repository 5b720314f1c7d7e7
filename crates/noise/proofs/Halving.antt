-- A direction that a format keeps or halves, which is 0 or 1: its rows or columns, and the luma that a chroma place has. By the two cases. Assumes nothing.
use mathlib.Core.Path.{◌≡◌, refl}
use Prim.Native.Nat.{ℕ, zero, suc, ◌+◌, ◌-◌, ◌*◌, ◌^◌, ◌≤◌, ◌<◌, min}
use native.Mathlib.Nat.{lt_of_le_of_lt, min-le_right}
use native.Mathlib.Omega.{arith}
use Rattle.frame.specs.Size.{sampled}

pub data Bit : ℕ → Type 0 where
  kept : Bit 0
  halved : Bit 1

pub bit : (n : ℕ) → n ≤ 1 → Bit n
bit zero h = kept
bit (suc zero) h = halved
bit (suc (suc n)) h = absurd (omega arith)

-- the first luma row of chroma row r
pub first : (sub r : ℕ) → Bit sub → r * (sub + 1) ≡ r * 2 ^ sub
first sub r kept = refl
first sub r halved = refl

-- there are no more of them than of luma
pub sampled-le : (sub n : ℕ) → Bit sub → sampled sub n ≤ n
sampled-le sub n kept = omega arith
sampled-le sub n halved = omega arith

-- a place among n, or on past them, held at the last
pub held_in : (n m : ℕ) → 1 ≤ n → min m (n - 1) < n
held_in n m h = lt_of_le_of_lt (min-le_right m (n - 1)) (omega arith)

-- where there is chroma there is luma
pub some : (sub n i : ℕ) → Bit sub → i < sampled sub n → 1 ≤ n
some sub n i kept h = omega arith
some sub n i halved h = omega arith

-- a chroma row that begins at a luma row is one of the rows
pub within : (sub n i : ℕ) → Bit sub → i * 2 ^ sub < n → i < sampled sub n
within sub n i kept h = omega arith
within sub n i halved h = omega arith
