-- What a list of coefficients, by any reading, has at a place. Assumes nothing.
use Rattle.std.proofs.Common.{◌≡◌, ℕ, ◌<◌, ◌≤◌, List, length, get_or, ap, arith}
use lib.ListN.{get_or-replicate}
use Rattle.laws.proofs.Table.{get_d_tabulate, length-tabulate}
use Rattle.float.specs.Reading.{Reading}
use Rattle.solve.specs.Elimination.{Row, value}
use Rattle.positions.specs.Counts.{neighbours}
use Rattle.positions.proofs.Counts.{neighbours-le}
use Rattle.fit.specs.Steps.{zeros, quantised}
use Rattle.fit.specs.Answer.{first_of}

module _ {A : Type 0} (R : Reading A) where
  pub zeros-at : (i : ℕ) → i < 25 → get_or (zeros R) i R.unquantised ≡ R.unquantised
  zeros-at i l = get_or-replicate 25 i R.unquantised R.unquantised l

  pub quantised-at : (x : Row) (i : ℕ) → i < 25 → get_or (quantised R x) i R.unquantised ≡ R.of (value x i)
  unfolding quantised
  quantised-at x i l = get_d_tabulate 25 (λ k. R.of (value x k)) i R.unquantised l

  pub first-at : (x : List A) (i : ℕ) → i < 24 → get_or (first_of R x) i R.unquantised ≡ get_or x i R.unquantised
  unfolding first_of
  first-at x i l = get_d_tabulate 24 (λ k. get_or x k R.unquantised) i R.unquantised l

  first-size : (x : List A) → length (first_of R x) ≡ 24
  unfolding first_of
  first-size x = length-tabulate 24 (λ k. get_or x k R.unquantised)

  -- as many as a lag has neighbours
  pub first-room : {lag count : ℕ} → lag ≤ 3 → count ≡ neighbours lag → {x : List A} (y : List A) → x ≡ first_of R y → count ≤ length x
  first-room few e {x} y d = omega (arith, neighbours-le few, ap length d, first-size y)
