-- Between the parts of the root a number stands as m × 2 ^ s: how many digits m has, and how large s is, so that u64 holds what is made of them.
use Rattle.std.specs.Prelude.{ℕ, ◌-◌, ◌^◌, ◌<◌, ◌≤◌}

-- m has 53 digits, the most that an f64 has
pub record FullDigits (m s : ℕ) : Type 0 where
  pub lead : 2 ^ 52 ≤ m
  pub few : m < 2 ^ 53
  pub low : 1022 ≤ s
  pub high : s < 3120

-- m × 4 ^ s, m of 53 or 54 digits: the root has 53
pub record EvenDigits (m s : ℕ) : Type 0 where
  pub lead : 2 ^ 52 ≤ m
  pub few : m < 2 ^ 54 - 1
  pub low : 511 ≤ s
  pub high : s < 1560
