-- "k is nearest to 16 × root(s/n), halves up, when 1024×s < (2k+1)²×n and, for k above 0, (2k−1)²×n ≤ 1024×s."
use Rattle.std.specs.Prelude.{ℕ, ◌+◌, ◌-◌, ◌*◌, ◌/◌, ◌<◌, ◌≤◌, List, [], ◌∷◌, ℤ, pos, neg_ℤ, ◌≤ℤ◌, unsigned_abs}
use Rattle.float.specs.Root.{whole_root}

pub record Nearest16 (s n k : ℕ) : Type 0 where
  pub above : 1024 * s < (2 * k + 1) * (2 * k + 1) * n
  pub below : 0 < k → (2 * k - 1) * (2 * k - 1) * n ≤ 1024 * s

-- that number by a whole root, with no bound on s and n
unfoldable pub whole_sigma16 : ℕ → ℕ → ℕ
unfolding whole_root
whole_sigma16 s n = (whole_root (1024 * s / n) + 1) / 2

-- "The exact mean square is the fraction sum of d² / count .. with each d from −256 to 255"
unfoldable pub sum_of_squares : List ℤ → ℕ
sum_of_squares [] = 0
sum_of_squares (d ∷ ds) = unsigned_abs d * unsigned_abs d + sum_of_squares ds

abbrev pub EachSmall : List ℤ → Type 0
EachSmall [] = Unit {0}
EachSmall (d ∷ ds) = (neg_ℤ (pos 256) ≤ℤ d) × (d ≤ℤ pos 255) × EachSmall ds
