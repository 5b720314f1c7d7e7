-- "The exact sum adds the same products as whole numbers": the products of two lines, by the place at which each line starts.
use Rattle.std.specs.Prelude.{◌≡◌, Bool, true, List, ℕ, ◌+◌, ◌*◌, ◌/◌, ◌%◌, ◌≤◌, ◌<◌, ℤ, ◌*ℤ◌, length, Option, option_map, unwrap_or}
use Rattle.std.specs.Borrow.{Bor}
use Rattle.laws.specs.Limits.{side_limit}
use Rattle.laws.specs.Sums.{total, sum_to}
use Rattle.laws.specs.Table.{tabulate}
use Rattle.noise.specs.Lines.{at, AtMost, noise_limit}

-- the upper of two lines, which is the lower one where no other is given
abbrev pub upper : Option (Bor (List ℤ)) → List ℤ → List ℤ
upper up lo = unwrap_or (option_map (λ l. l.now) up) lo

-- f a × g b + f (a + 1) × g (b + 1) + .., n products
unfoldable pub start_sum : (ℕ → ℤ) → (ℕ → ℤ) → ℕ → ℕ → ℕ → ℤ
unfolding total
start_sum f g n a b = sum_to (λ x. f (a + x) *ℤ g (b + x)) n

-- the largest luma average, in quarters
abbrev pub average_limit : ℕ
average_limit = 4 * noise_limit

-- two lines, whose numbers are at most c and d in size, with n places from a and from b on
pub record Overlap (c d : ℕ) (up lo : List ℤ) (n a b : ℕ) : Type 0 where
  pub up-long : a + n ≤ length up
  pub lo-long : b + n ≤ length lo
  pub few : n ≤ side_limit
  pub up_small : AtMost c up
  pub lo_small : AtMost d lo

-- a line of noise, and one of noise or of luma averages
abbrev pub Noisy : List ℤ → List ℤ → ℕ → ℕ → ℕ → Type 0
Noisy = Overlap noise_limit average_limit

-- such lines, from every two of `side` places on
abbrev pub Strip : List ℤ → List ℤ → ℕ → ℕ → Type 0
Strip up lo n side = (a b : ℕ) → a < side → b < side → Noisy up lo n a b

-- number i of blocks of k: f z c is number c of block z
abbrev pub by_blocks : ℕ → (ℕ → ℕ → ℤ) → ℕ → ℤ
by_blocks k f i = f (i / k) (i % k)

-- f a b for a and b below n, row after row
abbrev pub by_rows : ℕ → (ℕ → ℕ → ℤ) → List ℤ
by_rows n f = tabulate (n * n) (by_blocks n f)

-- a table of sums by start, filled in row order up to starts a and b; `twin` says that the lines are the same
pub record Next (up lo : List ℤ) (twin : Bool) (n side a b : ℕ) (table : List ℤ) : Type 0 where
  pub strip : Strip up lo n side
  pub same : twin ≡ true → up ≡ lo
  pub up_start : a < side
  pub lo-start : b < side
  pub size : length table ≡ side * side
  pub known : (z : ℕ) → z < a * side + b → at table z ≡ by_blocks side (start_sum (at up) (at lo) n) z
