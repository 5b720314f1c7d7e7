-- "Neighbour order is 7.18.3.3's: rows −lag to 0, columns −lag to lag, ending before the sample itself; 2×lag×(lag+1) of them." What these words say of a list, for any lag.
use Rattle.std.specs.Prelude.{◌≡◌, List, ◌⊎◌, ℕ, ◌+◌, ◌*◌, ◌<◌, pos, neg_ℤ, length, get_or, ◌<ℤ◌, ◌≤ℤ◌}
use Rattle.laws.specs.Sets.{In, NoDup}
use Rattle.positions.specs.Positions.{Offset}

abbrev pub sample : Offset
sample = (pos 0, pos 0)

-- rows −lag to 0, columns −lag to lag
pub record Around (lag : ℕ) (p : Offset) : Type 0 where
  pub top : neg_ℤ (pos lag) ≤ℤ p.0
  pub bottom : p.0 ≤ℤ pos 0
  pub left : neg_ℤ (pos lag) ≤ℤ p.1
  pub right : p.1 ≤ℤ pos lag

-- an earlier row, or an earlier column of the row
abbrev pub Before : Offset → Offset → Type 0
Before p q = (p.0 <ℤ q.0) ⊎ ((p.0 ≡ q.0) × (p.1 <ℤ q.1))

pub record Neighbours (lag : ℕ) (ps : List Offset) : Type 0 where
  pub number : length ps ≡ 2 * lag * (lag + 1)
  pub once : NoDup ps
  pub inside : (p : Offset) → In p ps → Around lag p × Before p sample
  pub all : (p : Offset) → Around lag p → Before p sample → In p ps
  pub order : (i j : ℕ) → i < j → j < length ps → Before (get_or ps i sample) (get_or ps j sample)
