-- The sums of some rows and of one more, added up: each is at most an i64.
use Rattle.std.specs.Prelude.{◌^◌, ◌<◌, nat_abs, ◌+ℤ◌}
use Rattle.noise.specs.declared.sums.PlaneSums.{PlaneSums}
use Rattle.noise.specs.declared.rows.PairSums.{PairSums}

-- of one plane
abbrev pub plane_plus : PlaneSums → PlaneSums → PlaneSums
plane_plus s t = record { squares = s.squares +ℤ t.squares; energy = s.energy +ℤ t.energy; lagged = s.lagged +ℤ t.lagged }

pub record PlaneHeld (s : PlaneSums) : Type 0 where
  pub squares : nat_abs s.squares < 2 ^ 63
  pub energy : nat_abs s.energy < 2 ^ 63
  pub lagged : nat_abs s.lagged < 2 ^ 63

-- of two
abbrev pub pair_plus : PairSums → PairSums → PairSums
pair_plus s t = record { second = s.second +ℤ t.second; cross = s.cross +ℤ t.cross }

pub record PairHeld (s : PairSums) : Type 0 where
  pub second : nat_abs s.second < 2 ^ 63
  pub cross : nat_abs s.cross < 2 ^ 63
