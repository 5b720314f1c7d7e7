-- The sums that a gate works with, of planes p and q of the first and the second frame: squares exactly, the others as the Rust adds them.
use Rattle.std.specs.Prelude.{◌≡◌, ℕ}
use Rattle.noise.specs.Noise.{Pair}
use Rattle.noise.specs.Steps.{dot_f, lag_f}
use Rattle.profile.specs.Steps.{plane_squares}
use Rattle.gate.specs.declared.sums.FirstSums.{FirstSums}
use Rattle.gate.specs.declared.sums.SecondSums.{SecondSums}

pub record FirstSumsOf (p : Pair) (lag shift : ℕ) (s : FirstSums) : Type 0 where
  pub squares : s.squares ≡ plane_squares shift p.source p.denoised
  pub energy : s.energy ≡ dot_f p p
  pub lagged : s.lagged ≡ lag_f p lag

pub record SecondSumsOf (p q : Pair) (s : SecondSums) : Type 0 where
  pub second : s.second ≡ dot_f q q
  pub cross : s.cross ≡ dot_f p q
