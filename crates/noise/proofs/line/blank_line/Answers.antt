-- `noise::line::blank_line`: every place of a repeated zero is zero, and so is what lies past its end.
use Rattle.std.proofs.Common.{◌≡◌, ℕ, zero, suc, pos, get_or, replicate, refl}
use Rattle.laws.specs.Limits.{side_limit}
use Rattle.noise.proofs.line.blank_line.Goals as goal

zeros : (n i : ℕ) → get_or (replicate n (pos 0)) i (pos 0) ≡ pos 0
zeros zero i = refl
zeros (suc n) zero = refl
zeros (suc n) (suc i) = zeros n i

pub returns : goal.returns
returns c = zeros side_limit
