-- "the sums of noise products that the calls make are cases of it": each sum of an accepted fit adds a product of demand 3 over a set of its positions, in the Rust's order. Assumes nothing.
use Rattle.std.proofs.Common.{◌≡◌, ℕ, ◌-◌, ◌<◌, Bool, true, false, cond, ltb, List, arith}
use Rattle.laws.specs.Limits.{plane_limit, sample_limit}
use Rattle.frame.specs.Calls.{fit_refusal}
use Rattle.frame.specs.Planes.{geometry_of}
use Rattle.frame.specs.declared.Shape.{Shape}
use Rattle.noise.specs.Noise.{Pair}
use Rattle.noise.specs.Average.{Luma}
use Rattle.noise.specs.Products.{Factor, average, own}
use Rattle.noise.specs.Claim.{Limited}
use Rattle.noise.specs.Seen.{SeenFrame}
use Rattle.noise.specs.Steps.{InFit}
use Rattle.noise.proofs.Accepted.{fit-seen}
use Rattle.noise.proofs.Over.{seen-samples, tap-over, luma-limited}
use Rattle.noise.proofs.Products.{products-exact}
use Rattle.noise.proofs.Steps.{window-case}
use Rattle.noise.proofs.FitWindow.{fit-positions, own-near}
use Rattle.positions.specs.Counts.{neighbours, factors}
use Rattle.fit.specs.Steps.{neighbour_of, with_tap, fit_f}
use Rattle.fit.specs.Answer.{luma_of, plane_of}
use Rattle.fit.specs.Demand.{FitCase, FitCases, LumaCases, ChromaCases}
use Rattle.fit.proofs.Near.{neighbour-near}

case : (plane : Pair) (lag : ℕ) (u v : Factor) → InFit plane lag u → InFit plane lag v → Limited plane_limit sample_limit u → Limited plane_limit sample_limit v → FitCase plane lag u v
unfolding fit_f
case plane lag u v a b S T = record {
  positions = fit-positions plane lag u v a b;
  added = window-case u v lag plane.height lag (plane.width - lag);
  exact = products-exact u v S T;
}

-- of any factors of a fit
cases : (plane : Pair) (lag : ℕ) (row : ℕ → Factor) (p : ℕ) → ((i : ℕ) → i < p → InFit plane lag (row i) × Limited plane_limit sample_limit (row i)) → Limited plane_limit sample_limit (own plane) → FitCases plane lag row p
cases plane lag row p e S = record {
  cells = λ i j k l. case plane lag (row i) (row j) (e i k).0 (e j l).0 (e i k).1 (e j l).1;
  right = λ i k. case plane lag (row i) (own plane) (e i k).0 (own-near plane lag) (e i k).1 S;
}

luma-cases : (plane : Pair) (lag : ℕ) → Limited plane_limit sample_limit (own plane) → LumaCases plane lag
luma-cases plane lag S = record {
  energy = case plane lag (own plane) (own plane) (own-near plane lag) (own-near plane lag) S S;
  equations = cases plane lag (neighbour_of plane lag) (neighbours lag) (λ i l. let k : i < factors lag = omega arith in (neighbour-near plane lag i k, S)) S;
}

chroma-cases : (luma : Luma) (plane : Pair) (lag : ℕ) → InFit plane lag (average luma) → Limited plane_limit sample_limit (average luma) → Limited plane_limit sample_limit (own plane) → ChromaCases luma plane lag
chroma-cases luma plane lag a L S = cases plane lag (with_tap luma plane lag) (factors lag) (λ i l. go i l (ltb i (neighbours lag))) S
  where
    go : (i : ℕ) → i < factors lag → (b : Bool) → InFit plane lag (cond b (neighbour_of plane lag i) (average luma)) × Limited plane_limit sample_limit (cond b (neighbour_of plane lag i) (average luma))
    go i l true = (neighbour-near plane lag i l, S)
    go i l false = (a, L)

-- ---- of an accepted call
module _ (s : Shape) (y cb cr y-denoised cb-denoised cr-denoised : List ℕ) (lag : ℕ) (passed : fit_refusal s y cb cr y-denoised cb-denoised cr-denoised lag ≡ 0) where
  visible : SeenFrame (geometry_of s) y y-denoised cb cb-denoised cr cr-denoised
  visible = (fit-seen s y cb cr y-denoised cb-denoised cr-denoised lag passed).0

  pub luma-sums : LumaCases (luma_of s y y-denoised).plane lag
  luma-sums = luma-cases _ lag (seen-samples visible.luma)

  pub cb-sums : ChromaCases (luma_of s y y-denoised) (plane_of s cb cb-denoised) lag
  cb-sums = chroma-cases _ _ lag (tap-over visible.over _ _ _ _ lag) (luma-limited visible.over visible.luma) (seen-samples visible.cb)

  pub cr-sums : ChromaCases (luma_of s y y-denoised) (plane_of s cr cr-denoised) lag
  cr-sums = chroma-cases _ _ lag (tap-over visible.over _ _ _ _ lag) (luma-limited visible.over visible.luma) (seen-samples visible.cr)
