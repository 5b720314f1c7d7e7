-- "Luma is lent Y of both frames and of their denoised copies, and says no, in this order: sigma16 of the first below 16; its energy 0; row correlation at lag 1 of magnitude 0.75 or more; the second's energy 0. Then yes exactly if |cross/root(e0×e1)| < 0.4 in rounded f64.
-- Chroma is lent one component .. and handed a sigma16: below 8 is no, an empty plane is no, then row correlation, then the first's energy 0, then the second's, then the same test."
-- The steps of `film_grain_probe` and `chroma_noise_gate`: they end at the first test that fails.
use Rattle.std.specs.Prelude.{ℕ, ◌-◌, ◌*◌, Bool, cond, Result, Ok, Err, ◌==◌, nat_lt, Float}
use Rattle.std.specs.Result.{is_ok}
use Rattle.std.specs.Float.{binary64}
use Rattle.std.specs.Float.Ieee.{div, mul, le, lt}
use Rattle.laws.specs.Constants.{three_quarters, two_fifths}
use Rattle.laws.specs.Scaled.{plus_zero}
use Rattle.float.specs.Magnitude.{magnitude_of}
use Rattle.float.specs.Root.{root}
use Rattle.noise.specs.Noise.{Pair}
use Rattle.noise.specs.Products.{own, onward}
use Rattle.noise.specs.Steps.{window_f, dot_f}
use Rattle.profile.specs.Steps.{plane_sigma16}
use Rattle.gate.specs.RowCorrelation.{row_correlation}
use Rattle.gate.specs.declared.finding.Failure.{Failure}
use Rattle.gate.specs.declared.finding.Failure.TheVariants.{LowSigma, EmptyPlane, NoEnergyFirst, RowCorrelated, NoEnergySecond, TimeCorrelated}

-- what a gate finds: that every test passed, or the first that failed
abbrev pub Finding : Type 0
Finding = Result Unit Failure

abbrev pub Passed : Finding
Passed = Ok tt

-- `(cross / (e0 * e1).sqrt()).abs() < 0.4`
unfoldable pub time_test : Float → Float → Float → Bool
time_test cross e₀ e₁ = lt (magnitude_of (div binary64 cross (root (mul binary64 e₀ e₁)))) two_fifths

-- `lag / e0` of `film_grain_probe`: rows 0..h and columns 0..w - 1
unfoldable pub luma_row : Pair → Float → Float
luma_row p e₀ = div binary64 (window_f (own p) (onward p 1) 0 p.height 0 (p.width - 1)) e₀

-- ---- the tests, by how `dot` sums
-- of two planes, `e0`, `e1` and `cross`
unfoldable pub temporal_by : (Pair → Pair → Float) → Pair → Pair → Finding
temporal_by dot p q = cond (time_test (dot p q) (dot p p) (dot q q)) Passed (Err TimeCorrelated)

-- the second's energy 0, then the test
abbrev pub second_by : (Pair → Pair → Float) → Pair → Pair → Finding
second_by dot p q = cond (le (dot q q) plus_zero) (Err NoEnergySecond) (temporal_by dot p q)

-- the luma gate, from the sigma16 of the first frame's Y
unfoldable pub luma_by : (Pair → Pair → Float) → ℕ → Pair → Pair → Finding
luma_by dot sigma16 p q =
    cond (nat_lt sigma16 16) (Err LowSigma)
    (cond (le (dot p p) plus_zero) (Err NoEnergyFirst)
    (cond (le three_quarters (magnitude_of (luma_row p (dot p p)))) (Err RowCorrelated)
    (second_by dot p q)))

-- the chroma gate
unfoldable pub chroma_by : (Pair → Pair → Float) → ℕ → Pair → Pair → Finding
chroma_by dot sigma16 p q =
    cond (nat_lt sigma16 8) (Err LowSigma)
    (cond (p.width * p.height == 0) (Err EmptyPlane)
    (cond (le three_quarters (magnitude_of (row_correlation p 1))) (Err RowCorrelated)
    (cond (le (dot p p) plus_zero) (Err NoEnergyFirst)
    (second_by dot p q))))

-- ---- what the gates find, with `dot` from plus zero
abbrev pub second_finding : Pair → Pair → Finding
second_finding p q = second_by dot_f p q

abbrev pub luma_finding : ℕ → Pair → Pair → Finding
luma_finding sigma16 p q = luma_by dot_f sigma16 p q

abbrev pub chroma_finding : ℕ → Pair → Pair → Finding
chroma_finding sigma16 p q = chroma_by dot_f sigma16 p q

-- `est.sigma16` of the first frame, its noise shifted: of the profile that `noise_estimate` works, the figure of the plane
abbrev pub luma_sigma16 : ℕ → Pair → ℕ
luma_sigma16 shift p = plane_sigma16 shift p.source p.denoised

abbrev pub luma_of : ℕ → Pair → Pair → Finding
luma_of shift p q = luma_finding (luma_sigma16 shift p) p q

-- yes
abbrev pub is_passed : Finding → Bool
is_passed f = is_ok f
