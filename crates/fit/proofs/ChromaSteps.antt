-- The chroma fits, from the tests that their code makes. Assumes nothing.
use Rattle.std.proofs.Common.{◌≡◌, ℕ, ◌*◌, ◌^◌, ◌<◌, ◌≤◌, Bool, true, false, ◌||◌, eqb, leb, List, length, ℤ, nat_abs, sym, refl, ap, ◌∙◌, le_trans, lt_of_le_of_lt, le_of_lt, mul-pos, arith, lit<, lit≤, w64, to_z, of_z, ne_eqb, le-leb, leb-false, true≢false}
use mathlib.Core.Bool.{or-true}
use lib.Ieee.{Float, binary64, div, of_int}
use mir.ValLaws.{to_z-of_z}
use borrow.Author.Tests.{lt-leb}
use Rattle.laws.specs.Constants.{sixteen}
use Rattle.laws.proofs.Constants.{sixteen-value}
use Rattle.laws.specs.Limits.{plane_limit, sample_limit}
use Rattle.laws.specs.Scaled.{of_scaled}
use Rattle.laws.specs.Table.{tabulate}
use Rattle.laws.proofs.Is.{sfits}
use Rattle.float.specs.Reading.{Reading}
use Rattle.frame.specs.declared.view.Geometry.{Geometry}
use Rattle.frame.proofs.Viewed.{viewed-length}
use Rattle.noise.specs.Noise.{Pair, noise_of}
use Rattle.noise.specs.Lines.{at}
use Rattle.noise.specs.Average.{Luma, luma_seen, quarters}
use Rattle.noise.specs.Seen.{seen, Seen, Over}
use Rattle.noise.specs.Products.{own, average}
use Rattle.noise.specs.Claim.{Limited}
use Rattle.noise.specs.Steps.{InFit}
use Rattle.noise.proofs.Divided.{divided}
use Rattle.noise.proofs.LineSums.{entry as line-entry}
use Rattle.noise.proofs.Over.{seen-samples, luma-limited, tap-over}
use Rattle.positions.specs.Counts.{factors}
use Rattle.normal.specs.Normal.{entry, tap_entry, tap_square}
use Rattle.normal.specs.Calls.{Window}
use Rattle.normal.proofs.Bounds.{tap-bound, square-bound}
use Rattle.fit.specs.Steps.{zeros, coefficients_of, too_small, chroma_fit}
use Rattle.fit.specs.Words.{chroma_solved}
use Rattle.fit.specs.Sums.{exact_fit}
use Rattle.fit.proofs.ExactFit.{chroma-exact}

-- a plane that is not too small
pub large : (plane : Pair) (lag : ℕ) → too_small plane lag ≡ false → (2 * lag < plane.width) × (lag < plane.height)
large plane lag = go (leb plane.width (2 * lag)) (leb plane.height lag) refl refl
  where
    go : (a b : Bool) → leb plane.width (2 * lag) ≡ a → leb plane.height lag ≡ b → (a || b) ≡ false → (2 * lag < plane.width) × (lag < plane.height)
    go true b d e f = absurd (true≢false f)
    go false true d e f = absurd (true≢false f)
    go false false d e f = (leb-false plane.width (2 * lag) d, leb-false plane.height lag e)

module _ {A : Type 0} (R : Reading A) (l : Luma) (plane : Pair) (lag : ℕ) where
  pub small : too_small plane lag ≡ true → zeros R ≡ chroma_fit R l plane lag
  unfolding chroma_fit
  small e = rw (e, or-true (eqb (length plane.source) 0))

  pub narrow : plane.width ≤ 2 * lag → zeros R ≡ chroma_fit R l plane lag
  unfolding chroma_fit
  narrow a = rw (le-leb plane.width (2 * lag) a, or-true (eqb (length plane.source) 0))

  pub short : plane.height ≤ lag → zeros R ≡ chroma_fit R l plane lag
  unfolding chroma_fit
  short a = rw (le-leb plane.height lag a, or-true (leb plane.width (2 * lag)), or-true (eqb (length plane.source) 0))

  module _ (size : length plane.source ≡ plane.width * plane.height) (wide : 2 * lag < plane.width) (high : lag < plane.height) where
    -- every test passed
    pub tested : chroma_fit R l plane lag ≡ coefficients_of R (chroma_solved l plane lag)
    unfolding chroma_fit
    tested = rw (ne_eqb (length plane.source) 0 full, lt-leb plane.width (2 * lag) wide, lt-leb plane.height lag high)
      where
        columns : 0 < plane.width
        columns = omega arith

        rows : 0 < plane.height
        rows = omega arith

        full : length plane.source ≡ 0 → ⊥
        full z = let p : 0 < plane.width * plane.height = mul-pos columns rows in omega (arith, size)

    solved : Limited plane_limit sample_limit (own plane) → Limited plane_limit sample_limit (average l) → InFit plane lag (average l)
        → (entries : ℕ → ℕ → ℤ) → ((i j : ℕ) → i < factors lag → j < factors lag → entries i j ≡ entry (noise_of plane) plane.width plane.height lag i j)
        → (taps : ℕ → ℤ) → ((i : ℕ) → i < factors lag → taps i ≡ tap_entry (noise_of plane) (quarters l) plane.width plane.height lag i)
        → ((i : ℕ) → i < factors lag → nat_abs (tap_entry (noise_of plane) (quarters l) plane.width plane.height lag i) ≤ 2 ^ 53)
        → (squares : Float) → squares ≡ of_scaled 4 (tap_square (quarters l) plane.width plane.height lag)
        → (r : List A) → r ≡ exact_fit R entries taps squares lag (factors lag) → r ≡ chroma_fit R l plane lag
    solved S L T entries are taps taken small squares e r d = d ∙ chroma-exact plane lag S entries are l L T R taps squares taken small e ∙ sym tested

-- ---- a component of what a geometry shows, from its exact sums
module _ {g : Geometry} (O : Over g) {y y-denoised source denoised : List ℕ} (L : Seen g.luma y y-denoised) (S : Seen g.chroma source denoised)
    {lag : ℕ} (few : lag ≤ 3) (wide : 2 * lag < g.chroma.width) (high : lag < g.chroma.height) where
  abbrev luma : Luma
  luma = luma_seen g y y-denoised

  abbrev plane : Pair
  plane = seen g.chroma source denoised

  abbrev tapped : ℕ → ℤ
  tapped i = tap_entry (noise_of plane) (quarters luma) plane.width plane.height lag i

  abbrev squared : ℤ
  squared = tap_square (quarters luma) plane.width plane.height lag

  pub held : Window g.chroma.width g.chroma.height lag
  held = record { few = few; columns = le_of_lt wide; rows = le_of_lt high }

  -- the squared averages, turned into an f64 once
  in-sixteenths : (z : ℤ) → z ≡ squared → (x : Float) → x ≡ of_int binary64 (to_z w64 (of_z w64 z)) → div binary64 x sixteen ≡ of_scaled 4 squared
  in-sixteenths z e x d =
      let b = le_trans (square-bound O L S held) (lit≤ tt) in
      ap (λ (t : Float). div binary64 t sixteen) (d ∙ ap (λ (k : ℤ). of_int binary64 (to_z w64 (of_z w64 k))) e ∙ ap (of_int binary64) (to_z-of_z w64 squared (sfits w64 squared (lt_of_le_of_lt b (lit< tt)))))
      ∙ divided 4 squared sixteen b sixteen-value

  pub component-fit : {A : Type 0} (R : Reading A) (z : ℤ) → z ≡ squared → (x : Float) → x ≡ of_int binary64 (to_z w64 (of_z w64 z)) → (taps : List ℤ) → taps ≡ tabulate (factors lag) tapped
      → (r : List A) → r ≡ exact_fit R (entry (noise_of plane) plane.width plane.height lag) (at taps) (div binary64 x sixteen) lag (factors lag) → r ≡ chroma_fit R luma plane lag
  component-fit R z e x d taps t r f =
      solved R luma plane lag (viewed-length g.chroma source) wide high (seen-samples S) (luma-limited O L) (tap-over O y y-denoised source denoised lag)
      (entry (noise_of plane) plane.width plane.height lag) (λ i j a b. refl) (at taps) (line-entry (factors lag) tapped t)
      (λ i k. le_trans (tap-bound O L S held i k) (lit≤ tt)) (div binary64 x sixteen) (in-sixteenths z e x d) r f
