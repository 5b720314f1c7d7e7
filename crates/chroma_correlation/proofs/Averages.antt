-- The two f64 sums of the chroma correlation are the luma tap's exact sums at lag 0, in sixteenths and in quarters, turned into an f64 once: at lag 0 the window is the whole plane and the only factor is the sample. So the correlation is the tap of the exact sums. Assumes nothing.
use Rattle.std.proofs.Common.{◌≡◌, ℕ, ◌*◌, ◌^◌, ◌<◌, ◌≤◌, Bool, true, false, eqb, List, length, get_or, ℤ, pos, negsuc, ◌*ℤ◌, nat_abs, sym, refl, ap, ◌∙◌, zero-le, le_trans, le_of_eq, lt_of_lt_of_le, not-suc-le-zero, lt_of_le_of_lt, mul_comm, le_antisymm, arith, lit<, lit≤, w64, to_z, of_z, eqb-true}
use lib.Arith.{digits_lt}
use lib.Ieee.{binary64, div, le, of_int, round}
use mir.ValLaws.{to_z-of_z}
use Rattle.laws.specs.Constants.{four, sixteen}
use Rattle.laws.proofs.Sums.{spans-zero}
use Rattle.laws.proofs.Constants.{four-value, sixteen-value}
use Rattle.laws.specs.Limits.{plane_limit, sample_limit}
use Rattle.laws.specs.Scaled.{of_scaled}
use Rattle.laws.specs.Table.{tabulate}
use Rattle.laws.proofs.Is.{sfits}
use Rattle.laws.proofs.Table.{get_d_tabulate}
use Rattle.frame.specs.declared.view.Geometry.{Geometry}
use Rattle.frame.proofs.Viewed.{viewed-length}
use Rattle.float.specs.Reading.{Reading}
use Rattle.noise.specs.Noise.{Pair, noise_of}
use Rattle.noise.specs.Seen.{Seen, Over, seen, sum_over}
use Rattle.noise.specs.Average.{Luma, luma_seen, quarters}
use Rattle.noise.specs.Products.{average}
use Rattle.noise.proofs.Divided.{divided}
use Rattle.noise.proofs.FitWindow.{squares-sum, products-sum}
use Rattle.noise.proofs.Over.{seen-samples, luma-limited, tap-over}
use Rattle.noise.proofs.Products.{frame-held}
use Rattle.positions.specs.Counts.{factors}
use Rattle.normal.specs.Normal.{Picture, window_sum, tap_entry, tap_square}
use Rattle.normal.specs.Calls.{Window}
use Rattle.normal.proofs.Bounds.{tap-bound, square-bound}
use Rattle.normal.proofs.Windows.{InWindow, sample-last, window-bound, window-ext, window-swap}
use Rattle.chroma_correlation.specs.Steps.{squares_f, products_f, corr}
use Rattle.chroma_correlation.specs.Exact.{tap_of}

-- a sum that an i64 holds, in a local
held : (z : ℤ) → nat_abs z ≤ 2 ^ 53 → to_z w64 (of_z w64 z) ≡ z
held z b = to_z-of_z w64 z (sfits w64 z (lt_of_le_of_lt b (lit< tt)))

pub in-sixteenths : (z : ℤ) → nat_abs z ≤ 2 ^ 53 → div binary64 (of_int binary64 (to_z w64 (of_z w64 z))) sixteen ≡ of_scaled 4 z
in-sixteenths z b = ap (λ (x : ℤ). div binary64 (of_int binary64 x) sixteen) (held z b) ∙ divided 4 z sixteen b sixteen-value

pub in-quarters : (z : ℤ) → nat_abs z ≤ 2 ^ 53 → div binary64 (of_int binary64 (to_z w64 (of_z w64 z))) four ≡ of_scaled 2 z
in-quarters z b = ap (λ (x : ℤ). div binary64 (of_int binary64 x) four) (held z b) ∙ divided 2 z four b four-value

nothing : (z : ℤ) → nat_abs z ≤ 0 → z ≡ pos 0
nothing (pos n) h = ap pos (le_antisymm h zero-le)
nothing (negsuc n) h = absurd (not-suc-le-zero h)

-- no squares are at most 1e-9
flat : {A : Type 0} (R : Reading A) (products : ℤ) → tap_of R products (pos 0) ≡ R.unquantised
unfolding tap_of of_scaled le round
flat R products = refl

-- ---- lag 0
pub window-0 : (w h : ℕ) → Window w h 0
window-0 w h = record { few = zero-le; columns = zero-le; rows = zero-le }

module _ (w h : ℕ) (f q : Picture) where
  -- the window is the plane
  window-whole : window_sum w h 0 f q ≡ sum_over h w (λ r c. f r c *ℤ q r c)
  unfolding window_sum
  window-whole = spans-zero (λ r c. f r c *ℤ q r c) h w

  -- the only factor is the sample
  sample-tap : tap_entry f q w h 0 0 ≡ window_sum w h 0 q f
  sample-tap = window-ext w h 0 _ f q q (λ r c p. sample-last f 0 r c zero-le zero-le) (λ r c p. refl) ∙ window-swap w h 0 f q

  -- an empty plane has no sum
  window-empty : w * h ≡ 0 → window_sum w h 0 f q ≡ pos 0
  window-empty e = nothing _ (omega (arith, window-bound w h 0 f q 0 0 (λ r c p. absurd (no_place r c p)) (λ r c p. absurd (no_place r c p))))
    where
      no_place : (r c : ℕ) → InWindow w h 0 r c → ⊥
      no_place r c p =
          let l : c < w = omega (arith, p.right) in
          not-suc-le-zero (lt_of_lt_of_le (digits_lt p.below l) (le_of_eq (mul_comm h w ∙ e)))

-- ---- the sums of a component
module _ {g : Geometry} (O : Over g) {y y-denoised : List ℕ} (L : Seen g.luma y y-denoised) {source denoised : List ℕ} (S : Seen g.chroma source denoised) where
  abbrev luma : Luma
  luma = luma_seen g y y-denoised

  abbrev chroma : Pair
  chroma = seen g.chroma source denoised

  abbrev entries : ℕ → ℤ
  entries = tap_entry (noise_of chroma) (quarters luma) g.chroma.width g.chroma.height 0

  abbrev products : ℤ
  products = entries 0

  abbrev squares : ℤ
  squares = tap_square (quarters luma) g.chroma.width g.chroma.height 0

  pub products-small : nat_abs products ≤ 2 ^ 53
  products-small = le_trans (tap-bound O L S (window-0 _ _) 0 (lit< tt)) (lit≤ tt)

  pub squares-small : nat_abs squares ≤ 2 ^ 53
  squares-small = le_trans (square-bound O L S (window-0 _ _)) (lit≤ tt)

  squares-exact : squares_f luma chroma ≡ of_scaled 4 squares
  unfolding squares_f
  squares-exact =
      squares-sum plane_limit sample_limit luma chroma (tap-over O y y-denoised source denoised 0) (frame-held (average luma) (average luma)) (luma-limited O L)
      ∙ ap (of_scaled 4) (sym (window-whole _ _ (quarters luma) (quarters luma)))

  products-exact : products_f luma chroma ≡ of_scaled 2 products
  unfolding products_f
  products-exact =
      products-sum plane_limit sample_limit luma chroma (tap-over O y y-denoised source denoised 0) (frame-held (average luma) (average luma)) (luma-limited O L) (seen-samples S)
      ∙ ap (of_scaled 2) (sym (sample-tap _ _ (noise_of chroma) (quarters luma) ∙ window-whole _ _ (quarters luma) (noise_of chroma)))

  tap-when : {A : Type 0} (R : Reading A) (b : Bool) → eqb (length chroma.source) 0 ≡ b → tap_of R products squares ≡ corr R luma chroma
  unfolding corr tap_of
  tap-when R true t =
      ap (λ (z : ℤ). tap_of R products z) (window-empty _ _ (quarters luma) (quarters luma) (sym (viewed-length g.chroma source) ∙ eqb-true (length chroma.source) 0 t))
      ∙ flat R products
      ∙ rw t
  tap-when R false t = rw (t, squares-exact, products-exact)

  pub tap-is : {A : Type 0} (R : Reading A) → tap_of R products squares ≡ corr R luma chroma
  tap-is R = tap-when R (eqb (length chroma.source) 0) refl

  -- ---- the sums, out of what `normal::tap_sums` leaves: a list of one sum, and the squares
  module _ {taps : List ℤ} {sixteenths : ℤ} (taps-are : taps ≡ tabulate (factors 0) entries) (squares-are : sixteenths ≡ squares) where
    products-held : to_z w64 (of_z w64 (get_or taps 0 (pos 0))) ≡ products
    products-held = ap (λ (z : ℤ). to_z w64 (of_z w64 z)) (ap (λ (l : List ℤ). get_or l 0 (pos 0)) taps-are ∙ get_d_tabulate (factors 0) entries 0 (pos 0) (lit< tt)) ∙ held products products-small

    squares-held : to_z w64 (of_z w64 sixteenths) ≡ squares
    squares-held = ap (λ (z : ℤ). to_z w64 (of_z w64 z)) squares-are ∙ held squares squares-small

    pub sums-small : (nat_abs (to_z w64 (of_z w64 (get_or taps 0 (pos 0)))) ≤ 2 ^ 53) × (nat_abs (to_z w64 (of_z w64 sixteenths)) ≤ 2 ^ 53)
    sums-small = (le_trans (le_of_eq (ap nat_abs products-held)) products-small, le_trans (le_of_eq (ap nat_abs squares-held)) squares-small)

    pub tap-held : {A : Type 0} (R : Reading A) → tap_of R (to_z w64 (of_z w64 (get_or taps 0 (pos 0)))) (to_z w64 (of_z w64 sixteenths)) ≡ corr R luma chroma
    tap-held R = (λ i. tap_of R (products-held i) (squares-held i)) ∙ tap-is R
