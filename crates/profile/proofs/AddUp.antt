-- "Bin counts add up to the plane's samples and bin squares to its squares.": for any number of bins and any samples. One law, over what is summed. Assumes nothing.
use mathlib.Core.Path.{◌≡◌, sym, ap, ◌∙◌}
use mathlib.Core.List.{List}
use Prim.Native.Nat.{ℕ, ◌^◌, ◌<◌}
use lib.ListN.{length, get_or}
use Rattle.laws.proofs.Table.{length-tabulate, get_d_tabulate}
use Rattle.float.specs.Steps.{sigma16_of}
use Rattle.laws.specs.Sums.{sum_n, sum_of}
use Rattle.profile.specs.Shifted.{square}
use Rattle.profile.specs.Bins.{bin_at, in_bin}
use Rattle.profile.specs.Steps.{plane_squares, plane_sigma16, totals, profile}
use Rattle.laws.proofs.SumsN.{sum-ext, sum_ones}
use Rattle.profile.proofs.Binning.{bins-add-up}
use Rattle.profile.proofs.StepSums.{plane-sum, bin-lt, binned, totals-are}

binned-sum : (bin g : ℕ → ℕ) (n k : ℕ) {table : List ℕ} → ((i : ℕ) → i < k → bin i < n) → table ≡ binned bin g n k → sum_of table ≡ sum_n g k
unfolding sum_of
binned-sum bin g n k {table} h e =
    rw e
    (ap (λ (m : ℕ). sum_n (λ j. get_or (binned bin g n k) j 0) m) (length-tabulate n (λ j. sum_n (in_bin bin j g) k))
    ∙ sum-ext (λ j. get_or (binned bin g n k) j 0) (λ j. sum_n (in_bin bin j g) k) n (λ j l. get_d_tabulate n (λ j. sum_n (in_bin bin j g) k) j 0 l)
    ∙ bins-add-up bin g k n h)

module _ (bits shift : ℕ) (source denoised : List ℕ) where
  below : (i : ℕ) → i < length source → bin_at bits shift source i < 2 ^ bits
  below i l = bin-lt bits shift (get_or source i 0)

  pub totals-sum : (totals bits shift source denoised).sq_sum ≡ plane_squares shift source denoised
  totals-sum = (totals-are bits shift source denoised).sq-sum ∙ sym (plane-sum shift source denoised)

  pub squares-sum : sum_of (totals bits shift source denoised).bin_sq ≡ plane_squares shift source denoised
  squares-sum =
      binned-sum (bin_at bits shift source) (square shift source denoised) (2 ^ bits) (length source) below (totals-are bits shift source denoised).bin-sq
      ∙ sym (plane-sum shift source denoised)

  module _ (least : ℕ) where
    pub counts-add-up : sum_of (profile bits least shift source denoised).count ≡ length source
    unfolding profile
    counts-add-up =
        binned-sum (bin_at bits shift source) (λ i. 1) (2 ^ bits) (length source) below (totals-are bits shift source denoised).bin-n ∙ sum_ones (length source)

    pub squares-add-up : sum_of (profile bits least shift source denoised).squares ≡ plane_squares shift source denoised
    unfolding profile
    squares-add-up = squares-sum

    -- a profile's figure for the plane is `plane_sigma16`
    pub profile-plane : (profile bits least shift source denoised).sigma16 ≡ plane_sigma16 shift source denoised
    unfolding profile plane_sigma16
    profile-plane = ap (λ (s : ℕ). sigma16_of s (length source)) totals-sum
