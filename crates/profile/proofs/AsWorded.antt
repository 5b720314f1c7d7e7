-- The Rust's steps are what the scope says of a profile and of a plane's sigma16, for any number of bins: of samples below 2 ^ depth, no more than a plane has. Assumes nothing.
use mathlib.Core.Path.{◌≡◌, ◌∙◌}
use mathlib.Core.List.{List}
use Prim.Native.Nat.{ℕ, ◌-◌, ◌^◌, ◌<◌}
use native.Mathlib.Nat.{le_trans}
use native.Mathlib.Omega.{arith}
use lib.ListN.{length, get_or}
use borrow.Author.Tests.{le-leb, lt-leb}
use Rattle.laws.proofs.Table.{get_d_tabulate}
use Rattle.float.specs.Sigma.{Nearest16}
use Rattle.float.specs.Steps.{sigma16_of}
use Rattle.float.proofs.NearestSigma.{sigma16-nearest}
use Rattle.laws.specs.Sums.{sum_n}
use Rattle.profile.specs.Shifted.{square}
use Rattle.profile.specs.Bins.{bin_at, in_bin, count_of_bin, squares_of_bin}
use Rattle.profile.specs.Steps.{plane_squares, plane_sigma16, totals, least_count, sigma_of_bin, profile}
use Rattle.profile.specs.Words.{LowSamples, PlaneInWords, InWords}
use Rattle.profile.specs.Parts.{square_limit}
use Rattle.profile.proofs.Binning.{count-le, bin-le}
use Rattle.profile.proofs.StepSums.{plane-sum}
use Rattle.profile.proofs.AddUp.{counts-add-up, squares-add-up, profile-plane}
use Rattle.profile.proofs.Figures.{totals-count, totals-squares, ranges, square-small, plane-small}

module _ {depth : ℕ} {source denoised : List ℕ} (L : LowSamples depth source denoised) where
  abbrev shift : ℕ
  shift = depth - 8

  abbrev n : ℕ
  n = length source

  abbrev sq : ℕ → ℕ
  sq = square shift source denoised

  pub plane-in-words : PlaneInWords shift source denoised (plane_sigma16 shift source denoised)
  unfolding plane_sigma16
  plane-in-words =
      record {
        range = ranges L;
        nearest = λ h. rw (← plane-sum shift source denoised) (sigma16-nearest (plane_squares shift source denoised) n h L.few (plane-small L));
      }

  module _ (bits : ℕ) where
    count_at : (j : ℕ) → j < 2 ^ bits → get_or (totals bits shift source denoised).bin_n j 0 ≡ count_of_bin bits shift source j
    count_at j l = rw (totals-count bits shift source denoised) (get_d_tabulate (2 ^ bits) _ j 0 l)

    squares-at : (j : ℕ) → j < 2 ^ bits → get_or (totals bits shift source denoised).bin_sq j 0 ≡ squares_of_bin bits shift source denoised j
    squares-at j l = rw (totals-squares bits shift source denoised) (get_d_tabulate (2 ^ bits) _ j 0 l)

    -- of a bin that is not empty
    bin-nearest : (j : ℕ) → 0 < count_of_bin bits shift source j
        → Nearest16 (squares_of_bin bits shift source denoised j) (count_of_bin bits shift source j) (sigma16_of (squares_of_bin bits shift source denoised j) (count_of_bin bits shift source j))
    unfolding count_of_bin squares_of_bin
    bin-nearest j h =
        let bin = bin_at bits shift source in
        sigma16-nearest (sum_n (in_bin bin j sq) n) (sum_n (in_bin bin j (λ i. 1)) n) h (le_trans (count-le bin n j) L.few)
        (bin-le bin sq n j square_limit (square-small L))

    pub in_words : (least : ℕ) → 0 < least → InWords bits least shift source denoised (profile bits least shift source denoised)
    unfolding profile sigma_of_bin
    in_words least some =
        let t = totals bits shift source denoised in
        let enough = least_count least n in
        let plane = sigma16_of t.sq_sum n in
        let bin : ℕ → ℕ = λ j. sigma_of_bin enough plane (get_or t.bin_sq j 0) (get_or t.bin_n j 0) in
        record {
          plane = rw (profile-plane bits shift source denoised least) plane-in-words;
          count-is = count_at;
          squares-is = squares-at;
          counts-add-up = counts-add-up bits shift source denoised least;
          squares-add-up = squares-add-up bits shift source denoised least ∙ plane-sum shift source denoised;
          own = λ j l h.
              rw (get_d_tabulate (2 ^ bits) bin j 0 l, le-leb enough (get_or t.bin_n j 0) h, count_at j l, squares-at j l)
              (bin-nearest j (omega (arith, count_at j l)));
          other = λ j l h. rw (get_d_tabulate (2 ^ bits) bin j 0 l, lt-leb enough (get_or t.bin_n j 0) h);
        }
