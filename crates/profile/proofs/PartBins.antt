-- The bins of a part, from its two lines: the line of shifted noise and the line of bins have the counts and squares of the part's places. Assumes nothing.
use mathlib.Core.Path.{◌≡◌, refl, sym, ap, ◌∙◌, fun_ext}
use mathlib.Core.List.{List}
use Prim.Native.Nat.{ℕ, ◌+◌, ◌-◌, ◌*◌, ◌/◌, ◌^◌, ◌≤◌, ◌<◌}
use native.Mathlib.Nat.{le_trans, le_of_eq, lt_of_lt_of_le}
use lib.Dec.{lit≤}
use lib.IntN.{ℤ, nat_abs}
use lib.ListN.{length, get_or}
use lib.Pow.{pow_mono}
use Rattle.laws.specs.Sums.{sum_n}
use Rattle.laws.specs.Table.{tabulate}
use Rattle.laws.proofs.Table.{length-tabulate, get_d_tabulate, tabulate-same}
use Rattle.noise.specs.Lines.{at, row_noise, Places}
use Rattle.noise.specs.Shift.{shifted}
use Rattle.noise.proofs.LineSums.{entry}
use Rattle.profile.specs.Shifted.{shifted_noise, square_of, square}
use Rattle.profile.specs.Bins.{bin_at}
use Rattle.profile.specs.Parts.{part_limit, shifted_limit, square_limit, coarse_at, Binned, line_count, line_squares}
use Rattle.profile.specs.Runs.{Run, run_count, run_squares, TablesAdded, increased}
use Rattle.profile.proofs.Range.{shifted-range, range_small, bin-shift}
use Rattle.profile.proofs.Binning.{bin-ext}
use Rattle.profile.proofs.Squares.{square_le, line_small}

-- tables with what a run has in each bin added
abbrev pub RunTables : ℕ → ℕ → List ℕ → List ℕ → ℕ → ℕ → ℕ → List ℕ → List ℕ → List ℕ → List ℕ → Type 0
RunTables bits depth source denoised start stride n count squares =
    TablesAdded bits count squares (run_count bits (depth - 8) source start stride n) (run_squares bits (depth - 8) source denoised start stride n)

-- the lines of a part: shifted noise, and bins
pub record LinesOf (source denoised : List ℕ) (start stride shift coarse n : ℕ) (line : List ℤ) (bins : List ℕ) : Type 0 where
  pub line-is : line ≡ tabulate n (λ i. shifted_noise shift source denoised (start + i * stride))
  pub bins-is : bins ≡ tabulate n (coarse_at source start stride coarse)

-- the noise of a run first, then shifted
pub shifted-is : (source denoised : List ℕ) (start stride shift : ℕ) {n m : ℕ} {line own : List ℤ} → own ≡ tabulate m (row_noise source denoised start stride) → line ≡ tabulate n (λ i. shifted shift (at own i)) → m ≡ n
    → line ≡ tabulate n (λ i. shifted_noise shift source denoised (start + i * stride))
shifted-is source denoised start stride shift {n} o l e =
    l ∙ tabulate-same n _ _ (λ i h. ap (shifted shift) (entry n (row_noise source denoised start stride) (o ∙ ap (λ (m : ℕ). tabulate m (row_noise source denoised start stride)) e) i h))

-- and the bins
pub lines_are : (source denoised : List ℕ) (start stride shift coarse : ℕ) {n m k q : ℕ} {line own : List ℤ} {bins : List ℕ} → own ≡ tabulate m (row_noise source denoised start stride) → line ≡ tabulate q (λ i. shifted shift (at own i)) → bins ≡ tabulate k (coarse_at source start stride coarse) → m ≡ n → q ≡ n → k ≡ n
    → LinesOf source denoised start stride shift coarse n line bins
lines_are source denoised start stride shift coarse o l b d e f =
    record {
      line-is = shifted-is source denoised start stride shift o l (d ∙ sym e) ∙ ap (λ (m : ℕ). tabulate m (λ i. shifted_noise shift source denoised (start + i * stride))) e;
      bins-is = b ∙ ap (λ (m : ℕ). tabulate m (coarse_at source start stride coarse)) f;
    }

module _ {depth start stride n : ℕ} {source denoised : List ℕ} (R : Run depth source denoised start stride n) where
  -- what is below 2 ^ depth is below 2 ^ 15
  pub run-places : Places (2 ^ 15) source denoised start stride n
  run-places =
      let most : 2 ^ depth ≤ 2 ^ 15 = le_trans (pow_mono R.most-depth) (lit≤ tt) in
      record {
        same = R.places.same;
        begins = R.places.begins;
        inside = R.places.inside;
        source-low = λ i l. lt_of_lt_of_le (R.places.source-low i l) most;
        denoised-low = λ i l. lt_of_lt_of_le (R.places.denoised-low i l) most;
      }

  pub run-noise : (i : ℕ) → i < n → nat_abs (shifted_noise (depth - 8) source denoised (start + i * stride)) ≤ shifted_limit
  run-noise i l =
      let k = R.places.inside i l in
      range_small _
      (shifted-range depth R.least-depth source denoised (start + i * stride) (R.places.source-low _ k)
      (R.places.denoised-low _ (lt_of_lt_of_le k (le_of_eq R.places.same))))

  pub run-square : (i : ℕ) → i < n → square (depth - 8) source denoised (start + i * stride) ≤ square_limit
  run-square i l = square_le (shifted_noise (depth - 8) source denoised (start + i * stride)) (run-noise i l)

  module _ {bits : ℕ} {line : List ℤ} {bins : List ℕ} (narrow : bits ≤ 8) (L : LinesOf source denoised start stride (depth - 8) (depth - bits) n line bins) where
    pub bins-size : length bins ≡ n
    bins-size = ap length L.bins-is ∙ length-tabulate n _

    pub part-binned : n ≤ part_limit → Binned line bins
    part-binned few =
        record {
          same = ap length L.line-is ∙ length-tabulate n _ ∙ sym bins-size;
          shifted-line = line_small n _ L.line-is few run-noise;
        }

    bin-entry : (i : ℕ) → i < n → get_or bins i 0 ≡ bin_at bits (depth - 8) source (start + i * stride)
    bin-entry i l =
        rw L.bins-is (get_d_tabulate n (λ k. get_or source (start + k * stride) 0 / 2 ^ (depth - bits)) i 0 l)
        ∙ bin-shift depth R.least-depth bits (get_or source (start + i * stride) 0) narrow (R.places.source-low _ (R.places.inside i l))

    counts-are : line_count bins ≡ run_count bits (depth - 8) source start stride n
    unfolding line_count
    counts-are = fun_ext (λ j. ap (sum_n _) bins-size ∙ bin-ext _ _ (λ i. 1) (λ i. 1) n j bin-entry (λ i h. refl))

    squares-are : line_squares line bins ≡ run_squares bits (depth - 8) source denoised start stride n
    unfolding line_squares
    squares-are = fun_ext (λ j. ap (sum_n _) bins-size ∙ bin-ext _ _ _ _ n j bin-entry (λ i h. ap square_of (entry n _ L.line-is i h)))

    -- what the lines add is what the run has
    pub part-added : {count squares count' squares' : List ℕ} → TablesAdded bits count squares (line_count bins) (line_squares line bins) count' squares'
        → RunTables bits depth source denoised start stride n count squares count' squares'
    part-added {count} {squares} A =
        record { counts = A.counts ∙ ap (increased count (2 ^ bits)) counts-are; sums = A.sums ∙ ap (increased squares (2 ^ bits)) squares-are }
