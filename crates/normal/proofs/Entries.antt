-- The sum for every two neighbours stands in the sums of a view's pairs of rows: two neighbours may change places, and the view's noise is that of what it shows. Assumes nothing.
use mathlib.Core.Path.{◌≡◌, ◌∙◌}
use mathlib.Core.List.{List}
use mathlib.Core.Logic.{⊎_elim}
use Prim.Native.Nat.{ℕ, ◌+◌, ◌-◌, ◌*◌, ◌/◌, ◌%◌, ◌≤◌, ◌<◌}
use native.Mathlib.Nat.{le_of_lt, lt_of_lt_of_le, mod-lt, min-eq_left, min-eq_right, max-eq_left, max-eq_right}
use native.Mathlib.Omega.{arith}
use lib.Arith.{digits_div, digits_mod}
use lib.IntN.{ℤ}
use Rattle.laws.specs.Sums.{sum_to}
use Rattle.std.proofs.lemmas.Bool.{cases_lt}
use Rattle.frame.specs.declared.view.View.{View}
use Rattle.noise.specs.Noise.{noise_of}
use Rattle.noise.specs.Seen.{Seen, seen, noise_at}
use Rattle.noise.proofs.Seen.{noise-seen}
use Rattle.positions.specs.Counts.{side, factors}
use Rattle.positions.proofs.Counts.{factors-le}
use Rattle.normal.specs.Normal.{Picture, neighbour, entry}
use Rattle.normal.specs.Layout.{ordered_at, sum_at}
use Rattle.normal.specs.Calls.{Window, NeighbourSums}
use Rattle.normal.specs.Starts.{start_sum}
use Rattle.normal.proofs.RowLines.{Plot}
use Rattle.normal.proofs.Held.{StartSums, pair_sum}
use Rattle.normal.proofs.Ordered.{rows-order, row_in, place_in, side-some}
use Rattle.normal.proofs.Windows.{window-swap, window-starts, window-ext, neighbour-row, neighbour-column, InWindow}

-- a neighbour's row, or column, from the window's first
pub back : (lag y u : ℕ) → u + y ≡ lag + y - lag + u
back lag y u = omega arith

module _ (f : Picture) (w h lag : ℕ) {sums : List ℤ} (S : StartSums f (w - 2 * lag) (side lag) (lag + 1) (h - lag) sums) where
  abbrev s : ℕ
  s = side lag

  ordered-entry : (i j : ℕ) → i ≤ j → j < (lag + 1) * s → ordered_at sums lag i j ≡ entry f w h lag i j
  unfolding pair_sum
  ordered-entry i j o l =
      let lo = rows-order (lag + 1) s i j o l in
      let v : i / s + (j / s - i / s) ≡ j / s = omega arith in
      let jn : j % s < s = mod-lt j (side-some (lag + 1) s i j o l) in
      let in-starts : j / s - i / s + i / s < lag + 1 = omega (arith, row_in (lag + 1) s i j o l) in
      S.there (j / s - i / s) (i / s) (i % s * s + j % s) in-starts (place_in (lag + 1) s i j o l)
      ∙ (λ t. sum_to (λ y. start_sum (f (i / s + y)) (f (v t + y)) (w - 2 * lag) (digits_div (i % s) jn t) (digits_mod (i % s) jn t)) (h - lag))
      ∙ window-starts w h lag _ _ (λ y. f (i / s + y)) (λ y. f (j / s + y)) (i % s) (j % s)
      (λ y x t. f (back lag y (i / s) t) (back lag x (i % s) t)) (λ y x t. f (back lag y (j / s) t) (back lag x (j % s) t))

  any_entry : (i j : ℕ) → i < factors lag → j < factors lag → sum_at sums lag i j ≡ entry f w h lag i j
  any_entry i j li lj = ⊎_elim later earlier (cases_lt j i)
    where
      earlier : i ≤ j → sum_at sums lag i j ≡ entry f w h lag i j
      earlier o = (λ t. ordered_at sums lag (min-eq_left o t) (max-eq_right o t)) ∙ ordered-entry i j o (lt_of_lt_of_le lj (factors-le lag))

      later : j < i → sum_at sums lag i j ≡ entry f w h lag i j
      later q =
          let o = le_of_lt q in
          (λ t. ordered_at sums lag (min-eq_right o t) (max-eq_left o t)) ∙ ordered-entry j i o (lt_of_lt_of_le li (factors-le lag)) ∙ window-swap w h lag (neighbour f lag j) (neighbour f lag i)

-- ---- a view
module _ (v : View) (source denoised : List ℕ) {lag : ℕ} (W : Window v.width v.height lag) where
  pub window-plot : Seen v source denoised → Plot v source denoised (v.width - 2 * lag) (side lag)
  window-plot S = record { seen = S; wide = omega (arith, W.columns); some = omega arith }

  -- a neighbour in the view, and in what it shows
  pub neighbour-seen : (i : ℕ) → i < factors lag → (y x : ℕ) → InWindow v.width v.height lag y x
      → neighbour (noise_at source denoised v) lag i y x ≡ neighbour (noise_of (seen v source denoised)) lag i y x
  neighbour-seen i l y x p = noise-seen v source denoised _ _ (neighbour-row W i l y x p) (neighbour-column W i l y x p)

  pub sums-seen : {sums : List ℤ} → StartSums (noise_at source denoised v) (v.width - 2 * lag) (side lag) (lag + 1) (v.height - lag) sums → NeighbourSums (seen v source denoised) lag sums
  sums-seen S =
      record {
        size = S.size;
        entries = λ i j li lj.
            any_entry (noise_at source denoised v) v.width v.height lag S i j li lj
            ∙ window-ext v.width v.height lag _ _ _ _ (neighbour-seen i li) (neighbour-seen j lj);
      }
