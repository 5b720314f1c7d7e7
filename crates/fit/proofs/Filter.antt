-- Coefficient i belongs to neighbour i of the normal equations: in the Rust's row of noises (`row_is`) as in the specification's filter (`filter-is`), wherever all neighbours exist. The last coefficient of chroma belongs to the luma tap, in the fit (`tap-last`) as in the chroma filter (`chroma-filter-is`). Assumes nothing.
use Rattle.std.proofs.Common.{◌≡◌, ℕ, ◌+◌, ◌-◌, ◌/◌, ◌%◌, ◌<◌, ◌≤◌, cond, ltb, map, ℤ, pos, ◌+ℤ◌, ◌*ℤ◌, nat_abs, ap, ◌∙◌, le_refl, le-ltb, lt-ltb}
use Rattle.laws.specs.Sums.{sum_to}
use Rattle.laws.specs.Table.{tabulate}
use Rattle.laws.proofs.Sums.{sum_more, sum-ext}
use Rattle.laws.proofs.Table.{map-tabulate, tabulate-same}
use Rattle.positions.specs.Counts.{side, neighbours}
use Rattle.positions.specs.Text.{visits, walk, coefficient_of, filtered, chroma_filtered, num_pos_luma, num_pos_chroma}
use Rattle.positions.specs.Positions.{positions}
use Rattle.positions.proofs.Places.{offset_at}
use Rattle.positions.proofs.Steps.{positions-are}
use Rattle.positions.proofs.Filter.{row_at, column-at, filter-sum, chroma-filter-sum}
use Rattle.noise.specs.Noise.{Pair}
use Rattle.noise.specs.Average.{Luma}
use Rattle.noise.specs.Products.{average}
use Rattle.normal.specs.Normal.{Picture, neighbour}
use Rattle.fit.specs.Offsets.{offset_by}
use Rattle.fit.specs.Steps.{with_tap}

module _ (lag y x : ℕ) (rows : lag ≤ y) (columns : lag ≤ x) (f : Picture) where
  pub row_is : map (λ p. offset_by f p y x) (positions lag) ≡ tabulate (neighbours lag) (λ i. neighbour f lag i y x)
  row_is =
      rw (positions-are lag, map-tabulate)
      (tabulate-same (neighbours lag) (λ i. offset_by f (offset_at lag i) y x) (λ i. neighbour f lag i y x)
      (λ i l t. f (nat_abs (row_at lag y x rows columns i t)) (nat_abs (column-at lag y x rows columns i t))))

  pub filter-is : (plus128 : ℕ → ℕ) (grain : ℤ → ℤ → ℤ) → ((r q : ℕ) → grain (pos r) (pos q) ≡ f r q)
      → filtered plus128 grain y x 0 (walk lag) ≡ sum_to (λ i. coefficient_of (plus128 i) *ℤ neighbour f lag i y x) (num_pos_luma lag)
  filter-is plus128 grain same =
      filter-sum lag y x rows columns plus128 grain
      ∙ sum-ext _ _ (neighbours lag) (λ i l. ap (λ (z : ℤ). coefficient_of (plus128 i) *ℤ z) (same (y - lag + i / side lag) (x - lag + i % side lag)))

  pub chroma-filter-is : (points : ℕ) → 0 < points → (plus128 : ℕ → ℕ) (grain : ℤ → ℤ → ℤ) → ((r q : ℕ) → grain (pos r) (pos q) ≡ f r q) → (luma : ℤ)
      → chroma_filtered points plus128 grain luma y x 0 (visits lag)
      ≡ sum_to (λ i. coefficient_of (plus128 i) *ℤ cond (ltb i (neighbours lag)) (neighbour f lag i y x) luma) (num_pos_chroma points lag)
  chroma-filter-is points some plus128 grain same luma =
      chroma-filter-sum lag y x rows columns plus128 grain points luma
      ∙ rw (lt-ltb 0 points some)
      ((λ t. neighbours-first t +ℤ tap t) ∙ sum_more (λ i. coefficient_of (plus128 i) *ℤ cond (ltb i (neighbours lag)) (neighbour f lag i y x) luma) (neighbours lag))
    where
      neighbours-first : sum_to (λ i. coefficient_of (plus128 i) *ℤ grain (pos (y - lag + i / side lag)) (pos (x - lag + i % side lag))) (neighbours lag)
          ≡ sum_to (λ i. coefficient_of (plus128 i) *ℤ cond (ltb i (neighbours lag)) (neighbour f lag i y x) luma) (neighbours lag)
      neighbours-first =
          sum-ext _ _ (neighbours lag)
          (λ i l. rw (lt-ltb i (neighbours lag) l) (ap (λ (z : ℤ). coefficient_of (plus128 i) *ℤ z) (same (y - lag + i / side lag) (x - lag + i % side lag))))

      tap : coefficient_of (plus128 (neighbours lag)) *ℤ luma
          ≡ coefficient_of (plus128 (neighbours lag)) *ℤ cond (ltb (neighbours lag) (neighbours lag)) (neighbour f lag (neighbours lag) y x) luma
      tap = rw (le-ltb (neighbours lag) (neighbours lag) (le_refl (neighbours lag)))

pub tap-last : (luma : Luma) (plane : Pair) (lag : ℕ) → with_tap luma plane lag (neighbours lag) ≡ average luma
tap-last luma plane lag = rw (le-ltb (neighbours lag) (neighbours lag) (le_refl (neighbours lag)))
