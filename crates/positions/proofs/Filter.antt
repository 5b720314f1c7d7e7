-- Coefficient i belongs to neighbour i in the specification's filter (`filter-sum`), wherever all neighbours exist, and in the chroma filter the one after them to the luma tap (`chroma-filter-sum`); and how many coefficients there are. Assumes nothing.
use mathlib.Core.Path.{◌≡◌, refl, sym, ap, ◌∙◌}
use mathlib.Core.Bool.{Bool, true, false, cond}
use mathlib.Core.List.{List, [], ◌∷◌, ◌++◌}
use Prim.Native.Nat.{ℕ, zero, suc, ◌+◌, ◌-◌, ◌*◌, ◌/◌, ◌%◌, ◌≤◌, ◌<◌}
use native.Mathlib.Nat.{add-zero, zero-add}
use native.Mathlib.Omega.{arith}
use borrow.Author.Tests.{lt-ltb}
use lib.Dec.{ltb}
use lib.IntN.{ℤ, pos, ◌+ℤ◌, ◌-ℤ◌, ◌*ℤ◌, +ℤ_idl, +ℤ_idr, +ℤ_assoc}
use lib.ListN.{length, get_or}
use Rattle.laws.specs.Limits.{lag_limit, neighbour_limit, order_limit}
use Rattle.laws.specs.Sums.{total, sum_to}
use Rattle.laws.specs.Table.{tabulate}
use Rattle.laws.proofs.Sums.{sum-ext}
use Rattle.laws.proofs.Table.{length-tabulate, get_d_tabulate}
use Rattle.positions.specs.Counts.{side, neighbours}
use Rattle.positions.specs.Text.{Delta, visits, is_sample, up_to_sample, walk, coefficient_of, filtered, tapped, chroma_filtered, num_pos_luma, num_pos_chroma}
use Rattle.positions.specs.Positions.{positions}
use Rattle.positions.specs.Neighbours.{sample}
use Rattle.positions.proofs.Counts.{neighbours-le}
use Rattle.positions.proofs.Offsets.{offset-add}
use Rattle.positions.proofs.Places.{offset_at}
use Rattle.positions.proofs.Steps.{positions-are}
use Rattle.positions.proofs.Text.{visits-are, is-sample, walk_is}
use Rattle.positions.proofs.Neighbours.{walk-neighbours}

-- ---- place i of the list
pub position_at : (lag i : ℕ) → i < neighbours lag → get_or (positions lag) i sample ≡ (pos (i / (2 * lag + 1)) -ℤ pos lag, pos (i % (2 * lag + 1)) -ℤ pos lag)
position_at lag i h = rw (positions-are lag) (get_d_tabulate (neighbours lag) (offset_at lag) i sample h)

-- how many there are
pub luma-number : (lag : ℕ) → length (walk lag) ≡ num_pos_luma lag
luma-number lag = (walk-neighbours lag).number

module _ (lag y x : ℕ) (rows : lag ≤ y) (columns : lag ≤ x) where
  -- the row and the column of neighbour i, counted from the first ones
  pub row_at : (i : ℕ) → pos y +ℤ (offset_at lag i).0 ≡ pos (y - lag + i / side lag)
  row_at i = offset-add y (i / side lag) lag rows

  pub column-at : (i : ℕ) → pos x +ℤ (offset_at lag i).1 ≡ pos (x - lag + i % side lag)
  column-at i = offset-add x (i % side lag) lag columns

  -- ---- the specification's filter
  module _ (plus128 : ℕ → ℕ) (grain : ℤ → ℤ → ℤ) where
    abbrev along : ℕ → List Delta → ℤ
    along = filtered plus128 grain y x

    filtered-append : (n : ℕ) (ps qs : List Delta) → along n (ps ++ qs) ≡ along n ps +ℤ along (n + length ps) qs
    unfolding filtered
    filtered-append n [] qs = sym (+ℤ_idl (along n qs)) ∙ rw (add-zero n)
    filtered-append n (p ∷ ps) qs =
        let e : n + 1 + length ps ≡ n + suc (length ps) = omega arith in
        rw (filtered-append (n + 1) ps qs, e, +ℤ_assoc)

    filtered-table : (m : ℕ) (g : ℕ → Delta) → along 0 (tabulate m g) ≡ sum_to (λ i. coefficient_of (plus128 i) *ℤ grain (pos y +ℤ (g i).0) (pos x +ℤ (g i).1)) m
    unfolding filtered total
    filtered-table zero g = refl
    filtered-table (suc m) g =
        filtered-append 0 (tabulate m g) (g m ∷ [])
        ∙ rw (filtered-table m g, length-tabulate m g, zero-add m, +ℤ_idr)

    pub filter-sum : filtered plus128 grain y x 0 (walk lag)
        ≡ sum_to (λ i. coefficient_of (plus128 i) *ℤ grain (pos (y - lag + i / side lag)) (pos (x - lag + i % side lag))) (num_pos_luma lag)
    filter-sum =
        ap (along 0) (walk_is lag)
        ∙ filtered-table (neighbours lag) (offset_at lag)
        ∙ sum-ext _ _ (neighbours lag) (λ i l t. coefficient_of (plus128 i) *ℤ grain (row_at i t) (column-at i t))

    -- ---- its chroma filter: what stands before the sample is filtered, and the luma tap has the coefficient after those
    module _ (points : ℕ) (luma : ℤ) where
      abbrev chroma : ℕ → List Delta → ℤ
      chroma = chroma_filtered points plus128 grain luma y x

      up-to-tap : (n : ℕ) (ps : List Delta) (p : Delta) (qs : List Delta) → is_sample p ≡ true
          → chroma n (ps ++ (p ∷ qs)) ≡ along n (up_to_sample (ps ++ (p ∷ qs))) +ℤ tapped points plus128 luma (n + length (up_to_sample (ps ++ (p ∷ qs))))
      unfolding chroma_filtered filtered up_to_sample
      up-to-tap n [] p qs e = rw (e, add-zero n) (sym (+ℤ_idl _))
      up-to-tap n (r ∷ ps) p qs e = go (is_sample r) (up-to-tap (n + 1) ps p qs e)
        where
          rest : List Delta
          rest = ps ++ (p ∷ qs)

          next : ℤ
          next = coefficient_of (plus128 n) *ℤ grain (pos y +ℤ r.0) (pos x +ℤ r.1)

          go : (b : Bool) → chroma (n + 1) rest ≡ along (n + 1) (up_to_sample rest) +ℤ tapped points plus128 luma (n + 1 + length (up_to_sample rest))
              → cond b (tapped points plus128 luma n) (next +ℤ chroma (n + 1) rest)
              ≡ along n (cond b [] (r ∷ up_to_sample rest)) +ℤ tapped points plus128 luma (n + length (cond b [] (r ∷ up_to_sample rest)))
          go true d = rw (add-zero n) (sym (+ℤ_idl (tapped points plus128 luma n)))
          go false d =
              let l : n + 1 + length (up_to_sample rest) ≡ n + suc (length (up_to_sample rest)) = omega arith in
              rw (d, l, +ℤ_assoc)

      pub chroma-filter-sum : chroma_filtered points plus128 grain luma y x 0 (visits lag)
          ≡ sum_to (λ i. coefficient_of (plus128 i) *ℤ grain (pos (y - lag + i / side lag)) (pos (x - lag + i % side lag))) (num_pos_luma lag)
          +ℤ cond (ltb 0 points) (coefficient_of (plus128 (num_pos_luma lag)) *ℤ luma) (pos 0)
      unfolding walk
      chroma-filter-sum = split ∙ (λ t. filter-sum t +ℤ tapped points plus128 luma (tap-at t))
        where
          split : chroma 0 (visits lag) ≡ along 0 (walk lag) +ℤ tapped points plus128 luma (0 + length (walk lag))
          split = rw (visits-are lag) (up-to-tap 0 (tabulate (neighbours lag) (offset_at lag)) _ _ (is-sample lag))

          tap-at : 0 + length (walk lag) ≡ num_pos_luma lag
          tap-at = zero-add (length (walk lag)) ∙ luma-number lag

-- ---- at most how many
pub luma-most : (lag : ℕ) → lag ≤ lag_limit → num_pos_luma lag ≤ neighbour_limit
luma-most lag h = neighbours-le h

-- with the luma tap
pub chroma-number : (points lag : ℕ) → 0 < points → num_pos_chroma points lag ≡ length (walk lag) + 1
chroma-number points lag h = rw (lt-ltb 0 points h, luma-number lag)

pub chroma-most : (points lag : ℕ) → 0 < points → lag ≤ lag_limit → num_pos_chroma points lag ≤ order_limit
chroma-most points lag h l = rw (lt-ltb 0 points h) (omega (arith, neighbours-le l))
