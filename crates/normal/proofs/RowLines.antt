-- Lines that hold the noise of two rows of a view: the sums of their products by start are those of the rows. Assumes nothing.
use mathlib.Core.Path.{◌≡◌, ap}
use mathlib.Core.List.{List}
use Prim.Native.Nat.{ℕ, ◌+◌, ◌*◌, ◌≤◌, ◌<◌}
use native.Mathlib.Nat.{le_trans, le_of_eq, lt_of_lt_of_le, mul-le-mul_right}
use native.Mathlib.Omega.{arith}
use lib.Dec.{lit≤}
use lib.IntN.{ℤ, nat_abs}
use Rattle.laws.specs.Limits.{side_limit}
use Rattle.laws.specs.Table.{tabulate}
use Rattle.frame.specs.declared.view.View.{View}
use Rattle.noise.specs.Lines.{at, AtMost, noise_limit}
use Rattle.noise.specs.Seen.{noise_at, Seen}
use Rattle.noise.proofs.Lines.{noise-le}
use Rattle.noise.proofs.LineSums.{entry, size}
use Rattle.normal.specs.Normal.{Picture}
use Rattle.normal.specs.Starts.{start_sum, by_rows, Strip}
use Rattle.normal.proofs.Overlaps.{start-ext, start-bound}
use Rattle.normal.proofs.Places.{rows_ext}

-- a line whose numbers are at most m in size
pub at_most : {p : List ℤ} (n m : ℕ) (f : ℕ → ℤ) → p ≡ tabulate n f → ((i : ℕ) → i < n → nat_abs (f i) ≤ m) → AtMost m p
at_most n m f e h i l = let k = lt_of_lt_of_le l (le_of_eq (size n f e)) in le_trans (le_of_eq (ap nat_abs (entry n f e i k))) (h i k)

module _ {v : View} {source denoised : List ℕ} (S : Seen v source denoised) where
  pub noise-small : (r c : ℕ) → r < v.height → c < v.width → nat_abs (noise_at source denoised v r c) ≤ noise_limit
  noise-small r c l m = noise-le (S.rows r l) c m

  -- a line that holds row r
  pub line_small : {p : List ℤ} (r : ℕ) → r < v.height → p ≡ tabulate v.width (noise_at source denoised v r) → AtMost noise_limit p
  line_small r l e = at_most v.width noise_limit (noise_at source denoised v r) e (λ c. noise-small r c l)

-- a view whose rows have n places from each of `side` starts on
pub record Plot (v : View) (source denoised : List ℕ) (n side : ℕ) : Type 0 where
  pub seen : Seen v source denoised
  pub wide : n + side ≤ v.width + 1
  pub some : 1 ≤ side

module _ {v : View} {source denoised : List ℕ} {n side : ℕ} (P : Plot v source denoised n side) where
  abbrev f : Picture
  f = noise_at source denoised v

  within : (a x : ℕ) → a < side → x < n → a + x < v.width
  within a x l m = omega (arith, P.wide)

  few : n ≤ side_limit
  few = omega (arith, P.wide, P.some, P.seen.narrow)

  -- ---- rows u and l
  module _ (u l : ℕ) (hu : u < v.height) (hl : l < v.height) where
    pub rows_bound : (a b : ℕ) → a < side → b < side → nat_abs (start_sum (f u) (f l) n a b) ≤ side_limit * (noise_limit * noise_limit)
    rows_bound a b ha hb =
        le_trans (start-bound (f u) (f l) n a b noise_limit noise_limit (λ x k. noise-small P.seen u (a + x) hu (within a x ha k)) (λ x k. noise-small P.seen l (b + x) hl (within b x hb k)))
        (mul-le-mul_right (noise_limit * noise_limit) few)

    module _ {up lo : List ℤ} (eu : up ≡ tabulate v.width (f u)) (el : lo ≡ tabulate v.width (f l)) where
      pub rows-strip : Strip up lo n side
      rows-strip a b ha hb =
          record {
            up-long = omega (arith, P.wide, size v.width (f u) eu);
            lo-long = omega (arith, P.wide, size v.width (f l) el);
            few = few;
            up_small = line_small P.seen u hu eu;
            lo_small = λ i k. le_trans (line_small P.seen l hl el i k) (lit≤ tt);
          }

      pub rows-table : by_rows side (start_sum (at up) (at lo) n) ≡ by_rows side (start_sum (f u) (f l) n)
      rows-table =
          rows_ext side (start_sum (at up) (at lo) n) (start_sum (f u) (f l) n)
          (λ a b ha hb. start-ext (at up) (at lo) n a b (f u) (f l)
          (λ x k. entry v.width (f u) eu (a + x) (within a x ha k)) (λ x k. entry v.width (f l) el (b + x) (within b x hb k)))
