-- Runs join: a run and the one after it are a run, and the rows of a view are what it shows. By the laws of sums. Assumes nothing.
use mathlib.Core.Path.{◌≡◌, refl, sym, ap, ◌∙◌}
use mathlib.Core.Bool.{cond}
use mathlib.Core.List.{List}
use Prim.Native.Nat.{ℕ, ◌+◌, ◌-◌, ◌*◌, ◌^◌, ◌≤◌, ◌<◌}
use native.Mathlib.Nat.{le_trans, le_of_eq, lt_of_lt_of_le, mul-le-mul, mul_comm, mul_assoc, mul-suc, add_assoc, add-mul}
use native.Mathlib.Omega.{arith}
use lib.Dec.{eqb}
use lib.IntN.{pos, ◌-ℤ◌}
use lib.ListN.{length, length-replicate}
use Rattle.laws.specs.Limits.{plane_limit}
use Rattle.laws.specs.Sums.{total, sum_n}
use Rattle.laws.proofs.SumsN.{sum-ext, sum-split, sum_rows, sum_bound, sum_more}
use Rattle.laws.specs.Table.{tabulate}
use Rattle.laws.proofs.Table.{get_d_tabulate, tabulate-same}
use Rattle.frame.specs.View.{place_at, viewed}
use Rattle.frame.specs.declared.view.View.{View}
use Rattle.frame.proofs.Viewed.{viewed-length, viewed-at}
use Rattle.noise.specs.Shift.{shifted}
use Rattle.profile.specs.Shifted.{square_of, square}
use Rattle.profile.specs.Bins.{bin_of, bin_at, in_bin, count_of_bin, squares_of_bin}
use Rattle.profile.specs.Words.{LowSamples}
use Rattle.profile.specs.Parts.{square_limit}
use Rattle.profile.specs.Runs.{SeenAt, Run, Tables, TablesAdded, run_sum, run_count, run_squares, Blank}
use Rattle.profile.proofs.Binning.{count-le, bin-le}
use Rattle.profile.proofs.PartBins.{RunTables, run-square}
use Rattle.profile.proofs.Adding.{added_none, added_more, room, blank-tables, added-blank}

-- ---- a run and the one after it
after : (start stride a i : ℕ) → start + a * stride + i * stride ≡ start + (a + i) * stride
after start stride a i = add_assoc start (a * stride) (i * stride) ∙ ap (λ (k : ℕ). start + k) (sym (add-mul a i stride))

run_more : (f : ℕ → ℕ) (start stride a m : ℕ) → run_sum f start stride a + run_sum f (start + a * stride) stride m ≡ run_sum f start stride (a + m)
run_more f start stride a m =
    ap (λ (k : ℕ). run_sum f start stride a + k) (sum-ext _ (λ i. f (start + (a + i) * stride)) m (λ i l. ap f (after start stride a i)))
    ∙ sym (sum-split (λ i. f (start + i * stride)) a m)

-- what n places have in a bin: no more than n, and n of the largest squares
count_small : (bits shift : ℕ) (source : List ℕ) (start stride n j : ℕ) → run_count bits shift source start stride n j ≤ n
count_small bits shift source start stride n j = count-le (λ i. bin_at bits shift source (start + i * stride)) n j

module _ {depth start stride w : ℕ} {source denoised : List ℕ} (R : Run depth source denoised start stride w) where
  -- m places of it, after the first k
  pub part-run : (k m : ℕ) → k < w → k + m ≤ w → Run depth source denoised (start + k * stride) stride m
  part-run k m h l =
      record {
        least-depth = R.least-depth;
        most-depth = R.most-depth;
        places = record {
          same = R.places.same;
          begins = omega (arith, R.places.inside k h);
          inside = λ i b. let p : k + i < w = omega arith in rw (after start stride k i) (R.places.inside (k + i) p);
          source-low = R.places.source-low;
          denoised-low = R.places.denoised-low;
        };
      }

  -- the first k places of it
  squares-small : (bits k : ℕ) → k ≤ w → (j : ℕ) → run_squares bits (depth - 8) source denoised start stride k j ≤ square_limit * k
  squares-small bits k h j =
      le_trans
      (bin-le (λ i. bin_at bits (depth - 8) source (start + i * stride)) (λ i. square (depth - 8) source denoised (start + i * stride)) k j square_limit
      (λ i l. run-square R i (lt_of_lt_of_le l h)))
      (squared k (count_small bits (depth - 8) source start stride k j))
    where
      squared : {c : ℕ} (k : ℕ) → c ≤ k → square_limit * c ≤ square_limit * k
      squared k h = omega arith

  module _ (bits : ℕ) {count squares : List ℕ} (T : Tables bits w count squares) where
    pub part_none : length count ≡ 2 ^ bits → length squares ≡ 2 ^ bits → RunTables bits depth source denoised start stride 0 count squares count squares
    unfolding total
    part_none c s = added_none bits _ _ c s (λ j. refl) (λ j. refl)

    module _ (k : ℕ) {count' squares' : List ℕ} (A : RunTables bits depth source denoised start stride k count squares count' squares') where
      pub part_room : (m : ℕ) → k + m ≤ w → Tables bits m count' squares'
      part_room m l = room bits A k m T l (count_small bits (depth - 8) source start stride k) (squares-small bits k (omega arith))

      pub part-more : (m : ℕ) {count'' squares'' : List ℕ} → RunTables bits depth source denoised (start + k * stride) stride m count' squares' count'' squares''
          → RunTables bits depth source denoised start stride (k + m) count squares count'' squares''
      part-more m B = added_more bits A _ _ _ _ B (λ j. run_more (in_bin (bin_at bits (depth - 8) source) j (λ i. 1)) start stride k m) (λ j. run_more (in_bin (bin_at bits (depth - 8) source) j (square (depth - 8) source denoised)) start stride k m)

-- ---- the rows of a view
module _ (bits depth : ℕ) (v : View) (source denoised : List ℕ) where
  abbrev shift : ℕ
  shift = depth - 8

  -- row r
  abbrev row_count : ℕ → ℕ → ℕ
  row_count r j = run_count bits shift source (v.start + r * v.step) v.stride v.width j

  abbrev row_squares : ℕ → ℕ → ℕ
  row_squares r j = run_squares bits shift source denoised (v.start + r * v.step) v.stride v.width j

  -- both tables, once r rows are added
  abbrev pub RowsAdded : ℕ → List ℕ → List ℕ → List ℕ → List ℕ → Type 0
  RowsAdded r count squares = TablesAdded bits count squares (λ j. sum_n (λ q. row_count q j) r) (λ j. sum_n (λ q. row_squares q j) r)

  module _ (S : SeenAt depth v source denoised) where
    pub row-run : (r : ℕ) → r < v.height → Run depth source denoised (v.start + r * v.step) v.stride v.width
    row-run r l =
        let P = S.seen.rows r l in
        record {
          least-depth = S.least-depth;
          most-depth = S.most-depth;
          places = record { same = P.same; begins = P.begins; inside = P.inside; source-low = λ i h. S.source-low i; denoised-low = λ i h. S.denoised-low i };
        }

    module _ {count squares : List ℕ} (B : Blank bits count squares) where
      pub rows_none : RowsAdded 0 count squares count squares
      unfolding total
      rows_none = added_none bits _ _ (ap length B.counts ∙ length-replicate (2 ^ bits) 0) (ap length B.sums ∙ length-replicate (2 ^ bits) 0) (λ j. refl) (λ j. refl)

      module _ (r : ℕ) {count' squares' : List ℕ} (l : r < v.height) (A : RowsAdded r count squares count' squares') where
        pub rows-room : Tables bits v.width count' squares'
        rows-room =
            room bits A (v.width * r) v.width (blank-tables B) fits
            (λ j. sum_bound v.width (λ q. row_count q j) r (λ q h. count_small bits shift source (v.start + q * v.step) v.stride v.width j))
            (λ j. le_trans (sum_bound (square_limit * v.width) (λ q. row_squares q j) r (λ q h. squares-small (row-run q (before q h)) bits v.width (omega arith) j)) (le_of_eq (mul_assoc square_limit v.width r)))
          where
            before : (q : ℕ) → q < r → q < v.height
            before q h = omega arith

            fits : v.width * r + v.width ≤ plane_limit
            fits = le_trans (le_of_eq (sym (mul-suc v.width r))) (mul-le-mul S.seen.narrow (le_trans l S.seen.low))

        pub rows_more : {count'' squares'' : List ℕ} → RunTables bits depth source denoised (v.start + r * v.step) v.stride v.width count' squares' count'' squares''
            → RowsAdded (r + 1) count squares count'' squares''
        rows_more C = added_more bits A _ _ _ _ C (λ j. sum_more (λ q. row_count q j) r) (λ j. sum_more (λ q. row_squares q j) r)

  -- f over the places of a view is g over what it shows
  shown-sum : (f g : ℕ → ℕ) → ((r c : ℕ) → r < v.height → c < v.width → f (place_at v r c) ≡ g (r * v.width + c))
      → sum_n (λ r. run_sum f (v.start + r * v.step) v.stride v.width) v.height ≡ sum_n g (length (viewed v source))
  shown-sum f g h =
      sum-ext _ (λ r. sum_n (λ c. g (r * v.width + c)) v.width) v.height (λ r l. sum-ext _ _ v.width (λ c m. h r c l m))
      ∙ sum_rows g v.width v.height
      ∙ ap (sum_n g) (mul_comm v.height v.width ∙ sym (viewed-length v source))

  counts-shown : (j : ℕ) → sum_n (λ r. row_count r j) v.height ≡ count_of_bin bits shift (viewed v source) j
  unfolding count_of_bin
  counts-shown j =
      shown-sum (in_bin (bin_at bits shift source) j (λ i. 1)) (in_bin (bin_at bits shift (viewed v source)) j (λ i. 1))
      (λ r c l m k. cond (eqb (bin_of bits shift (sym (viewed-at v source r c l m) k)) j) 1 0)

  squares-shown : (j : ℕ) → sum_n (λ r. row_squares r j) v.height ≡ squares_of_bin bits shift (viewed v source) (viewed v denoised) j
  unfolding squares_of_bin
  squares-shown j =
      shown-sum (in_bin (bin_at bits shift source) j (square shift source denoised)) (in_bin (bin_at bits shift (viewed v source)) j (square shift (viewed v source) (viewed v denoised)))
      (λ r c l m k.
      cond (eqb (bin_of bits shift (sym (viewed-at v source r c l m) k)) j)
      (square_of (shifted shift (pos (sym (viewed-at v source r c l m) k) -ℤ pos (sym (viewed-at v denoised r c l m) k)))) 0)

  -- all rows
  pub rows_end : {count squares count' squares' : List ℕ} → Blank bits count squares → RowsAdded v.height count squares count' squares'
      → (count' ≡ tabulate (2 ^ bits) (count_of_bin bits shift (viewed v source))) × (squares' ≡ tabulate (2 ^ bits) (squares_of_bin bits shift (viewed v source) (viewed v denoised)))
  rows_end B A =
      let T = added-blank bits _ _ B A in
      (T.0 ∙ tabulate-same (2 ^ bits) _ _ (λ j l. counts-shown j), T.1 ∙ tabulate-same (2 ^ bits) _ _ (λ j l. squares-shown j))

-- what is shown has low samples
pub shown-low : {depth : ℕ} {v : View} {source denoised : List ℕ} → SeenAt depth v source denoised → LowSamples depth (viewed v source) (viewed v denoised)
unfolding viewed
shown-low {depth} {v} {source} {denoised} S =
    record {
      least-depth = S.least-depth;
      few = le_trans (le_of_eq (viewed-length v source)) (mul-le-mul S.seen.narrow S.seen.low);
      source-low = λ i l. rw (get_d_tabulate {A = ℕ} (v.width * v.height) _ i 0 (lt_of_lt_of_le l (le_of_eq (viewed-length v source)))) (S.source-low _);
      denoised-low = λ i l. rw (get_d_tabulate {A = ℕ} (v.width * v.height) _ i 0 (lt_of_lt_of_le l (le_of_eq (viewed-length v source)))) (S.denoised-low _);
    }
