-- The sums with the luma tap while the rows pass: the state before the first row, after a row and after the last, and the room for another row. Assumes nothing.
use mathlib.Core.Path.{◌≡◌, refl, sym, ap, ◌∙◌}
use mathlib.Core.List.{List}
use Prim.Native.Nat.{ℕ, ◌+◌, ◌-◌, ◌*◌, ◌/◌, ◌%◌, ◌^◌, ◌≤◌, ◌<◌}
use native.Mathlib.Nat.{le_trans, le_of_eq, lt_of_le_of_lt, lt_of_lt_of_le, lt_trans, add_comm, add-le-add, mul-le-mul_right, div-lt_iff_lt-mul, mod-lt}
use native.Mathlib.Omega.{arith}
use lib.Dec.{lit<}
use lib.IntN.{ℤ, pos, nat_abs, ◌+ℤ◌}
use mir.Syntax.{w64}
use mir.Val.{of_z, to_z}
use Rattle.laws.specs.Limits.{side_limit}
use Rattle.laws.specs.Sums.{total, sum_to}
use Rattle.laws.specs.Table.{tabulate}
use Rattle.laws.proofs.Table.{tabulate-same}
use Rattle.laws.proofs.Sums.{sum_more, sum_bound}
use Rattle.laws.proofs.Whole.{abs-add}
use Rattle.laws.proofs.Is.{Is}
use Rattle.frame.specs.declared.view.View.{View}
use Rattle.noise.specs.Noise.{noise_of}
use Rattle.noise.specs.Lines.{at, noise_limit}
use Rattle.noise.specs.PlanePair.{shown, noise_in}
use Rattle.noise.specs.declared.plane_pair.PlanePair.{PlanePair}
use Rattle.noise.specs.Average.{quarters}
use Rattle.noise.proofs.Over.{average-le}
use Rattle.noise.proofs.LineSums.{entry, size, rows-turn}
use Rattle.positions.specs.Counts.{side, factors}
use Rattle.positions.proofs.Counts.{factors-le}
use Rattle.normal.specs.Normal.{Picture, tap_entry, tap_square}
use Rattle.normal.specs.Calls.{Window, TapSums}
use Rattle.normal.specs.ShownFrame.{geometry_in, luma_in}
use Rattle.normal.specs.declared.shown_frame.ShownFrame.{ShownFrame}
use Rattle.normal.specs.Starts.{start_sum, average_limit}
use Rattle.normal.specs.Taps.{row_tap, plus_taps, TapAdd, AverageRoom}
use Rattle.normal.proofs.Sizes.{Zeros}
use Rattle.normal.proofs.Overlaps.{start-ext, start-bound}
use Rattle.normal.proofs.Reached.{table_is}
use Rattle.normal.proofs.RowLines.{noise-small}
use Rattle.normal.proofs.Windows.{window-starts, window-ext}
use Rattle.normal.proofs.Entries.{back, neighbour-seen}
use Rattle.normal.proofs.AverageRows.{averages-small}

-- ---- after m rows of the window: the squares of the averages q, and each neighbour × tap
abbrev pub squares_after : Picture → ℕ → ℕ → ℕ → ℤ
squares_after q w lag m = sum_to (λ y. start_sum (q (y + lag)) (q (y + lag)) (w - 2 * lag) lag lag) m

abbrev pub taps_after : Picture → Picture → ℕ → ℕ → ℕ → ℕ → ℤ
taps_after f q w lag m i = sum_to (λ y. row_tap f (q (y + lag)) w lag y i) m

pub record TapsHeld (f : ShownFrame) (lag m : ℕ) (squares : ℤ) (cb-taps cr-taps : List ℤ) : Type 0 where
  pub squares-are : squares ≡ squares_after (quarters (luma_in f)) f.cb.view.width lag m
  pub cb-are : cb-taps ≡ tabulate (factors lag) (taps_after (noise_in f.cb) (quarters (luma_in f)) f.cb.view.width lag m)
  pub cr-are : cr-taps ≡ tabulate (factors lag) (taps_after (noise_in f.cr) (quarters (luma_in f)) f.cr.view.width lag m)

-- ---- the averages q, in a window of a plane w wide
module _ (q : Picture) (w lag h : ℕ) where
  pub squares-all : squares_after q w lag (h - lag) ≡ tap_square q w h lag
  squares-all = window-starts w h lag q q (λ y. q (y + lag)) (λ y. q (y + lag)) lag lag row row
    where
      row : (y x : ℕ) → q (y + lag) (lag + x) ≡ q (lag + y) (lag + x)
      row y x t = q (add_comm y lag t) (lag + x)

  module _ (W : Window w h lag) (narrow : w ≤ side_limit) (q-small : (r c : ℕ) → r < h → c < w → nat_abs (q r c) ≤ average_limit) where
    inside : (y x : ℕ) → y < h - lag → x < w - 2 * lag → nat_abs (q (y + lag) (lag + x)) ≤ average_limit
    inside y x l k = q-small (y + lag) (lag + x) (omega arith) (omega (arith, W.columns))

    pub squares-le : (y : ℕ) → y < h - lag → nat_abs (start_sum (q (y + lag)) (q (y + lag)) (w - 2 * lag) lag lag) ≤ side_limit * (average_limit * average_limit)
    squares-le y l =
        le_trans (start-bound (q (y + lag)) (q (y + lag)) (w - 2 * lag) lag lag average_limit average_limit (λ x k. inside y x l k) (λ x k. inside y x l k))
        (mul-le-mul_right (average_limit * average_limit) few)
      where
        few : w - 2 * lag ≤ side_limit
        few = omega arith

-- ---- a component's picture f with them
module _ (f q : Picture) (w lag : ℕ) where
  abbrev n : ℕ
  n = w - 2 * lag

  abbrev s : ℕ
  s = side lag

  abbrev after : ℕ → List ℤ
  after m = tabulate (factors lag) (taps_after f q w lag m)

  pub taps-none : {taps : List ℤ} → Zeros (factors lag) taps → taps ≡ after 0
  unfolding total
  taps-none {taps} Z = table_is taps (factors lag) (taps_after f q w lag 0) Z.size Z.zero

  -- all rows
  pub taps-all : (h i : ℕ) → taps_after f q w lag (h - lag) i ≡ tap_entry f q w h lag i
  taps-all h i =
      window-starts w h lag _ q (λ y. f (y + i / s)) (λ y. q (y + lag)) (i % s) lag
      (λ y x t. f ((add_comm y (i / s) ∙ back lag y (i / s)) t) (back lag x (i % s) t)) (λ y x t. q (add_comm y lag t) (lag + x))

  -- a row, from its line of averages
  module _ {averages : List ℤ} (y : ℕ) (wide : 2 * lag ≤ w) (d : averages ≡ tabulate w (q (y + lag))) where
    gain-is : (i : ℕ) → row_tap f (at averages) w lag y i ≡ row_tap f (q (y + lag)) w lag y i
    gain-is i =
        start-ext (f (y + i / s)) (at averages) n (i % s) lag (f (y + i / s)) (q (y + lag)) (λ x k. refl) (λ x k. entry w (q (y + lag)) d (lag + x) (omega arith))

    pub taps-more : {taps taps' : List ℤ} → taps ≡ after y → taps' ≡ plus_taps f (at averages) w lag y taps → taps' ≡ after (y + 1)
    taps-more e g =
        g ∙ tabulate-same (factors lag) _ _ (λ i l. (λ j. entry (factors lag) (taps_after f q w lag y) e i l j +ℤ gain-is i j) ∙ sum_more (λ y. row_tap f (q (y + lag)) w lag y i) y)

  -- ---- how large they are, where f is noise and q an average in quarters
  module _ (h : ℕ) (W : Window w h lag) (narrow : w ≤ side_limit) (low : h ≤ side_limit)
      (f-small : (r c : ℕ) → r < h → c < w → nat_abs (f r c) ≤ noise_limit) (q-small : (r c : ℕ) → r < h → c < w → nat_abs (q r c) ≤ average_limit) where
    few : n ≤ side_limit
    few = omega arith

    abbrev most : ℕ
    most = side_limit * (noise_limit * average_limit)

    tap-le : (i y : ℕ) → i < factors lag → y < h - lag → nat_abs (row_tap f (q (y + lag)) w lag y i) ≤ most
    tap-le i y l k =
        le_trans (start-bound (f (y + i / s)) (q (y + lag)) n (i % s) lag noise_limit average_limit
        (λ x m. f-small (y + i / s) (i % s + x) (omega (arith, row)) (across (i % s) x (mod-lt i some) m))
        (λ x m. inside q w lag h W narrow q-small y x k m))
        (mul-le-mul_right (noise_limit * average_limit) few)
      where
        some : 0 < s
        some = omega arith

        row : i / s < lag + 1
        row = (div-lt_iff_lt-mul some).1 (lt_of_lt_of_le l (factors-le lag))

        across : (a x : ℕ) → a < s → x < n → a + x < w
        across a x l k = omega (arith, W.columns)

    pub taps-room : {taps averages : List ℤ} (y : ℕ) → y < h - lag → taps ≡ after y → averages ≡ tabulate w (q (y + lag))
        → (i : ℕ) → i < factors lag → nat_abs (at taps i +ℤ row_tap f (at averages) w lag y i) < 2 ^ 63
    taps-room {taps} {averages} y k e d i l =
        lt_of_le_of_lt (le_of_eq (λ j. nat_abs (entry (factors lag) (taps_after f q w lag y) e i l j +ℤ gain-is y W.columns d i j)))
        (lt_of_le_of_lt (abs-add (taps_after f q w lag y i) (row_tap f (q (y + lag)) w lag y i))
        (lt_of_le_of_lt (add-le-add (le_trans (sum_bound (λ y. row_tap f (q (y + lag)) w lag y i) most y (λ v m. tap-le i v l (lt_trans m k))) (mul-le-mul_right most rows)) (tap-le i y l k)) (lit< tt)))
      where
        rows : y ≤ side_limit
        rows = omega arith

-- ---- of a frame
module _ (f : ShownFrame) {lag : ℕ} (W : Window f.cb.view.width f.cb.view.height lag) where
  abbrev w : ℕ
  w = f.cb.view.width

  abbrev h : ℕ
  h = f.cb.view.height

  abbrev tap : Picture
  tap = quarters (luma_in f)

  pub held_none : {cb-taps cr-taps : List ℤ} → Zeros (factors lag) cb-taps → Zeros (factors lag) cr-taps → TapsHeld f lag 0 (pos 0) cb-taps cr-taps
  unfolding total
  held_none cb cr = record { squares-are = refl; cb-are = taps-none (noise_in f.cb) tap w lag cb; cr-are = taps-none (noise_in f.cr) tap f.cr.view.width lag cr }

  average-small : (r c : ℕ) → r < h → c < w → nat_abs (tap r c) ≤ average_limit
  average-small r c l = average-le f.over f.luma.seen l c

  -- in row m + lag
  module _ (m : ℕ) (in_rows : m < h - lag) where
    row_below : m + lag < h
    row_below = omega arith

    pub average-room : {averages : ℕ} → averages ≡ w → AverageRoom (geometry_in f) (m + lag) averages
    average-room e = record { row = row_below; averages-length = e }

    pub squares-turn : {a : ℤ} (t : ℤ) → a ≡ squares_after tap w lag m → t ≡ start_sum (tap (m + lag)) (tap (m + lag)) (w - 2 * lag) lag lag
        → Is w64 (a +ℤ to_z w64 (of_z w64 t)) (squares_after tap w lag (m + 1))
    squares-turn t e d =
        rows-turn (λ y. start_sum (tap (y + lag)) (tap (y + lag)) (w - 2 * lag) lag lag) (side_limit * (average_limit * average_limit)) (h - lag)
        (lt_of_le_of_lt (mul-le-mul_right (side_limit * (average_limit * average_limit)) rows) (lit< tt))
        (squares-le tap w lag h W f.cb.seen.narrow average-small) m t in_rows e d
      where
        rows : h - lag ≤ side_limit
        rows = omega (arith, f.cb.seen.low)

    -- a component, which is looked at as Cb is
    module _ (p : PlanePair) (alike : p.view ≡ f.cb.view) {taps filled : List ℤ}
        (e : taps ≡ tabulate (factors lag) (taps_after (noise_in p) tap p.view.width lag m)) (d : filled ≡ tabulate w (tap (m + lag))) where
      pub component-add : TapAdd p m lag filled taps
      component-add =
          record {
            tap-row = record {
              inside = rw alike row_below;
              averages-length = rw alike (size w (tap (m + lag)) d);
              averages-small = averages-small f.over f.luma.seen row_below d;
              row-length = size (factors lag) _ e;
            };
            small = taps-room (noise_in p) tap p.view.width lag p.view.height (rw alike W) p.seen.narrow p.seen.low (noise-small p.seen) (rw alike average-small) m (rw alike in_rows) e (rw alike d);
          }

      pub component-more : {taps' : List ℤ} → taps' ≡ plus_taps (noise_in p) (at filled) p.view.width lag m taps → taps' ≡ tabulate (factors lag) (taps_after (noise_in p) tap p.view.width lag (m + 1))
      component-more g = taps-more (noise_in p) tap p.view.width lag m (rw alike W.columns) (rw alike d) e g

-- all rows, of what the geometry shows
pub held_all : {f : ShownFrame} {lag : ℕ} {squares result : ℤ} {cb-taps cr-taps : List ℤ} → Window f.cb.view.width f.cb.view.height lag
    → TapsHeld f lag (f.cb.view.height - lag) squares cb-taps cr-taps → result ≡ squares → TapSums (luma_in f) (shown f.cb) (shown f.cr) lag result cb-taps cr-taps
held_all {f} {lag} W H e =
    record {
      squares-are = e ∙ H.squares-are ∙ squares-all q f.cb.view.width lag f.cb.view.height;
      cb-are = H.cb-are ∙ all f.cb refl;
      cr-are = H.cr-are ∙ all f.cr f.alike;
    }
  where
    q : Picture
    q = quarters (luma_in f)

    all : (p : PlanePair) → p.view ≡ f.cb.view → tabulate (factors lag) (taps_after (noise_in p) q p.view.width lag (f.cb.view.height - lag))
        ≡ tabulate (factors lag) (tap_entry (noise_of (shown p)) q p.view.width p.view.height lag)
    all p alike =
        ap (λ (v : View). tabulate (factors lag) (taps_after (noise_in p) q p.view.width lag (v.height - lag))) (sym alike)
        ∙ tabulate-same (factors lag) _ _ (λ i k.
        taps-all (noise_in p) q p.view.width lag p.view.height i
        ∙ window-ext p.view.width p.view.height lag _ _ q q (neighbour-seen p.view p.source.now p.denoised.now (rw alike W) i k) (λ y x p. refl))
