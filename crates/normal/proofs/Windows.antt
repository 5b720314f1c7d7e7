-- Sums over a fit's window: how large they are, the sample as its own last neighbour, two factors exchanged, and the window as rows lag to h and columns lag to w - lag. Assumes nothing.
use mathlib.Core.Path.{◌≡◌, ap, ◌∙◌}
use Prim.Native.Nat.{ℕ, ◌+◌, ◌-◌, ◌*◌, ◌/◌, ◌%◌, ◌≤◌, ◌<◌}
use native.Mathlib.Nat.{lt_of_lt_of_le, div-lt_iff_lt-mul, mod-lt}
use native.Mathlib.Omega.{arith}
use lib.Arith.{digits_div, digits_mod}
use lib.IntN.{nat_abs, ◌*ℤ◌, *ℤ_comm}
use Rattle.laws.specs.Sums.{sum_to, span}
use Rattle.laws.proofs.Sums.{sum-ext, sum_bound}
use Rattle.laws.proofs.Whole.{abs-mul-le}
use Rattle.positions.specs.Counts.{side, neighbours, factors}
use Rattle.positions.proofs.Counts.{factors-le, factors-rows}
use Rattle.normal.specs.Normal.{Picture, neighbour, window_sum}
use Rattle.normal.specs.Calls.{Window}
use Rattle.normal.specs.Starts.{start_sum}

-- a place of the window
pub record InWindow (w h lag y x : ℕ) : Type 0 where
  pub above : lag ≤ y
  pub below : y < h
  pub left : lag ≤ x
  pub right : x < w - lag

module _ (w h lag : ℕ) where
  here : (y x : ℕ) → y < h - lag → x < w - 2 * lag → InWindow w h lag (lag + y) (lag + x)
  here y x l k = record { above = omega arith; below = omega arith; left = omega arith; right = omega arith }

  module _ (f g : Picture) where
    -- two pictures that are at most c and d in size in the window
    pub window-bound : (c d : ℕ) → ((y x : ℕ) → InWindow w h lag y x → nat_abs (f y x) ≤ c) → ((y x : ℕ) → InWindow w h lag y x → nat_abs (g y x) ≤ d)
        → nat_abs (window_sum w h lag f g) ≤ (h - lag) * ((w - 2 * lag) * (c * d))
    unfolding window_sum
    window-bound c d p q =
        sum_bound _ ((w - 2 * lag) * (c * d)) (h - lag) (λ y l. sum_bound _ (c * d) (w - 2 * lag) (λ x k.
        abs-mul-le (f (lag + y) (lag + x)) (g (lag + y) (lag + x)) c d (p (lag + y) (lag + x) (here y x l k)) (q (lag + y) (lag + x) (here y x l k))))

    pub window-swap : window_sum w h lag f g ≡ window_sum w h lag g f
    unfolding window_sum
    window-swap = sum-ext _ _ (h - lag) (λ y l. sum-ext _ _ (w - 2 * lag) (λ x k. *ℤ_comm (f (lag + y) (lag + x)) (g (lag + y) (lag + x))))

    -- as a sum over rows lag to h and columns lag to w - lag
    pub window-rows : window_sum w h lag f g ≡ span (λ y. span (λ x. f y x *ℤ g y x) lag (w - lag - lag)) lag (h - lag)
    unfolding window_sum
    window-rows = let e : w - 2 * lag ≡ w - lag - lag = omega arith in ap (λ (n : ℕ). span (λ y. span (λ x. f y x *ℤ g y x) lag n) lag (h - lag)) e

  -- as sums by start, row after row of the window: f and g from columns a and b on
  pub window-starts : (f g f' g' : Picture) (a b : ℕ) → ((y x : ℕ) → f' y (a + x) ≡ f (lag + y) (lag + x)) → ((y x : ℕ) → g' y (b + x) ≡ g (lag + y) (lag + x))
      → sum_to (λ y. start_sum (f' y) (g' y) (w - 2 * lag) a b) (h - lag) ≡ window_sum w h lag f g
  unfolding start_sum window_sum
  window-starts f g f' g' a b p q = sum-ext _ _ (h - lag) (λ y _. sum-ext _ _ (w - 2 * lag) (λ x _ t. p y x t *ℤ q y x t))

  -- pictures that are the same in the window
  pub window-ext : (f f' g g' : Picture) → ((y x : ℕ) → InWindow w h lag y x → f y x ≡ f' y x) → ((y x : ℕ) → InWindow w h lag y x → g y x ≡ g' y x)
      → window_sum w h lag f g ≡ window_sum w h lag f' g'
  unfolding window_sum
  window-ext f f' g g' p q =
      sum-ext _ _ (h - lag) (λ y l. sum-ext _ _ (w - 2 * lag) (λ x k t. p (lag + y) (lag + x) (here y x l k) t *ℤ q (lag + y) (lag + x) (here y x l k) t))

-- the sample itself
pub sample-last : (f : Picture) (lag y x : ℕ) → lag ≤ y → lag ≤ x → neighbour f lag (neighbours lag) y x ≡ f y x
sample-last f lag y x h k =
    let e : neighbours lag ≡ lag * side lag + lag = omega (arith, factors-rows lag) in
    let l : lag < side lag = omega arith in
    let r : y - lag + lag ≡ y = omega arith in
    let c : x - lag + lag ≡ x = omega arith in
    ap (λ (i : ℕ). neighbour f lag i y x) e ∙ (λ t. f (y - lag + digits_div lag l t) (x - lag + digits_mod lag l t)) ∙ (λ t. f (r t) (c t))

-- a neighbour of a place of the window lies in the plane
module _ {w h lag : ℕ} (W : Window w h lag) (i : ℕ) (li : i < factors lag) (y x : ℕ) (P : InWindow w h lag y x) where
  some : 0 < side lag
  some = omega arith

  pub neighbour-row : y - lag + i / side lag < h
  neighbour-row = omega (arith, P.above, P.below, (div-lt_iff_lt-mul some).1 (lt_of_lt_of_le li (factors-le lag)))

  pub neighbour-column : x - lag + i % side lag < w
  neighbour-column = omega (arith, P.left, P.right, mod-lt i some)
