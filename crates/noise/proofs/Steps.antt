-- The sums that the calls make are cases of demand 3: their loops walk along sets of positions, so each is the exact sum. Assumes nothing.
use mathlib.Core.Path.{◌≡◌, refl, sym, ap, ◌∙◌, fun_ext}
use mathlib.Core.List.{map}
use Prim.Native.Nat.{ℕ, ◌+◌, ◌-◌, ◌*◌, ◌<◌, ◌≤◌, zero-le}
use native.Mathlib.Nat.{add-zero, add_assoc, mul_comm, sub-zero}
use native.Mathlib.Omega.{arith}
use lib.Dec.{le→leb, lt→ltb}
use lib.IntN.{pos, ◌+ℤ◌, ◌*ℤ◌}
use lib.Signed.{le_z_yes, lt_z_yes}
use lib.Ieee.{Float, binary64, add, mul, of_bits}
use Rattle.laws.specs.Loop.{loop}
use Rattle.laws.specs.Sums.{sum_to, span}
use Rattle.laws.specs.Scaled.{plus_zero, of_scaled}
use Rattle.laws.specs.Window.{window}
use Rattle.laws.specs.FloatSums.{sum_f}
use Rattle.laws.specs.Law.{Held, Positions}
use Rattle.laws.proofs.Sums.{spans-zero}
use Rattle.laws.proofs.Window.{in_window, window-nodup, sum-window}
use Rattle.laws.proofs.FloatSums.{loops-sum}
use Rattle.laws.specs.Limits.{plane_limit, sample_limit}
use Rattle.noise.specs.Noise.{noise, noise_f, place, Pair}
use Rattle.noise.specs.Seen.{sum_over, lagged_sum}
use Rattle.noise.specs.Products.{Factor, own, onward, Inside, Exists, reached, product_f, exactly, scale}
use Rattle.noise.specs.Claim.{Limited, limit_of, Position, Case}
use Rattle.noise.specs.Steps.{window_f, dot_f, lag_f}
use Rattle.noise.proofs.Loops.{loop-rows, loop-tested}
use Rattle.noise.proofs.Products.{products-within, products-exact}

-- ---- a window all of whose places are positions
abbrev pub Everywhere : Factor → Factor → ℕ → ℕ → ℕ → ℕ → Type 0
Everywhere u v a b c d = (y x : ℕ) → a ≤ y → y < b → c ≤ x → x < d → Exists u (y, x) × Exists v (y, x)

pub window-positions : (u v : Factor) (a b c d : ℕ) → Everywhere u v a b c d → Positions (Position u v) (window a b c d)
window-positions u v a b c d e = record {
  once = window-nodup a b c d;
  exist = λ p h. let k = in_window a b c d p h in e p.0 p.1 k.0 k.1 k.2 k.3;
}

pub window-case : (u v : Factor) (a b c d : ℕ) → window_f u v a b c d ≡ sum_f (map (product_f u v) (window a b c d))
unfolding window_f of_bits
window-case u v a b c d = loops-sum (λ y x. product_f u v (y, x)) a b c d

-- of a frame's planes
pub frame-case : (u v : Factor) (a b c d : ℕ) → Everywhere u v a b c d → Limited plane_limit sample_limit u → Limited plane_limit sample_limit v → Case u v (window a b c d) (window_f u v a b c d)
frame-case u v a b c d e S T = record {
  positions = window-positions u v a b c d e;
  added = window-case u v a b c d;
  exact = products-exact u v S T;
}

module _ (limit top : ℕ) (u v : Factor) (H : Held (limit_of limit top u v)) (S : Limited limit top u) (T : Limited limit top v) where
  pub window-sum : (a b c d : ℕ) → Everywhere u v a b c d → window_f u v a b c d ≡ of_scaled (scale u v) (span (λ y. span (λ x. exactly u v (y, x)) c (d - c)) a (b - a))
  window-sum a b c d e =
      window-case u v a b c d
      ∙ (products-within limit top u v H S T).exact (window a b c d) (window-positions u v a b c d e)
      ∙ ap (of_scaled (scale u v)) (sum-window (λ y x. exactly u v (y, x)) a b c d)

  -- counted from 0
  pub rows-sum : (h w : ℕ) → Everywhere u v 0 h 0 w → window_f u v 0 h 0 w ≡ of_scaled (scale u v) (sum_to (λ y. sum_to (λ x. exactly u v (y, x)) w) h)
  rows-sum h w e =
      window-sum 0 h 0 w e ∙ ap (of_scaled (scale u v)) (spans-zero (λ y x. exactly u v (y, x)) h w)

-- ---- a noise and the one `lag` columns on, of two planes of one shape
pub own-place : (p : Pair) (r c : ℕ) → reached p (pos 0) (pos 0) (r, c) ≡ place p.width r c
own-place p r c = λ i. place p.width (add-zero r i) (add-zero c i)

pub inside_on : (n r k : ℕ) → r + k < n → Inside n (pos r +ℤ pos k)
inside_on n r k h = (le_z_yes (le→leb 0 (r + k) zero-le), lt_z_yes (lt→ltb (r + k) n h))

pub onward-exists : (p : Pair) (lag r c : ℕ) → r < p.height → c + lag < p.width → Exists (onward p lag) (r, c)
onward-exists p lag r c h l = (inside_on p.height r 0 (omega arith), inside_on p.width c lag l)

module _ (a b : Pair) (wide : b.width ≡ a.width) (high : b.height ≡ a.height) where
  onward-place : (lag r c : ℕ) → reached b (pos 0) (pos lag) (r, c) ≡ place a.width r (c + lag)
  onward-place lag r c = λ i. place (wide i) (add-zero r i) (c + lag)

  pub lagged-sum : (lag limit top : ℕ) → Held (limit_of limit top (own a) (onward b lag)) → Limited limit top (own a) → Limited limit top (own b)
      → window_f (own a) (onward b lag) 0 a.height 0 (a.width - lag) ≡ of_scaled 0 (lagged_sum a b lag)
  lagged-sum lag limit top H S T =
      rows-sum limit top (own a) (onward b lag) H S T a.height (a.width - lag)
      (λ y x h k l m. (onward-exists a 0 y x k (omega arith), onward-exists b lag y x (omega arith) (omega arith)))
      ∙ ap (of_scaled 0)
      (λ i. sum_over a.height (a.width - lag) (λ r c. noise a.source a.denoised (own-place a r c i) *ℤ noise b.source b.denoised (onward-place lag r c i)))

  -- `dot`: at lag 0
  pub dot-window : dot_f a b ≡ window_f (own a) (own b) 0 a.height 0 a.width
  unfolding dot_f window_f
  dot-window =
      ap (λ (n : ℕ). loop 0 n turn plus_zero) (mul_comm a.width a.height)
      ∙ loop-rows turn a.height a.width plus_zero
      ∙ (λ i. loop 0 a.height (λ r. loop 0 a.width (λ c s. add binary64 s
      (mul binary64 (noise_f a.source a.denoised (sym (own-place a r c) i)) (noise_f b.source b.denoised (sym (same_place r c) i))))) plus_zero)
    where
      turn : ℕ → Float → Float
      turn i s = add binary64 s (mul binary64 (noise_f a.source a.denoised i) (noise_f b.source b.denoised i))

      same_place : (r c : ℕ) → reached b (pos 0) (pos 0) (r, c) ≡ place a.width r c
      same_place r c = own-place b r c ∙ ap (λ (w : ℕ). place w r c) wide

  pub dot-sum : (limit top : ℕ) → Held (limit_of limit top (own a) (own b)) → Limited limit top (own a) → Limited limit top (own b) → dot_f a b ≡ of_scaled 0 (lagged_sum a b 0)
  dot-sum limit top H S T = dot-window ∙ ap (window_f (own a) (own b) 0 a.height 0) (sym (sub-zero a.width)) ∙ lagged-sum 0 limit top H S T

-- ---- the row correlation: in one plane
module _ (p : Pair) (lag : ℕ) where
  pub lag-window : lag_f p lag ≡ window_f (own p) (onward p lag) 0 p.height 0 (p.width - lag)
  unfolding lag_f window_f
  lag-window =
      ap (λ (f : ℕ → Float → Float). loop 0 p.height f plus_zero) (fun_ext (λ r. fun_ext (λ s. loop-tested (turn r) p.width lag s)))
      ∙ (λ i. loop 0 p.height (λ r. loop 0 (p.width - lag) (λ c s. add binary64 s
      (mul binary64 (noise_f p.source p.denoised (sym (own-place p r c) i)) (noise_f p.source p.denoised (sym (far-place r c) i))))) plus_zero)
    where
      turn : ℕ → ℕ → Float → Float
      turn r c s = add binary64 s (mul binary64 (noise_f p.source p.denoised (place p.width r c)) (noise_f p.source p.denoised (place p.width r c + lag)))

      far-place : (r c : ℕ) → reached p (pos 0) (pos lag) (r, c) ≡ place p.width r c + lag
      far-place r c = (λ i. place p.width (add-zero r i) (c + lag)) ∙ sym (add_assoc (r * p.width) c lag)

  pub lag-sum : (limit top : ℕ) → Held (limit_of limit top (own p) (onward p lag)) → Limited limit top (own p) → lag_f p lag ≡ of_scaled 0 (lagged_sum p p lag)
  lag-sum limit top H S = lag-window ∙ lagged-sum p p refl refl lag limit top H S S
