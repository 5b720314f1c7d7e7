-- The law of sums where loops make the sum: over a window or a plane, row after row. Assumes nothing.
use mathlib.Core.Path.{◌≡◌, ap, ◌∙◌}
use mathlib.Core.List.{List}
use Prim.Native.Nat.{ℕ, ◌-◌, ◌*◌, ◌≤◌, ◌<◌}
use native.Mathlib.Nat.{le_trans, le_of_eq, sub-zero}
use lib.IntN.{ℤ, nat_abs}
use lib.ListN.{length}
use lib.Ieee.{Float, binary64, add}
use Rattle.laws.specs.Loop.{loop}
use Rattle.laws.specs.Window.{window, at}
use Rattle.laws.specs.Sums.{sum_to, span}
use Rattle.laws.specs.Scaled.{plus_zero, of_scaled, Holds}
use Rattle.laws.specs.Sets.{In, NoDup}
use Rattle.laws.specs.Law.{Limit, Held, Product, Positions}
use Rattle.laws.proofs.Sets.{length-within}
use Rattle.laws.proofs.Sums.{spans-zero}
use Rattle.laws.proofs.Window.{in_window, window-nodup, length-window, sum-window}
use Rattle.laws.proofs.FloatSums.{loops-sum}
use Rattle.laws.proofs.Law.{law-of-sums}

-- a list is a set of positions in it, and no such set has more of them
abbrev Of : {A : Type 0} → List A → A → Type 0
Of all p = In p all

whole : {A : Type 0} (all : List A) → NoDup all → Positions (Of all) all
whole all n = record { once = n; exist = λ p h. h }

within : {A : Type 0} (all ps : List A) → Positions (Of all) ps → length ps ≤ length all
within all ps S = length-within ps all S.once S.exist

module _ (L : Limit) (H : Held L) where
  pub window-exact : (a b c d : ℕ) (f : ℕ → ℕ → Float) (g : ℕ → ℕ → ℤ) → (b - a) * (d - c) ≤ L.count
      → ((r q : ℕ) → a ≤ r → r < b → c ≤ q → q < d → nat_abs (g r q) ≤ L.size)
      → ((r q : ℕ) → a ≤ r → r < b → c ≤ q → q < d → Holds L.scale (g r q) (f r q))
      → loop a b (λ r. loop c d (λ q s. add binary64 s (f r q))) plus_zero ≡ of_scaled L.scale (span (λ r. span (g r) c (d - c)) a (b - a))
  window-exact a b c d f g few small holds =
      loops-sum f a b c d
      ∙ (law-of-sums L H (Of (window a b c d)) (at f) (at g) product).exact (window a b c d) (whole (window a b c d) (window-nodup a b c d))
      ∙ ap (of_scaled L.scale) (sum-window g a b c d)
    where
      product : Product L (Of (window a b c d)) (at f) (at g)
      product = record {
        few = λ ps S. le_trans (within (window a b c d) ps S) (le_trans (le_of_eq (length-window a b c d)) few);
        small = λ p h. let k = in_window a b c d p h in small p.0 p.1 k.0 k.1 k.2 k.3;
        holds = λ p h. let k = in_window a b c d p h in holds p.0 p.1 k.0 k.1 k.2 k.3;
      }

  pub plane-exact : (h w : ℕ) (f : ℕ → ℕ → Float) (g : ℕ → ℕ → ℤ) → h * w ≤ L.count
      → ((r q : ℕ) → r < h → q < w → nat_abs (g r q) ≤ L.size) → ((r q : ℕ) → r < h → q < w → Holds L.scale (g r q) (f r q))
      → loop 0 h (λ r. loop 0 w (λ q s. add binary64 s (f r q))) plus_zero ≡ of_scaled L.scale (sum_to (λ r. sum_to (g r) w) h)
  plane-exact h w f g few small holds =
      window-exact 0 h 0 w f g (le_trans (le_of_eq (λ i. sub-zero h i * sub-zero w i)) few) (λ r q a b c d. small r q b d) (λ r q a b c d. holds r q b d)
      ∙ ap (of_scaled L.scale) (spans-zero g h w)
