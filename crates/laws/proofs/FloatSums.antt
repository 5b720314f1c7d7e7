-- An f64 accumulator in two nested loops is the f64 sum over the list of what they visit. Assumes nothing.
use mathlib.Core.Path.{◌≡◌, sym, ◌∙◌}
use mathlib.Core.List.{map}
use Prim.Native.Nat.{ℕ}
use lib.Ieee.{Float, binary64, add}
use Rattle.laws.specs.Loop.{loop}
use Rattle.laws.specs.Scaled.{plus_zero}
use Rattle.laws.specs.Window.{window, at}
use Rattle.laws.specs.FloatSums.{sum_f}
use Rattle.laws.proofs.Visit.{visit-map, loops-visit}

-- `for r in a..b { for q in c..d { s = s + f(r, q); } }`
pub loops-sum : (f : ℕ → ℕ → Float) (a b c d : ℕ) → loop a b (λ r. loop c d (λ q s. add binary64 s (f r q))) plus_zero ≡ sum_f (map (at f) (window a b c d))
unfolding sum_f
loops-sum f a b c d =
    loops-visit a b c d (λ r q s. add binary64 s (f r q)) plus_zero ∙ sym (visit-map (λ x s. add binary64 s x) (at f) (window a b c d) plus_zero)
