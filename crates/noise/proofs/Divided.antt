-- A sum with averages is worked in parts, turned into an f64 and divided once by their number, a power of two: that is the sum in those parts. Assumes nothing.
use mathlib.Core.Path.{◌≡◌, sym, ap, ◌∙◌}
use mathlib.Core.Bool.{false}
use Prim.Native.Nat.{ℕ, ◌^◌, ◌≤◌}
use native.Mathlib.Nat.{zero-add}
use lib.Dec.{lit≤}
use lib.IntN.{ℤ, nat_abs}
use lib.Ieee.{Float, binary64, div, of_int}
use lib.Ieee.Exact.{HasValue}
use Rattle.laws.specs.Scaled.{of_scaled}
use Rattle.laws.proofs.Scaled.{scaled-int, div-scaled}

-- an exact sum over 2 ^ j, divided once
pub divided : (j : ℕ) (z : ℤ) (y : Float) → nat_abs z ≤ 2 ^ 53 → HasValue y false (2 ^ j) 1 → div binary64 (of_int binary64 z) y ≡ of_scaled j z
divided j z y b v = ap (λ (x : Float). div binary64 x y) (sym (scaled-int z)) ∙ div-scaled 0 j z y b (lit≤ tt) v ∙ ap (λ (k : ℕ). of_scaled k z) (zero-add j)
