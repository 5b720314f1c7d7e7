-- The table of two lines' sums by their starts: each entry from those before it. Assumes nothing.
use mathlib.Core.Path.{◌≡◌, sym, ◌∙◌}
use mathlib.Core.Bool.{Bool}
use mathlib.Core.List.{List}
use Prim.Native.Nat.{ℕ, ◌+◌, ◌-◌, ◌*◌, ◌<◌}
use native.Mathlib.Nat.{div-eq_of_lt, mod-eq_of_lt, lt_of_lt_of_le, le_of_eq}
use native.Mathlib.Omega.{arith}
use lib.Arith.{digits_lt, digits_div, digits_mod}
use lib.IntN.{ℤ}
use lib.ListN.{length}
use Rattle.noise.specs.Lines.{at}
use Rattle.normal.specs.Starts.{start_sum, Next}
use Rattle.normal.proofs.Overlaps.{start-swap}
use Rattle.normal.proofs.Places.{place-back, first-row}

module _ {up lo : List ℤ} {twin : Bool} {n side a b : ℕ} {table : List ℤ} (N : Next up lo twin n side a b table) (a-on : 0 < a) where
  abbrev sums : ℕ → ℕ → ℤ
  sums = start_sum (at up) (at lo) n

  here : a * side + b < length table
  here = lt_of_lt_of_le (digits_lt N.up_start N.lo-start) (le_of_eq (sym N.size))

  -- one place before
  module _ (b-on : 0 < b) where
    pub back_is : at table ((a - 1) * side + (b - 1)) ≡ sums (a - 1) (b - 1)
    back_is =
        let l : b - 1 < side = omega (arith, N.lo-start) in
        N.known ((a - 1) * side + (b - 1)) (place-back side a b a-on b-on) ∙ (λ i. sums (digits_div (a - 1) l i) (digits_mod (a - 1) l i))

  -- starts 0 and a, for a and 0
  module _ (b-off : b ≡ 0) where
    first : a < a * side + b
    first = lt_of_lt_of_le (first-row side a a-on N.up_start) (omega arith)

    pub mirror-is : up ≡ lo → at table a ≡ sums a b
    mirror-is e =
        N.known a first
        ∙ (λ i. sums (div-eq_of_lt N.up_start i) (mod-eq_of_lt N.up_start i))
        ∙ start-swap (at up) (at lo) n 0 a
        ∙ (λ i. start_sum (at (sym e i)) (at (e i)) n a (sym b-off i))
