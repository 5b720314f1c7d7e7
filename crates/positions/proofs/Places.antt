-- The neighbours by number: i stands in row i / (2 × lag + 1) − lag and column i % (2 × lag + 1) − lag. A table of them grows row by row. Assumes nothing.
use mathlib.Core.Path.{◌≡◌, sym, ap, ◌∙◌}
use mathlib.Core.List.{◌++◌}
use Prim.Native.Nat.{ℕ, suc, ◌+◌, ◌*◌, ◌/◌, ◌%◌, ◌≤◌, ◌<◌}
use native.Mathlib.Nat.{suc-mul, le_refl, le_trans}
use native.Mathlib.Omega.{arith}
use lib.Arith.{digits_div, digits_mod}
use lib.IntN.{ℤ, pos, ◌-ℤ◌}
use Rattle.laws.specs.Table.{tabulate}
use Rattle.laws.proofs.Table.{tabulate-then}
use Rattle.positions.specs.Counts.{side, neighbours}
use Rattle.positions.specs.Positions.{Offset}
use Rattle.positions.proofs.Counts.{factors-rows}

-- column j of the row dr
abbrev pub column : ℕ → ℤ → ℕ → Offset
column lag dr j = (dr, pos j -ℤ pos lag)

abbrev pub offset_at : ℕ → ℕ → Offset
offset_at lag i = (pos (i / side lag) -ℤ pos lag, pos (i % side lag) -ℤ pos lag)

-- column j of row k
pub place_is : (lag k j : ℕ) → j < side lag → offset_at lag (k * side lag + j) ≡ column lag (pos k -ℤ pos lag) j
place_is lag k j l = rw (digits_div k l, digits_mod k l)

-- k rows, and the first n columns of the next
row-then : (lag k n : ℕ) → n ≤ side lag
    → tabulate (k * side lag) (offset_at lag) ++ tabulate n (column lag (pos k -ℤ pos lag)) ≡ tabulate (k * side lag + n) (offset_at lag)
row-then lag k n h =
    tabulate-then (k * side lag) n (offset_at lag) (column lag (pos k -ℤ pos lag)) (λ j l. sym (place_is lag k j (le_trans l h)))

pub rows_then : (lag k : ℕ) → tabulate (k * side lag) (offset_at lag) ++ tabulate (side lag) (column lag (pos k -ℤ pos lag)) ≡ tabulate (suc k * side lag) (offset_at lag)
rows_then lag k = row-then lag k (side lag) (le_refl (side lag)) ∙ rw (suc-mul k (side lag))

-- lag rows, and in the sample's row those before it
pub all-rows : (lag : ℕ) → lag * side lag + lag ≡ neighbours lag
all-rows lag = omega (arith, factors-rows lag)

pub places_then : (lag : ℕ) → tabulate (lag * side lag) (offset_at lag) ++ tabulate lag (column lag (pos lag -ℤ pos lag)) ≡ tabulate (neighbours lag) (offset_at lag)
places_then lag = row-then lag lag lag (omega arith) ∙ ap (λ (n : ℕ). tabulate n (offset_at lag)) (all-rows lag)
