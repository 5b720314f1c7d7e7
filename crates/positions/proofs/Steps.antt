-- The Rust's loops push the neighbours by number: a row without the sample is pushed whole, and the sample's row up to its `break`. Assumes nothing.
use mathlib.Core.Path.{◌≡◌, refl, sym, ap, ◌∙◌}
use mathlib.Core.Bool.{true, false}
use mathlib.Core.List.{List, [], ◌++◌, append-nil, append_assoc}
use Prim.Native.Nat.{ℕ, zero, suc, ◌*◌, ◌≤◌, ◌<◌, zero-le}
use native.Mathlib.Nat.{zero-mul, le_refl, le_trans, le-suc, le_of_lt}
use native.Mathlib.Numerals.{add-one}
use native.Mathlib.Omega.{arith}
use lib.IntN.{ℤ, pos, ◌-ℤ◌}
use Rattle.laws.specs.Loop.{loop}
use Rattle.laws.specs.Table.{tabulate}
use Rattle.laws.proofs.Loop.{loop-none, loop-more, loop-fixed}
use Rattle.positions.specs.Counts.{side, neighbours}
use Rattle.positions.specs.Positions.{Offset, Along, stops, body, turn, row, positions}
use Rattle.positions.proofs.Offsets.{is_zero, is-not-zero}
use Rattle.positions.proofs.Places.{column, offset_at, rows_then, places_then}

loop-suc : {S : Type 0} (k : ℕ) (f : ℕ → S → S) (s : S) → loop 0 (suc k) f s ≡ f k (loop 0 k f s)
loop-suc k f s = ap (λ (n : ℕ). loop 0 n f s) (sym (add-one k)) ∙ loop-more 0 k f s zero-le

abbrev open_at : List Offset → Along
open_at out = record { out = out; ended = false }

module _ (lag : ℕ) (dr : ℤ) (out : List Offset) where
  -- n turns, none of which is at the sample
  pushed : (n : ℕ) → ((j : ℕ) → j < n → stops dr (pos j -ℤ pos lag) ≡ false)
      → loop 0 n (turn lag dr) (open_at out) ≡ open_at (out ++ tabulate n (column lag dr))
  unfolding turn body
  pushed zero h = loop-none 0 0 (turn lag dr) (open_at out) zero-le ∙ rw (append-nil out)
  pushed (suc n) h =
      loop-suc n (turn lag dr) (open_at out)
      ∙ rw (pushed n (λ j l. h j (le_trans l (le-suc n))), h n (le_refl (suc n)), append_assoc)

-- a row above the sample's
row-above : (lag k : ℕ) (out : List Offset) → k < lag → row lag (pos k -ℤ pos lag) out ≡ out ++ tabulate (side lag) (column lag (pos k -ℤ pos lag))
unfolding row
row-above lag k out h = ap (λ (s : Along). s.out) (pushed lag (pos k -ℤ pos lag) out (side lag) (λ j l. rw (is-not-zero k lag h)))

-- the sample's row
row-of-sample : (lag : ℕ) (out : List Offset) → row lag (pos lag -ℤ pos lag) out ≡ out ++ tabulate lag (column lag (pos lag -ℤ pos lag))
unfolding row turn body
row-of-sample lag out = ap (λ (s : Along). s.out) (loop-fixed 0 (suc lag) (side lag) step (open_at out) ended (λ k. fixed k) zero-le (omega arith) broken)
  where
    step : ℕ → Along → Along
    step = turn lag (pos lag -ℤ pos lag)

    ended : Along
    ended = record { out = out ++ tabulate lag (column lag (pos lag -ℤ pos lag)); ended = true }

    fixed : (k : ℕ) → step k ended ≡ ended
    fixed k = refl

    broken : loop 0 (suc lag) step (open_at out) ≡ ended
    broken =
        loop-suc lag step (open_at out)
        ∙ ap (step lag) (pushed lag (pos lag -ℤ pos lag) out lag (λ j l. rw (is_zero lag, is-not-zero j lag l)))
        ∙ rw (is_zero lag)

rows_above : (lag k : ℕ) → k ≤ lag → loop 0 k (λ k. row lag (pos k -ℤ pos lag)) [] ≡ tabulate (k * side lag) (offset_at lag)
rows_above lag zero h = loop-none 0 0 (λ k. row lag (pos k -ℤ pos lag)) [] zero-le ∙ rw (zero-mul (side lag))
rows_above lag (suc k) h =
    loop-suc k (λ k. row lag (pos k -ℤ pos lag)) []
    ∙ rw (rows_above lag k (le_of_lt h), row-above lag k (tabulate (k * side lag) (offset_at lag)) h)
    (rows_then lag k)

pub positions-are : (lag : ℕ) → positions lag ≡ tabulate (neighbours lag) (offset_at lag)
unfolding positions
positions-are lag =
    loop-more 0 lag (λ k. row lag (pos k -ℤ pos lag)) [] zero-le
    ∙ rw (rows_above lag lag (le_refl lag), row-of-sample lag (tabulate (lag * side lag) (offset_at lag)))
    (places_then lag)
