-- The specification's walk visits the neighbours by number: the Rust's list. Assumes nothing.
use mathlib.Core.Path.{◌≡◌, refl, sym, ap, ◌∙◌}
use mathlib.Core.Bool.{true, false, and-false}
use mathlib.Core.List.{List, [], ◌∷◌, ◌++◌, append-nil, append_assoc}
use mathlib.Core.Logic.{⊎_elim}
use Prim.Native.Nat.{ℕ, zero, suc, ◌+◌, ◌*◌, ◌/◌, ◌%◌, ◌≤◌, ◌<◌}
use native.Mathlib.Nat.{zero-mul, add-mul, mul-le-mul_right, div-add-mod', le_refl, le_trans, le-suc}
use native.Mathlib.Numerals.{add-one}
use native.Mathlib.Omega.{arith}
use lib.Dec.{eqb}
use lib.IntN.{ℤ, pos, nat_abs, ◌-ℤ◌}
use Rattle.laws.specs.Table.{tabulate}
use Rattle.std.proofs.lemmas.Bool.{cases_lt}
use Rattle.laws.proofs.Table.{map-tabulate, tabulate-add}
use Rattle.positions.specs.Counts.{side, neighbours}
use Rattle.positions.specs.Text.{Delta, from_minus, visit_rows, visits, is_sample, up_to_sample, walk}
use Rattle.positions.specs.Positions.{positions}
use Rattle.positions.proofs.Counts.{factors-rows}
use Rattle.positions.proofs.Offsets.{is_zero, is-not-zero}
use Rattle.positions.proofs.Places.{offset_at, rows_then, place_is, all-rows}
use Rattle.positions.proofs.Steps.{positions-are}

-- places that are not the sample are all visited, before what follows them
passed : (n : ℕ) (g : ℕ → Delta) (ps : List Delta) → ((j : ℕ) → j < n → is_sample (g j) ≡ false)
    → up_to_sample (tabulate n g ++ ps) ≡ tabulate n g ++ up_to_sample ps
unfolding up_to_sample
passed zero g ps h = refl
passed (suc n) g ps h =
    ap up_to_sample (append_assoc (tabulate n g) (g n ∷ []) ps)
    ∙ passed n g (g n ∷ ps) (λ j l. h j (le_trans l (le-suc n)))
    ∙ rw (h n (le_refl (suc n)), append_assoc)

-- all places, row by row
rows_append : (lag : ℕ) (rs qs : List ℤ) → visit_rows lag (rs ++ qs) ≡ visit_rows lag rs ++ visit_rows lag qs
unfolding visit_rows
rows_append lag [] qs = refl
rows_append lag (r ∷ rs) qs = rw (rows_append lag rs qs, append_assoc)

rows_are : (lag k : ℕ) → visit_rows lag (from_minus lag k) ≡ tabulate (k * side lag) (offset_at lag)
unfolding visit_rows
rows_are lag zero = rw (zero-mul (side lag))
rows_are lag (suc k) =
    rows_append lag (from_minus lag k) ((pos k -ℤ pos lag) ∷ [])
    ∙ rw (rows_are lag k, append-nil, map-tabulate) (rows_then lag k)

-- the neighbours, the sample, and the rest of its row
pub visits-are : (lag : ℕ) → visits lag ≡ tabulate (neighbours lag) (offset_at lag) ++ (offset_at lag (neighbours lag) ∷ tabulate lag (λ j. offset_at lag (neighbours lag + 1 + j)))
unfolding visits
visits-are lag =
    let e : (lag + 1) * side lag ≡ neighbours lag + 1 + lag = omega (arith, factors-rows lag, add-mul lag 1 (side lag)) in
    rows_are lag (lag + 1)
    ∙ ap (λ (n : ℕ). tabulate n (offset_at lag)) e
    ∙ tabulate-add (neighbours lag + 1) lag (offset_at lag)
    ∙ rw (add-one (neighbours lag)) (append_assoc (tabulate (neighbours lag) (offset_at lag)) (offset_at lag (neighbours lag) ∷ []) _)

-- a neighbour is not the sample, which comes after the last of them
not-sample : (lag i : ℕ) → i < neighbours lag → is_sample (offset_at lag i) ≡ false
not-sample lag i h = ⊎_elim (λ l. rw (is-not-zero (i / side lag) lag l)) (λ g. rw (is-not-zero (i % side lag) lag (early g)) (and-false (eqb (nat_abs (pos (i / side lag) -ℤ pos lag)) 0))) (cases_lt (i / side lag) lag)
  where
    early : lag ≤ i / side lag → i % side lag < lag
    early g = omega (arith, h, all-rows lag, div-add-mod' i (side lag), mul-le-mul_right (side lag) g)

pub is-sample : (lag : ℕ) → is_sample (offset_at lag (neighbours lag)) ≡ true
is-sample lag =
    let l : lag < side lag = omega arith in
    ap (λ (i : ℕ). is_sample (offset_at lag i)) (sym (all-rows lag)) ∙ ap is_sample (place_is lag lag lag l) ∙ rw (is_zero lag)

pub walk_is : (lag : ℕ) → walk lag ≡ tabulate (neighbours lag) (offset_at lag)
unfolding walk up_to_sample
walk_is lag =
    ap up_to_sample (visits-are lag)
    ∙ passed (neighbours lag) (offset_at lag) _ (not-sample lag)
    ∙ rw (is-sample lag, append-nil)

-- the specification's order is the Rust's
pub walk-is-positions : (lag : ℕ) → walk lag ≡ positions lag
walk-is-positions lag = walk_is lag ∙ sym (positions-are lag)
