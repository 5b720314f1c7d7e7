-- A neighbour, as a factor: it is one of the fit's, it reaches the place that `neighbour` counts to, and the last is the sample itself. Assumes nothing.
use Rattle.std.proofs.Common.{◌≡◌, ℕ, zero, suc, ◌+◌, ◌-◌, ◌*◌, ◌/◌, ◌%◌, ◌<◌, ◌≤◌, Bool, true, false, cond, ltb, get_or, pos, negsuc, ◌+ℤ◌, ◌-ℤ◌, neg_ℤ, nat_abs, ◌≤ℤ◌, sym, ap, ◌∙◌, subst, ⊎_elim, zero-le, le_of_eq, lt_of_lt_of_le, mod-lt, div-lt_iff_lt-mul, eq-or-lt_of_le, arith, le→leb}
use lib.Arith.{digits_div, digits_mod}
use lib.IntN.{+ℤ_assoc, +ℤ_invr, +ℤ-neg_ℤ_cancel}
use lib.ListN.{get_or-eq_default}
use lib.Signed.{le_z_yes}
use Rattle.noise.specs.Noise.{Pair, noise_of}
use Rattle.noise.specs.Products.{Factor, noise_from, own, whole}
use Rattle.noise.specs.Steps.{InFit, near}
use Rattle.positions.specs.Counts.{side, neighbours, factors}
use Rattle.positions.specs.Positions.{positions}
use Rattle.positions.specs.Neighbours.{sample}
use Rattle.positions.proofs.Counts.{factors-le, factors-rows}
use Rattle.positions.proofs.Neighbours.{positions-neighbours}
use Rattle.positions.proofs.Filter.{position_at}
use Rattle.normal.specs.Normal.{neighbour}
use Rattle.fit.specs.Steps.{neighbour_of}

-- ---- a - lag, for a from 0 to lag + m
low-cut : (b : Bool) (a l : ℕ) → negsuc l ≤ℤ cond b (negsuc (suc l - suc a)) (pos (a - suc l))
low-cut true a l = le_z_yes (le→leb (suc l - suc a) l (omega arith))
low-cut false a l = le_z_yes tt

high_cut : (b : Bool) (a l m : ℕ) → a ≤ suc l + m → cond b (negsuc (suc l - suc a)) (pos (a - suc l)) ≤ℤ pos m
high_cut true a l m h = le_z_yes tt
high_cut false a l m h = le_z_yes (le→leb (a - suc l) m (omega arith))

low : (a lag : ℕ) → neg_ℤ (pos lag) ≤ℤ (pos a -ℤ pos lag)
low a zero = le_z_yes (le→leb 0 (a + 0) zero-le)
low a (suc l) = low-cut (ltb a (suc l)) a l

high : (a lag m : ℕ) → a ≤ lag + m → (pos a -ℤ pos lag) ≤ℤ pos m
high a zero m h = le_z_yes (le→leb (a + 0) m (omega arith))
high a (suc l) m h = high_cut (ltb a (suc l)) a l m h

-- from y, so many rows or columns on
on : (y a lag : ℕ) → lag ≤ y → pos y +ℤ (pos a -ℤ pos lag) ≡ pos (y - lag + a)
on y a lag h =
    let e : y + a ≡ y - lag + a + lag = omega arith in
    sym (+ℤ_assoc (pos y) (pos a) (neg_ℤ (pos lag))) ∙ ap (λ (n : ℕ). pos n -ℤ pos lag) e ∙ +ℤ-neg_ℤ_cancel (pos (y - lag + a)) (pos lag)

-- ---- a neighbour, or the sample

-- counted along the rows
abbrev pub counted : Pair → ℕ → ℕ → Factor
counted plane lag i = noise_from plane (pos (i / side lag) -ℤ pos lag) (pos (i % side lag) -ℤ pos lag)

last-counted : (plane : Pair) (lag : ℕ) → counted plane lag (neighbours lag) ≡ own plane
last-counted plane lag =
    let e : neighbours lag ≡ lag * side lag + lag = omega (arith, factors-rows lag) in
    let l : lag < side lag = omega arith in
    ap (counted plane lag) e
    ∙ (λ t. noise_from plane (pos (digits_div lag l t) -ℤ pos lag) (pos (digits_mod lag l t) -ℤ pos lag))
    ∙ (λ t. noise_from plane (+ℤ_invr (pos lag) t) (+ℤ_invr (pos lag) t))

pub last-own : (plane : Pair) (lag : ℕ) → neighbour_of plane lag (neighbours lag) ≡ own plane
last-own plane lag = (λ t. let p = past t in noise_from plane p.0 p.1)
  where
    past : get_or (positions lag) (neighbours lag) sample ≡ sample
    past = get_or-eq_default (positions lag) sample (le_of_eq (positions-neighbours lag).number)

pub is-counted : (plane : Pair) (lag i : ℕ) → i < factors lag → neighbour_of plane lag i ≡ counted plane lag i
is-counted plane lag i l =
    ⊎_elim
    (λ e. ap (neighbour_of plane lag) e ∙ last-own plane lag ∙ sym (last-counted plane lag) ∙ ap (counted plane lag) (sym e))
    (λ k. (λ t. let p = position_at lag i k t in noise_from plane p.0 p.1))
    (eq-or-lt_of_le (under l))
  where
    under : i < factors lag → i ≤ neighbours lag
    under l = omega arith

pub counted-near : (plane : Pair) (lag i : ℕ) → i < factors lag → InFit plane lag (counted plane lag i)
counted-near plane lag i l =
    near _ _ (low (i / side lag) lag) (high (i / side lag) lag 0 row) (low (i % side lag) lag) (high (i % side lag) lag lag column)
  where
    some : 0 < side lag
    some = omega arith

    row : i / side lag ≤ lag + 0
    row = omega (arith, (div-lt_iff_lt-mul some).1 (lt_of_lt_of_le l (factors-le lag)))

    column : i % side lag ≤ lag + lag
    column = omega (arith, mod-lt i some)

pub neighbour-near : (plane : Pair) (lag i : ℕ) → i < factors lag → InFit plane lag (neighbour_of plane lag i)
neighbour-near plane lag i l = subst (InFit plane lag) (sym (is-counted plane lag i l)) (counted-near plane lag i l)

-- its noise
pub counted-noise : (plane : Pair) (lag i y x : ℕ) → lag ≤ y → lag ≤ x
    → whole plane (pos (i / side lag) -ℤ pos lag) (pos (i % side lag) -ℤ pos lag) (y, x) ≡ neighbour (noise_of plane) lag i y x
counted-noise plane lag i y x a b = λ t. noise_of plane (nat_abs (on y (i / side lag) lag a t)) (nat_abs (on x (i % side lag) lag b t))
