-- "its energy 0": the f64 sum of squares is at most plus zero exactly where the exact one is 0, and that is where all noise is 0. Assumes nothing.
use Rattle.std.proofs.Common.{◌≡◌, ℕ, zero, suc, ◌*◌, ◌^◌, ◌<◌, ◌≤◌, Bool, true, false, List, ℤ, pos, negsuc, ◌*ℤ◌, nat_abs, ◌≤ℤ◌, sym, refl, ap, ◌∙◌, true≢false, le_trans, le_refl, zero-lt-suc, mul-le-mul, mul-pos, arith, lit≤}
use lib.Ieee.{Float, binary64, le, of_int}
use Rattle.laws.specs.Scaled.{plus_zero}
use Rattle.laws.specs.Sums.{sum_to}
use Rattle.laws.proofs.AtMostZero.{at-most-zero, zero_at_most}
use Rattle.laws.proofs.Sums.{sum_bound, sum_nonneg, sum-zero, terms-zero}
use Rattle.laws.proofs.Whole.{abs-mul-le, square-nonneg}
use Rattle.frame.specs.declared.view.View.{View}
use Rattle.noise.specs.Lines.{noise_limit}
use Rattle.noise.specs.Noise.{Pair, noise_of}
use Rattle.noise.specs.Seen.{seen, Seen}
use Rattle.noise.specs.Steps.{dot_f}
use Rattle.noise.proofs.Steps.{dot-window}
use Rattle.noise.proofs.Seen.{plane-noise-le, seen-plane}
use Rattle.gate.specs.RowCorrelation.{energy_f, energy}
use Rattle.gate.proofs.PlaneSums.{dot-is}

square-some : (n : ℕ) → suc n * suc n ≡ 0 → ⊥
square-some n e = let h : 0 < suc n * suc n = mul-pos (zero-lt-suc n) (zero-lt-suc n) in omega arith

square-zero : (z : ℤ) → z *ℤ z ≡ pos 0 → z ≡ pos 0
square-zero (pos zero) e = refl
square-zero (pos (suc n)) e = absurd (square-some n (ap nat_abs e))
square-zero (negsuc n) e = absurd (square-some n (ap nat_abs e))

module _ (p : Pair) where
  -- the energy of `lag_h_rho`, row by row, is that of the gates
  pub energy-dot : energy_f p ≡ dot_f p p
  unfolding energy_f
  energy-dot = sym (dot-window p p refl refl)

  row-nonneg : (r : ℕ) → pos 0 ≤ℤ sum_to (λ c. noise_of p r c *ℤ noise_of p r c) p.width
  row-nonneg r = sum_nonneg _ p.width (λ c l. square-nonneg (noise_of p r c))

  pub not_negative : pos 0 ≤ℤ energy p
  not_negative = sum_nonneg _ p.height (λ r l. row-nonneg r)

  -- all noise is 0
  pub no-noise : energy p ≡ pos 0 → (r c : ℕ) → r < p.height → c < p.width → noise_of p r c ≡ pos 0
  no-noise e r c k l =
      square-zero (noise_of p r c)
      (terms-zero (λ c. noise_of p r c *ℤ noise_of p r c) p.width (λ c m. square-nonneg (noise_of p r c)) (terms-zero _ p.height (λ r m. row-nonneg r) e r k) c l)

  pub no-energy : ((r c : ℕ) → r < p.height → c < p.width → noise_of p r c ≡ pos 0) → energy p ≡ pos 0
  no-energy e = sum-zero _ p.height (λ r k. sum-zero _ p.width (λ c l. ap (λ (z : ℤ). z *ℤ z) (e r c k l)))

module _ {v : View} {s d : List ℕ} (S : Seen v s d) where
  abbrev p : Pair
  p = seen v s d

  pub energy-small : nat_abs (energy p) ≤ 2 ^ 53
  energy-small =
      le_trans (sum_bound _ (v.width * (noise_limit * noise_limit)) v.height
      (λ r l. sum_bound _ (noise_limit * noise_limit) v.width (λ c m. abs-mul-le (noise_of p r c) (noise_of p r c) noise_limit noise_limit (plane-noise-le (seen-plane S) r c l m) (plane-noise-le (seen-plane S) r c l m))))
      (le_trans (mul-le-mul S.low (mul-le-mul S.narrow (le_refl (noise_limit * noise_limit)))) (lit≤ tt))

  pub energy-float : of_int binary64 (energy p) ≡ dot_f p p
  energy-float = dot-is S S (record { width = refl; height = refl }) refl

  pub found-zero : le (dot_f p p) plus_zero ≡ true → energy p ≡ pos 0
  found-zero t = at-most-zero (energy p) (not_negative p) energy-small (ap (λ (x : Float). le x plus_zero) energy-float ∙ t)

  pub zero-found : energy p ≡ pos 0 → le (dot_f p p) plus_zero ≡ true
  zero-found e = ap (λ (x : Float). le x plus_zero) (sym energy-float ∙ ap (of_int binary64) e) ∙ zero_at_most

  -- and is above it where the exact one is not 0
  pub some-found : (energy p ≡ pos 0 → ⊥) → le (dot_f p p) plus_zero ≡ false
  some-found n = go (le (dot_f p p) plus_zero) found-zero
    where
      go : (b : Bool) → (b ≡ true → energy p ≡ pos 0) → b ≡ false
      go true f = absurd (n (f refl))
      go false f = refl

  pub found_some : le (dot_f p p) plus_zero ≡ false → energy p ≡ pos 0 → ⊥
  found_some t e = true≢false (sym (zero-found e) ∙ t)
