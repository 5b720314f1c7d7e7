-- "The answer is a refusal number or an f64, and lies from −1 to 1." Its sums are exact, and the products add up to no more than the energy. Assumes nothing.
use Rattle.std.proofs.Common.{Ok, ◌≡◌, ℕ, zero, suc, ◌<◌, Bool, true, false, cond, not, ◌||◌, T, eqb, leb, List, ℤ, pos, negsuc, nat_abs, ◌≤ℤ◌, sym, refl, ap, ◌∙◌, subst, zero-lt-suc, arith}
use lib.Dec.{nleb→lt}
use lib.Ieee.{Float, binary64, div, le, of_bits, round}
use Rattle.laws.specs.Scaled.{plus_zero, of_scaled}
use Rattle.laws.proofs.Scaled.{scaled-int}
use Rattle.frame.specs.Calls.{pair_refusal}
use Rattle.frame.specs.View.{whole}
use Rattle.frame.specs.declared.view.View.{View}
use Rattle.noise.specs.Noise.{Pair, noise_of}
use Rattle.noise.specs.Seen.{seen, Seen, lagged_sum}
use Rattle.noise.specs.Steps.{lag_f}
use Rattle.noise.proofs.SeenCalls.{pair-seen}
use Rattle.gate.specs.RowCorrelation.{energy_f, energy, row_correlation}
use Rattle.gate.specs.Answers.{rho, rho_answer}
use Rattle.gate.proofs.PlaneSums.{lagged-is}
use Rattle.gate.proofs.EnergyZero.{energy-dot, not_negative, energy-small, energy-float, found_some}
use Rattle.gate.proofs.Energy.{lagged-within}
use Rattle.gate.specs.AtMostOne.{AtMostOne}
use Rattle.gate.proofs.AtMostOne.{quotient-within}

nothing-within : AtMostOne plus_zero
unfolding le of_bits round
nothing-within = record { least = refl; most = refl }

whole-abs : (z : ℤ) → pos 0 ≤ℤ z → z ≡ pos (nat_abs z)
whole-abs (pos n) h = refl
whole-abs (negsuc n) h = absurd h.le

module _ {v : View} {s d : List ℕ} (S : Seen v s d) (lag : ℕ) where
  abbrev p : Pair
  p = seen v s d

  abbrev x : ℕ → ℕ → ℤ
  x r c = noise_of p r c

  -- the energy, as a number that is not negative
  float : energy_f p ≡ of_scaled 0 (pos (nat_abs (energy p)))
  float = energy-dot p ∙ sym (energy-float S) ∙ sym (scaled-int (energy p)) ∙ ap (of_scaled 0) (whole-abs (energy p) (not_negative p))

  some : le (energy_f p) plus_zero ≡ false → 0 < nat_abs (energy p)
  some t = go (energy p) (found_some S (ap (λ (e : Float). le e plus_zero) (sym (energy-dot p)) ∙ t))
    where
      go : (z : ℤ) → (z ≡ pos 0 → ⊥) → 0 < nat_abs z
      go (pos zero) n = absurd (n refl)
      go (pos (suc m)) n = zero-lt-suc m
      go (negsuc m) n = zero-lt-suc m

  quotient : lag < v.width → le (energy_f p) plus_zero ≡ false → AtMostOne (div binary64 (lag_f p lag) (energy_f p))
  quotient l t =
      let a = lagged_sum p p lag in
      subst AtMostOne (λ i. div binary64 ((scaled-int a ∙ lagged-is S lag refl) i) (sym float i))
      (quotient-within a (nat_abs (energy p)) (some t) (energy-small S) (lagged-within x v.height v.width lag (omega arith)))

  pub row_within : AtMostOne (row_correlation p lag)
  unfolding row_correlation
  row_within = go (eqb lag 0) (leb v.width lag) (eqb v.height 0) (le (energy_f p) plus_zero) (nleb→lt v.width lag) refl
    where
      go : (a b c t : Bool) → (T (not b) → lag < v.width) → le (energy_f p) plus_zero ≡ t
          → AtMostOne (cond (a || (b || c)) plus_zero (cond t plus_zero (div binary64 (lag_f p lag) (energy_f p))))
      go true b c t l e = nothing-within
      go false true c t l e = nothing-within
      go false false true t l e = nothing-within
      go false false false true l e = nothing-within
      go false false false false l e = quotient (l tt) e

-- what the call answers, where it is no refusal
pub answer-within : (s d : List ℕ) (w h lag depth : ℕ) (x : Float) → rho_answer s d w h lag depth ≡ Ok x → AtMostOne x
unfolding rho_answer
answer-within s d w h lag depth x e = go (pair_refusal w h depth s d) refl e
  where
    go : (n : ℕ) → pair_refusal w h depth s d ≡ n → rho n (row_correlation (seen (whole w h) s d) lag) ≡ Ok x → AtMostOne x
    go zero a v =
        let f : row_correlation (seen (whole w h) s d) lag ≡ x = cc in
        subst AtMostOne f (row_within (pair-seen w h depth s d a) lag)
    go (suc n) a v = let z : ◌≡◌ {A = ℕ} 0 1 = cc in absurd (omega arith)
