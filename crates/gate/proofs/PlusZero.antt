-- "Plus zero if lag is 0, width is at most lag, height is 0 or the energy is 0": each is one of the definition's tests; an energy of 0 is plus zero by demand 3. Assumes nothing.
use Rattle.std.proofs.Common.{◌≡◌, ℕ, ◌≤◌, Bool, true, false, cond, ◌||◌, eqb, leb, List, pos, sym, refl, ap, ◌∙◌, eq-eqb, le-leb}
use lib.Ieee.{Float, binary64, le, of_int, of_bits}
use Rattle.laws.specs.Scaled.{plus_zero}
use Rattle.frame.specs.declared.view.View.{View}
use Rattle.noise.specs.Noise.{Pair}
use Rattle.noise.specs.Seen.{seen, Seen}
use Rattle.gate.specs.RowCorrelation.{energy_f, energy, row_correlation}
use Rattle.gate.proofs.EnergyZero.{energy-dot, energy-float}

any : (b : Bool) → (b || true) ≡ true
any true = refl
any false = refl

either : (b : Bool) (x : Float) → cond b x x ≡ x
either true x = refl
either false x = refl

module _ (p : Pair) (lag : ℕ) where
  pub lag-zero : lag ≡ 0 → row_correlation p lag ≡ plus_zero
  unfolding row_correlation
  lag-zero z = rw (eq-eqb lag 0 z)

  pub narrow-zero : p.width ≤ lag → row_correlation p lag ≡ plus_zero
  unfolding row_correlation
  narrow-zero n = rw (le-leb p.width lag n, any (eqb lag 0))

  pub rowless-zero : p.height ≡ 0 → row_correlation p lag ≡ plus_zero
  unfolding row_correlation
  rowless-zero z = rw (eq-eqb p.height 0 z, any (leb p.width lag), any (eqb lag 0))

  still : energy_f p ≡ plus_zero → row_correlation p lag ≡ plus_zero
  unfolding row_correlation le of_bits
  still e = rw e (either (eqb lag 0 || (leb p.width lag || eqb p.height 0)) plus_zero)

-- the exact energy of what a view shows is 0
pub energy-zero : {v : View} {s d : List ℕ} (lag : ℕ) → Seen v s d → energy (seen v s d) ≡ pos 0 → row_correlation (seen v s d) lag ≡ plus_zero
unfolding of_int of_bits
energy-zero {v} {s} {d} lag S z = still (seen v s d) lag (energy-dot (seen v s d) ∙ sym (energy-float S) ∙ ap (of_int binary64) z)
