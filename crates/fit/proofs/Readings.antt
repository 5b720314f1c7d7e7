-- Coefficients and marks are two readings of the same values: a part of what a reading tells of a fit is told by the reading of that part. So a fit's coefficients and marks are those of its list of both (`luma-read`, `chroma-read`). Assumes nothing.
use Rattle.std.proofs.Common.{◌≡◌, ℕ, Bool, true, false, cond, ◌||◌, eqb, List, length, get_or, sym, refl, ap, ◌∙◌, arith}
use lib.Ieee.{le}
use Rattle.laws.specs.Scaled.{plus_zero}
use Rattle.laws.specs.Table.{tabulate}
use Rattle.laws.proofs.Table.{get_d_tabulate, tabulate-same, map-tabulate}
use Rattle.float.specs.Mark.{number}
use Rattle.float.specs.Reading.{Reading, coefficients, marks, both}
use Rattle.float.proofs.Reading.{part}
use Rattle.float.specs.declared.quant.Quantised.{Quantised}
use Rattle.noise.specs.Average.{Luma}
use Rattle.noise.specs.Noise.{Pair}
use Rattle.solve.specs.Elimination.{Row}
use Rattle.fit.specs.Steps.{zeros, quantised, coefficients_of, too_small, energy_f, luma_fit, chroma_fit}
use Rattle.fit.specs.Answer.{first_of}
use Rattle.fit.specs.Record.{coefficients_in, marks_in}
use Rattle.fit.specs.Words.{luma_solved, chroma_solved}
use Rattle.fit.proofs.Places.{quantised-at}

-- y is what f tells of the 25 of x
record Told {A B : Type 0} (R : Reading A) (f : A → B) (x : List A) (y : List B) : Type 0 where
  whole : tabulate 25 (λ i. f (get_or x i R.unquantised)) ≡ y

module _ {A B : Type 0} (R : Reading A) (f : A → B) where
  abbrev S : Reading B
  S = part f R

  zeros-told : Told R f (zeros R) (zeros S)
  zeros-told = record { whole = refl }

  quantised-told : (x : Row) → Told R f (quantised R x) (quantised S x)
  unfolding quantised
  quantised-told x = record { whole = tabulate-same 25 _ _ (λ i l. ap f (quantised-at R x i l)) }

  either : (b : Bool) {x x' : List A} {y y' : List B} → Told R f x y → Told R f x' y' → Told R f (cond b x x') (cond b y y')
  either true p q = p
  either false p q = q

  luma-told : (plane : Pair) (lag : ℕ) → Told R f (luma_fit R plane lag) (luma_fit S plane lag)
  unfolding luma_fit coefficients_of
  luma-told plane lag =
      let r = luma_solved plane lag in
      either (eqb lag 0 || too_small plane lag) zeros-told (either (le (energy_f plane lag) plus_zero) zeros-told (either r.found (quantised-told r.solution.values) zeros-told))

  chroma-told : (luma : Luma) (plane : Pair) (lag : ℕ) → tabulate 25 (λ i. f (get_or (chroma_fit R luma plane lag) i R.unquantised)) ≡ chroma_fit S luma plane lag
  unfolding chroma_fit coefficients_of
  chroma-told luma plane lag =
      let r = chroma_solved luma plane lag in
      (either (eqb (length plane.source) 0 || too_small plane lag) zeros-told (either r.found (quantised-told r.solution.values) zeros-told)).whole

  -- luma's at most 24
  first-told : (plane : Pair) (lag : ℕ) → tabulate 24 (λ i. f (get_or (luma_fit R plane lag) i R.unquantised)) ≡ first_of S (luma_fit S plane lag)
  unfolding first_of
  first-told plane lag =
      tabulate-same 24 _ _
      (λ i l. sym (get_d_tabulate 25 (λ k. f (get_or (luma_fit R plane lag) k R.unquantised)) i S.unquantised (omega arith)) ∙ ap (λ (y : List B). get_or y i S.unquantised) (luma-told plane lag).whole)

-- ---- the list of both, as C has it
pub luma-read : (plane : Pair) (lag : ℕ) (x : List Quantised) → x ≡ first_of both (luma_fit both plane lag)
    → (coefficients_in x ≡ first_of coefficients (luma_fit coefficients plane lag)) × (marks_in x ≡ first_of marks (luma_fit marks plane lag))
unfolding first_of
luma-read plane lag x e =
    let entry = λ (i : ℕ). get_or (luma_fit both plane lag) i both.unquantised in (
      ap coefficients_in e ∙ map-tabulate (λ q. q.coefficient) 24 entry ∙ first-told both (λ q. q.coefficient) plane lag,
      ap marks_in e ∙ map-tabulate (λ q. number q.mark) 24 entry ∙ first-told both (λ q. number q.mark) plane lag,
    )

pub chroma-read : (luma : Luma) (plane : Pair) (lag : ℕ) (x : List Quantised) → x ≡ chroma_fit both luma plane lag
    → (coefficients_in x ≡ chroma_fit coefficients luma plane lag) × (marks_in x ≡ chroma_fit marks luma plane lag)
chroma-read luma plane lag x e =
    let entry = λ (i : ℕ). get_or (chroma_fit both luma plane lag) i both.unquantised in
    let whole : x ≡ tabulate 25 entry = e ∙ sym (chroma-told both (λ q. q) luma plane lag) in (
      ap coefficients_in whole ∙ map-tabulate (λ q. q.coefficient) 25 entry ∙ chroma-told both (λ q. q.coefficient) luma plane lag,
      ap marks_in whole ∙ map-tabulate (λ q. number q.mark) 25 entry ∙ chroma-told both (λ q. number q.mark) luma plane lag,
    )
