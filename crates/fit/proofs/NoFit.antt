-- "No fit" is the answer of an accepted call exactly in the scope's cases. Assumes nothing.
use Rattle.std.proofs.Common.{◌≡◌, ℕ, zero, suc, ◌*◌, ◌^◌, ◌<◌, ◌≤◌, Bool, true, false, cond, ◌||◌, eqb, leb, List, get_or, ℤ, pos, nat_abs, sym, refl, ap, ◌∙◌, ⊎_elim, true≢false, le_trans, le_refl, lt_of_lt_of_le, le_of_suc-le-suc, le_of_lt, eq-or-lt_of_le, arith, lit≤, eqb-true, leb-false, leb-true}
use mathlib.Core.Bool.{and-eq-true_iff}
use native.Mathlib.Nat.{le-suc}
use lib.Ieee.{le}
use borrow.Author.Tests.{eqb-false}
use Rattle.laws.specs.Limits.{plane_limit, sample_limit}
use Rattle.laws.specs.Scaled.{plus_zero}
use Rattle.float.specs.Reading.{coefficients}
use Rattle.frame.specs.Calls.{fit_refusal}
use Rattle.frame.specs.Planes.{view_of}
use Rattle.frame.specs.declared.view.Component.TheVariants.{Y}
use Rattle.frame.specs.declared.Shape.{Shape}
use Rattle.frame.proofs.Accepted.{FitCall, fit-call}
use Rattle.noise.specs.Noise.{Pair, noise_of}
use Rattle.noise.specs.Products.{own}
use Rattle.noise.specs.Claim.{Limited}
use Rattle.noise.specs.Seen.{Seen}
use Rattle.noise.proofs.Accepted.{fit-seen}
use Rattle.noise.proofs.Over.{seen-samples}
use Rattle.positions.specs.Counts.{neighbours}
use Rattle.positions.proofs.Counts.{neighbours-le}
use Rattle.normal.specs.Normal.{entry}
use Rattle.normal.proofs.Bounds.{entry-bound}
use Rattle.solve.specs.declared.Solved.{Solved}
use Rattle.fit.specs.Steps.{zeros, quantised, coefficients_of, energy_f, luma_fit}
use Rattle.fit.specs.Answer.{all_zero, first_of, unfit, fit_of, luma_of, plane_of, fit_answer}
use Rattle.fit.specs.declared.Fit.{Fit}
use Rattle.fit.specs.Words.{luma_solved, NoFit, lag_zero, narrow, short, still, unsolved, white}
use Rattle.fit.proofs.Places.{zeros-at, quantised-at, first-at}
use Rattle.fit.proofs.Zeros.{no_size}
use Rattle.fit.proofs.Energy.{still-flat, flat-still}
use Rattle.fit.proofs.Answers.{accepted-is}

-- ---- all of the first n are 0
each-zero : (x : List ℤ) (n : ℕ) → all_zero x n ≡ true → (i : ℕ) → i < n → get_or x i (pos 0) ≡ pos 0
unfolding all_zero
each-zero x zero t i l = absurd (omega arith)
each-zero x (suc n) t i l =
    let p = (and-eq-true_iff (all_zero x n) (eqb (nat_abs (get_or x n (pos 0))) 0)).0 t in
    ⊎_elim
    (λ e. ap (λ (k : ℕ). get_or x k (pos 0)) e ∙ no_size (get_or x n (pos 0)) (eqb-true _ 0 p.1))
    (λ k. each-zero x n p.0 i k)
    (eq-or-lt_of_le (le_of_suc-le-suc l))

all-zero : (x : List ℤ) (n : ℕ) → ((i : ℕ) → i < n → get_or x i (pos 0) ≡ pos 0) → all_zero x n ≡ true
unfolding all_zero
all-zero x zero h = refl
all-zero x (suc n) h = rw (all-zero x n (λ i l. h i (le_trans l (le-suc n))), h n (le_refl (suc n)))

module _ (plane : Pair) (lag : ℕ) (few : lag ≤ 3) (S : Limited plane_limit sample_limit (own plane))
    (bound : 2 * lag < plane.width → lag < plane.height → nat_abs (entry (noise_of plane) plane.width plane.height lag (neighbours lag) (neighbours lag)) ≤ 2 ^ 53) where
  abbrev w : ℕ
  w = plane.width

  abbrev h : ℕ
  h = plane.height

  abbrev r : Solved
  r = luma_solved plane lag

  abbrev Zero : List ℤ → Type 0
  Zero x = (i : ℕ) → i < neighbours lag → get_or x i (pos 0) ≡ pos 0

  below : (i : ℕ) → i < neighbours lag → i < 25
  below i l = let k : i < 24 = lt_of_lt_of_le l (neighbours-le few) in omega arith

  zeros-zero : Zero (zeros coefficients)
  zeros-zero i l = zeros-at coefficients i (below i l)

  -- the tests of the definition
  abbrev tested : Bool → Bool → Bool → Bool → Bool → List ℤ
  tested a b c d e = cond (a || (b || c)) (zeros coefficients) (cond d (zeros coefficients) (cond e (quantised coefficients r.solution.values) (zeros coefficients)))

  is-tested : luma_fit coefficients plane lag ≡ tested (eqb lag 0) (leb w (2 * lag)) (leb h lag) (le (energy_f plane lag) plus_zero) r.found
  unfolding luma_fit coefficients_of
  is-tested = refl

  case : (a b c d e : Bool) → eqb lag 0 ≡ a → leb w (2 * lag) ≡ b → leb h lag ≡ c → le (energy_f plane lag) plus_zero ≡ d → r.found ≡ e
      → Zero (tested a b c d e) → NoFit plane lag
  case true b c d e p q s t u z = lag_zero (eqb-true lag 0 p)
  case false true c d e p q s t u z = narrow (leb-true w (2 * lag) q)
  case false false true d e p q s t u z = short (leb-true h lag s)
  case false false false true e p q s t u z =
      still (flat-still plane lag S (bound (leb-false w (2 * lag) q) (leb-false h lag s)) t)
  case false false false false false p q s t u z = unsolved u
  case false false false false true p q s t u z = white (λ i l. sym (quantised-at coefficients r.solution.values i (below i l)) ∙ z i l)

  pub is-case : Zero (luma_fit coefficients plane lag) → NoFit plane lag
  is-case z = case _ _ _ _ _ refl refl refl refl refl (λ i l. sym (ap (λ (x : List ℤ). get_or x i (pos 0)) is-tested) ∙ z i l)

  -- each case leaves zeros
  leaves : (a b c d e : Bool) → eqb lag 0 ≡ a → leb w (2 * lag) ≡ b → leb h lag ≡ c → le (energy_f plane lag) plus_zero ≡ d → r.found ≡ e
      → NoFit plane lag → Zero (tested a b c d e)
  leaves true b c d e p q s t u n = zeros-zero
  leaves false true c d e p q s t u n = zeros-zero
  leaves false false true d e p q s t u n = zeros-zero
  leaves false false false true e p q s t u n = zeros-zero
  leaves false false false false false p q s t u n = zeros-zero
  leaves false false false false true p q s t u (lag_zero z) = absurd (eqb-false lag 0 p z)
  leaves false false false false true p q s t u (narrow z) = absurd (omega (arith, leb-false w (2 * lag) q))
  leaves false false false false true p q s t u (short z) = absurd (omega (arith, leb-false h lag s))
  leaves false false false false true p q s t u (still z) = absurd (true≢false (sym (still-flat plane lag S z) ∙ t))
  leaves false false false false true p q s t u (unsolved z) = absurd (true≢false (sym u ∙ z))
  leaves false false false false true p q s t u (white z) = λ i l. quantised-at coefficients r.solution.values i (below i l) ∙ z i l

  pub case-is : NoFit plane lag → Zero (luma_fit coefficients plane lag)
  case-is n i l = ap (λ (x : List ℤ). get_or x i (pos 0)) is-tested ∙ leaves _ _ _ _ _ refl refl refl refl refl n i l

-- ---- the answer
picked : (b : Bool) (f : Fit) → f.found ≡ true → (cond b (unfit 0) f).found ≡ false → b ≡ true
picked true f h e = refl
picked false f h e = absurd (true≢false (sym h ∙ e))

module _ (s : Shape) (y cb cr y-denoised cb-denoised cr-denoised : List ℕ) (lag : ℕ) (passed : fit_refusal s y cb cr y-denoised cb-denoised cr-denoised lag ≡ 0) where
  facts : FitCall s y cb cr y-denoised cb-denoised cr-denoised lag
  facts = fit-call s y cb cr y-denoised cb-denoised cr-denoised lag passed

  abbrev plane : Pair
  plane = (luma_of s y y-denoised).plane

  visible : Seen (view_of s Y) y y-denoised
  visible = (fit-seen s y cb cr y-denoised cb-denoised cr-denoised lag passed).0.luma

  pub limited : Limited plane_limit sample_limit (own plane)
  limited = seen-samples visible

  pub bounded : 2 * lag < plane.width → lag < plane.height → nat_abs (entry (noise_of plane) plane.width plane.height lag (neighbours lag) (neighbours lag)) ≤ 2 ^ 53
  bounded a b = le_trans (entry-bound visible (record { few = facts.lag-known; columns = le_of_lt a; rows = le_of_lt b }) (neighbours lag) (neighbours lag) (omega arith) (omega arith)) (lit≤ tt)

  is-fit : fit_answer s y cb cr y-denoised cb-denoised cr-denoised lag ≡ fit_of (luma_of s y y-denoised) (plane_of s cb cb-denoised) (plane_of s cr cr-denoised) lag
  is-fit = sym (accepted-is s y cb cr y-denoised cb-denoised cr-denoised lag (sym passed))

  pub no-fit-only : (fit_answer s y cb cr y-denoised cb-denoised cr-denoised lag).found ≡ false → NoFit plane lag
  unfolding fit_of
  no-fit-only e =
      let x = luma_fit coefficients plane lag in
      let t : all_zero (first_of coefficients x) (neighbours lag) ≡ true = picked _ _ refl (sym (λ i. (is-fit i).found) ∙ e) in
      is-case plane lag facts.lag-known limited bounded
      (λ i l. sym (first-at coefficients x i (lt_of_lt_of_le l (neighbours-le facts.lag-known))) ∙ each-zero (first_of coefficients x) (neighbours lag) t i l)

  pub no-fit-if : NoFit plane lag → fit_answer s y cb cr y-denoised cb-denoised cr-denoised lag ≡ unfit 0
  unfolding fit_of
  no-fit-if n = is-fit ∙ rw all
    where
      all : all_zero (first_of coefficients (luma_fit coefficients plane lag)) (neighbours lag) ≡ true
      all = all-zero _ (neighbours lag) (λ i l. first-at coefficients (luma_fit coefficients plane lag) i (lt_of_lt_of_le l (neighbours-le facts.lag-known))
          ∙ case-is plane lag facts.lag-known limited bounded n i l)
