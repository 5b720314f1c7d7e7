-- A gate says yes exactly if every test passes, in the scope's words: test by test along the definition. Assumes nothing.
use Rattle.std.proofs.Common.{◌≡◌, ℕ, zero, suc, ◌-◌, ◌*◌, Bool, true, false, cond, Err, eqb, ltb, List, sym, refl, ap, ◌∙◌, ltb-false, le-ltb, ne_eqb}
use mathlib.Core.Bool.{false≢true}
use lib.Ieee.{Float, le}
use borrow.Author.Tests.{eqb-false}
use Rattle.laws.specs.Constants.{three_quarters}
use Rattle.laws.specs.Scaled.{plus_zero}
use Rattle.frame.specs.Planes.{view_of}
use Rattle.frame.specs.Questions.{accepted}
use Rattle.frame.specs.Calls.{gate_refusal}
use Rattle.frame.specs.declared.Shape.{Shape}
use Rattle.frame.specs.declared.view.View.{View}
use Rattle.frame.specs.declared.view.Component.TheVariants.{Y, CbCr}
use Rattle.float.specs.Magnitude.{magnitude_of}
use Rattle.noise.specs.Noise.{Pair}
use Rattle.noise.specs.Seen.{seen, Seen}
use Rattle.noise.specs.Steps.{dot_f}
use Rattle.noise.proofs.SeenCalls.{first-seen, second-seen}
use Rattle.gate.specs.RowCorrelation.{row_correlation}
use Rattle.gate.specs.Tests.{Finding, Passed, luma_row, temporal_by, luma_by, luma_finding, luma_sigma16, luma_of, chroma_by, chroma_finding, is_passed}
use Rattle.gate.specs.Answers.{refused_gate, found_gate, luma_answer, chroma_answer}
use Rattle.gate.specs.Passes.{LumaPasses, ChromaPasses}
use Rattle.gate.proofs.EnergyZero.{some-found, found_some}
use Rattle.gate.proofs.LumaRow.{luma-row}
use Rattle.gate.specs.declared.finding.Failure.TheVariants.{LowSigma, EmptyPlane, NoEnergyFirst, RowCorrelated, NoEnergySecond, TimeCorrelated}

-- a test that ends with a no is not met, and what follows says yes
after : (b : Bool) (end rest : Finding) → is_passed end ≡ false → is_passed (cond b end rest) ≡ true → (b ≡ false) × (is_passed rest ≡ true)
after true end rest n e = absurd (false≢true (sym n ∙ e))
after false end rest n e = (refl, e)

last : (b : Bool) → is_passed (cond b Passed (Err TimeCorrelated)) ≡ true → b ≡ true
last true e = refl
last false e = absurd (false≢true e)

-- ---- the gates, of what a view shows
module _ (sigma16 : ℕ) {v : View} {a b c d : List ℕ} (S : Seen v a b) (T : Seen v c d) where
  abbrev p : Pair
  p = seen v a b

  abbrev q : Pair
  q = seen v c d

  luma-yes : is_passed (luma_finding sigma16 p q) ≡ true → LumaPasses sigma16 p q
  unfolding luma_by temporal_by
  luma-yes e =
      let a = after (ltb sigma16 16) (Err LowSigma) _ refl e in
      let b = after (le (dot_f p p) plus_zero) (Err NoEnergyFirst) _ refl a.1 in
      let c = after (le three_quarters (magnitude_of (luma_row p (dot_f p p)))) (Err RowCorrelated) _ refl b.1 in
      let d = after (le (dot_f q q) plus_zero) (Err NoEnergySecond) _ refl c.1 in
      let n = found_some S b.0 in
      record {
        sigma = ltb-false sigma16 16 a.0;
        first = n;
        row = ap (λ (x : Float). le three_quarters (magnitude_of x)) (sym (luma-row S n)) ∙ c.0;
        second = found_some T d.0;
        time = last _ d.1;
      }

  luma-passes : LumaPasses sigma16 p q → is_passed (luma_finding sigma16 p q) ≡ true
  unfolding luma_by temporal_by
  luma-passes t = rw (le-ltb sigma16 16 t.sigma, some-found S t.first, luma-row S t.first, t.row, some-found T t.second, t.time)

  chroma-yes : is_passed (chroma_finding sigma16 p q) ≡ true → ChromaPasses sigma16 p q
  unfolding chroma_by temporal_by
  chroma-yes e =
      let a = after (ltb sigma16 8) (Err LowSigma) _ refl e in
      let n = after (eqb (p.width * p.height) 0) (Err EmptyPlane) _ refl a.1 in
      let c = after (le three_quarters (magnitude_of (row_correlation p 1))) (Err RowCorrelated) _ refl n.1 in
      let b = after (le (dot_f p p) plus_zero) (Err NoEnergyFirst) _ refl c.1 in
      let d = after (le (dot_f q q) plus_zero) (Err NoEnergySecond) _ refl b.1 in
      record { sigma = ltb-false sigma16 8 a.0; filled = eqb-false (p.width * p.height) 0 n.0; row = c.0; first = found_some S b.0; second = found_some T d.0; time = last _ d.1 }

  chroma-passes : ChromaPasses sigma16 p q → is_passed (chroma_finding sigma16 p q) ≡ true
  unfolding chroma_by temporal_by
  chroma-passes t = rw (le-ltb sigma16 8 t.sigma, ne_eqb (p.width * p.height) 0 t.filled, t.row, some-found S t.first, some-found T t.second, t.time)

-- ---- the calls
yes_of : (n : ℕ) (f : Finding) → (accepted n (found_gate f) (refused_gate n)).yes ≡ true → (n ≡ 0) × (is_passed f ≡ true)
yes_of zero f e = (refl, e)
yes_of (suc n) f e = absurd (false≢true e)

module _ (s : Shape) (a b c d : List ℕ) where
  abbrev LumaTests : Type 0
  LumaTests = let v = view_of s Y in LumaPasses (luma_sigma16 (s.depth - 8) (seen v a b)) (seen v a b) (seen v c d)

  pub film-grain-probe-yes : (luma_answer s a b c d).yes ≡ true → (gate_refusal s Y a b c d ≡ 0) × LumaTests
  unfolding luma_answer
  film-grain-probe-yes e = let p = yes_of (gate_refusal s Y a b c d) (let v = view_of s Y in luma_of (s.depth - 8) (seen v a b) (seen v c d)) e in (p.0, luma-yes _ (first-seen s Y a b c d p.0) (second-seen s Y a b c d p.0) p.1)

  pub film-grain-probe-passes : gate_refusal s Y a b c d ≡ 0 → LumaTests → (luma_answer s a b c d).yes ≡ true
  unfolding luma_answer
  film-grain-probe-passes e t = rw e (luma-passes _ (first-seen s Y a b c d e) (second-seen s Y a b c d e) t)

  abbrev ChromaTests : ℕ → Type 0
  ChromaTests sigma16 = let v = view_of s CbCr in ChromaPasses sigma16 (seen v a b) (seen v c d)

  pub chroma-noise-gate-yes : (sigma16 : ℕ) → (chroma_answer s a b c d sigma16).yes ≡ true → (gate_refusal s CbCr a b c d ≡ 0) × ChromaTests sigma16
  unfolding chroma_answer
  chroma-noise-gate-yes sigma16 e = let p = yes_of (gate_refusal s CbCr a b c d) (let v = view_of s CbCr in chroma_finding sigma16 (seen v a b) (seen v c d)) e in (p.0, chroma-yes _ (first-seen s CbCr a b c d p.0) (second-seen s CbCr a b c d p.0) p.1)

  pub chroma-noise-gate-passes : (sigma16 : ℕ) → gate_refusal s CbCr a b c d ≡ 0 → ChromaTests sigma16 → (chroma_answer s a b c d sigma16).yes ≡ true
  unfolding chroma_answer
  chroma-noise-gate-passes sigma16 e t = rw e (chroma-passes _ (first-seen s CbCr a b c d e) (second-seen s CbCr a b c d e) t)
