-- Both gates find the same where `dot` starts its sums at minus zero, as the Rust's `sum()` does: only the sign of a sum that is zero can differ, an energy of either ends a gate, and of the cross sum the magnitude is taken. Assumes nothing.
use Rattle.std.proofs.Common.{◌≡◌, ℕ, zero, suc, ◌*◌, ◌<◌, Bool, true, false, cond, Err, eqb, ltb, sym, refl, ap, ◌∙◌, inl, inr, zero-lt-suc, mul-pos, zero-mul}
use lib.Ieee.{Float, nan, inf, fin, binary64, up, down, unlike, round, div, mul, le, lt, of_bits}
use lib.Ieee.Fits.{up_pos}
use borrow.Author.Tests.{eqb-false}
use Rattle.laws.specs.Constants.{three_quarters, two_fifths}
use Rattle.laws.specs.Scaled.{plus_zero, minus_zero}
use Rattle.laws.proofs.ZeroSign.{ButZeroSign, round-minus, round-plus, loop-sign, at-most-same, above_same}
use Rattle.float.specs.Magnitude.{magnitude_of}
use Rattle.float.specs.Root.{root}
use Rattle.noise.specs.Noise.{Pair, noise_f}
use Rattle.noise.specs.Steps.{dot_from, dot_f}
use Rattle.gate.specs.RowCorrelation.{row_correlation}
use Rattle.gate.specs.Tests.{Finding, Passed, time_test, luma_row, temporal_by, second_by, luma_by, luma_finding, chroma_by, chroma_finding}
use Rattle.gate.specs.declared.finding.Failure.TheVariants.{LowSigma, EmptyPlane, NoEnergyFirst, RowCorrelated, NoEnergySecond, TimeCorrelated}

dot-sign : (p q : Pair) → ButZeroSign (dot_from minus_zero p q) (dot_f p q)
unfolding dot_f
dot-sign p q = loop-sign (λ i. mul binary64 (noise_f p.source p.denoised i) (noise_f q.source q.denoised i)) (p.width * p.height)

-- either zero over a number
none : (s : Bool) (c : ℕ) → 0 < c → magnitude_of (round binary64 s 0 c) ≡ plus_zero
unfolding magnitude_of of_bits
none true c h = ap magnitude_of (round-minus c h)
none false c h = ap magnitude_of (round-plus c h)

some : (n : ℕ) → (n ≡ 0 → ⊥) → 0 < n
some zero h = absurd (h refl)
some (suc n) h = zero-lt-suc n

size_same : (r : Float) → magnitude_of (div binary64 minus_zero r) ≡ magnitude_of (div binary64 plus_zero r)
unfolding magnitude_of div of_bits
size_same nan = refl
size_same (inf t) = refl
size_same (fin t n d) = go (eqb n 0) (eqb-false n 0)
  where
    go : (b : Bool) → (b ≡ false → n ≡ 0 → ⊥)
        → magnitude_of (cond b nan (round binary64 (unlike true t) (0 * down d) (n * up d * 1))) ≡ magnitude_of (cond b nan (round binary64 (unlike false t) (0 * down d) (n * up d * 1)))
    go true h = refl
    go false h =
        let c : 0 < n * up d * 1 = mul-pos (mul-pos (some n (h refl)) (up_pos d)) (zero-lt-suc 0) in
        ap (λ (a : ℕ). magnitude_of (round binary64 (unlike true t) a (n * up d * 1))) (zero-mul (down d))
        ∙ none (unlike true t) (n * up d * 1) c
        ∙ sym (ap (λ (a : ℕ). magnitude_of (round binary64 (unlike false t) a (n * up d * 1))) (zero-mul (down d)) ∙ none (unlike false t) (n * up d * 1) c)

test-same : {c c' : Float} (e f : Float) → ButZeroSign c' c → time_test c' e f ≡ time_test c e f
unfolding time_test
test-same e f (inl d) = ap (λ (x : Float). time_test x e f) d
test-same e f (inr d) = rw (d.0, d.1) (ap (λ (x : Float). lt x two_fifths) (size_same (root (mul binary64 e f))))

-- ---- the tests on the second frame, from an energy of the first that is the same
module _ (p q : Pair) where
  second-start : dot_from minus_zero p p ≡ dot_f p p → second_by (dot_from minus_zero) p q ≡ second_by dot_f p q
  unfolding temporal_by
  second-start e = ap (λ (b : Bool). cond b (Err NoEnergySecond) (temporal_by (dot_from minus_zero) p q)) (at-most-same (dot-sign q q)) ∙ go (le (dot_f q q) plus_zero) refl
    where
      go : (b : Bool) → le (dot_f q q) plus_zero ≡ b → cond b (Err NoEnergySecond) (temporal_by (dot_from minus_zero) p q) ≡ cond b (Err NoEnergySecond) (temporal_by dot_f p q)
      go true h = refl
      go false h =
          ap (λ (t : Bool). cond t Passed (Err TimeCorrelated))
          ((λ i. time_test (dot_from minus_zero p q) (e i) (above_same (dot-sign q q) h i)) ∙ test-same (dot_f p p) (dot_f q q) (dot-sign p q))

  -- the first's energy 0, then what follows
  first-start : (f g : Finding) → (dot_from minus_zero p p ≡ dot_f p p → f ≡ g) → cond (le (dot_from minus_zero p p) plus_zero) (Err NoEnergyFirst) f ≡ cond (le (dot_f p p) plus_zero) (Err NoEnergyFirst) g
  first-start f g h = ap (λ (b : Bool). cond b (Err NoEnergyFirst) f) (at-most-same (dot-sign p p)) ∙ go (le (dot_f p p) plus_zero) refl
    where
      go : (b : Bool) → le (dot_f p p) plus_zero ≡ b → cond b (Err NoEnergyFirst) f ≡ cond b (Err NoEnergyFirst) g
      go true e = refl
      go false e = h (above_same (dot-sign p p) e)

  module _ (sigma16 : ℕ) where
    pub luma-start : luma_by (dot_from minus_zero) sigma16 p q ≡ luma_finding sigma16 p q
    unfolding luma_by
    luma-start =
        ap (cond (ltb sigma16 16) (Err LowSigma))
        (first-start _ _ (λ e. λ i. cond (le three_quarters (magnitude_of (luma_row p (e i)))) (Err RowCorrelated) (second-start e i)))

    pub chroma-start : chroma_by (dot_from minus_zero) sigma16 p q ≡ chroma_finding sigma16 p q
    unfolding chroma_by
    chroma-start =
        ap (λ (f : Finding). cond (ltb sigma16 8) (Err LowSigma) (cond (eqb (p.width * p.height) 0) (Err EmptyPlane) (cond (le three_quarters (magnitude_of (row_correlation p 1))) (Err RowCorrelated) f)))
        (first-start _ _ second-start)
