-- The equations from exact sums: what each test of the code makes of the definitions. Assumes nothing.
use Rattle.std.proofs.Common.{◌≡◌, ℕ, ◌<◌, ◌≤◌, min, max, Bool, true, false, cond, leb, ℤ, refl, arith, le-ltb, lt-ltb, le-leb, leb-true, leb-false}
use lib.Ieee.{Float, binary64, div, of_int}
use borrow.Author.Tests.{lt-leb}
use Rattle.laws.specs.Constants.{four}
use Rattle.laws.specs.Scaled.{plus_zero}
use Rattle.positions.specs.Counts.{neighbours}
use Rattle.fit.specs.Steps.{cell_of, value_of}
use Rattle.fit.specs.Sums.{cell_sum, right_sum}

module _ (entries : ℕ → ℕ → ℤ) (taps : ℕ → ℤ) (lag i : ℕ) (x : Float) where
  module _ (squares : Float) (j : ℕ) where
    pub sum-whole : j < neighbours lag → x ≡ of_int binary64 (entries i j) → x ≡ cell_sum entries taps squares lag i j
    unfolding cell_sum
    sum-whole h e = rw (lt-ltb j (neighbours lag) h) e

    pub sum-quarters : neighbours lag ≤ j → i < neighbours lag → x ≡ div binary64 (of_int binary64 (taps i)) four → x ≡ cell_sum entries taps squares lag i j
    unfolding cell_sum
    sum-quarters h k e = rw (le-ltb j (neighbours lag) h, lt-ltb i (neighbours lag) k) e

    pub sum-squares : neighbours lag ≤ j → neighbours lag ≤ i → x ≡ squares → x ≡ cell_sum entries taps squares lag i j
    unfolding cell_sum
    sum-squares h k e = rw (le-ltb j (neighbours lag) h, le-ltb i (neighbours lag) k) e

  pub right-whole : i < neighbours lag → x ≡ of_int binary64 (entries i (neighbours lag)) → x ≡ right_sum entries taps lag i
  unfolding right_sum
  right-whole h e = rw (lt-ltb i (neighbours lag) h) e

  pub right-quarters : neighbours lag ≤ i → x ≡ div binary64 (of_int binary64 (taps (neighbours lag))) four → x ≡ right_sum entries taps lag i
  unfolding right_sum
  right-quarters h e = rw (le-ltb i (neighbours lag) h) e

-- ---- the used part
module _ (sum : ℕ → ℕ → Float) (p i j : ℕ) where
  pub unused : p ≤ max i j → plus_zero ≡ cell_of sum p i j
  unfolding cell_of
  unused h = go (leb p i) (leb p j) refl refl
    where
      go : (a b : Bool) → leb p i ≡ a → leb p j ≡ b → plus_zero ≡ cond a plus_zero (cond b plus_zero (cond (leb i j) (sum i j) (sum j i)))
      go true b e f = refl
      go false true e f = refl
      go false false e f = absurd (omega (arith, leb-false p i e, leb-false p j f))

  -- the lower half is the upper's
  pub used : max i j < p → {x : Float} → x ≡ sum (min i j) (max i j) → x ≡ cell_of sum p i j
  unfolding cell_of
  used h {x} e = let k : i < p = omega arith in let l : j < p = omega arith in rw (lt-leb p i k, lt-leb p j l) (go (leb i j) refl)
    where
      go : (a : Bool) → leb i j ≡ a → x ≡ cond a (sum i j) (sum j i)
      go true f =
          let m : i ≤ j = leb-true i j f in
          let u : min i j ≡ i = omega arith in
          let v : max i j ≡ j = omega arith in
          rw (u, v) at e
      go false f =
          let m : j < i = leb-false i j f in
          let u : min i j ≡ j = omega arith in
          let v : max i j ≡ i = omega arith in
          rw (u, v) at e

module _ (sum : ℕ → Float) (p i : ℕ) where
  pub value-unused : p ≤ i → plus_zero ≡ value_of sum p i
  unfolding value_of
  value-unused h = rw (le-leb p i h)

  pub value-used : i < p → {x : Float} → x ≡ sum i → x ≡ value_of sum p i
  unfolding value_of
  value-used h e = rw (lt-leb p i h) e
