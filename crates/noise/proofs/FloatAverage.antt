-- A luma average in f64 is exactly its number of quarters: the sum of 1, 2 or 4 noises is a case of the law of sums, and the count is a power of two. Assumes nothing.
use mathlib.Core.Path.{◌≡◌, refl, sym, ap, ◌∙◌, subst}
use mathlib.Core.Bool.{false}
use Prim.Native.Nat.{ℕ, ◌+◌, ◌-◌, ◌*◌, ◌^◌, ◌<◌, ◌≤◌}
use native.Mathlib.Nat.{le_trans, le_of_eq, zero-add}
use native.Mathlib.Omega.{arith}
use lib.Dec.{lit≤}
use lib.IntN.{ℤ, pos, nat_abs, ◌*ℤ◌}
use lib.ListN.{get_or}
use lib.Ieee.{Float, binary64, add, div, of_bits}
use lib.Ieee.Exact.{HasValue}
use Rattle.laws.specs.Constants.{one}
use Rattle.laws.specs.Loop.{loop, turns}
use Rattle.laws.specs.Sums.{sum_to}
use Rattle.laws.specs.Scaled.{plus_zero, of_scaled, Holds}
use Rattle.laws.proofs.Sums.{sum_bound}
use Rattle.laws.proofs.Whole.{abs-mul}
use Rattle.laws.proofs.Scaled.{holds-scaled, holds-finer, div-scaled}
use Rattle.laws.proofs.LoopLaw.{plane-exact}
use Rattle.laws.proofs.Accumulators.{loops-pair}
use Rattle.noise.specs.Noise.{noise, noise_f}
use Rattle.noise.specs.Average.{Luma, luma_place, visited, average_f, quarters}
use Rattle.noise.proofs.FloatNoise.{noise-exact}
use Rattle.noise.proofs.Halving.{Bit, kept, halved}

-- 1, 2 or 4 luma noises, and 1.0 for each
visits : (a b : ℕ) → Bit a → Bit b → ((b + 1) * (a + 1) ≤ 4) × (a + b ≤ 2)
    × HasValue (loop 0 (b + 1) (λ i. loop 0 (a + 1) (λ j s. add binary64 s one)) plus_zero) false (2 ^ (a + b)) 1
unfolding loop turns of_bits add
visits a b halved halved = (lit≤ tt, lit≤ tt, (refl, refl))
visits a b halved kept = (lit≤ tt, lit≤ tt, (refl, refl))
visits a b kept halved = (lit≤ tt, lit≤ tt, (refl, refl))
visits a b kept kept = (lit≤ tt, lit≤ tt, (refl, refl))

in_all : (a b : ℕ) → Bit a → Bit b → (n m : ℕ) → n ≤ (b + 1) * ((a + 1) * m) → (n ≤ 4 * m) × (n * 2 ^ (2 - (a + b)) ≤ 4 * m)
in_all a b halved halved n m h = omega arith
in_all a b halved kept n m h = omega arith
in_all a b kept halved n m h = omega arith
in_all a b kept kept n m h = omega arith

-- a whole number over 2 ^ j, in quarters
over-power : (j : ℕ) (z : ℤ) (x y : Float) → j ≤ 2 → nat_abs z ≤ 2 ^ 53 → x ≡ of_scaled 0 z → HasValue y false (2 ^ j) 1 → Holds 2 (z *ℤ pos (2 ^ (2 - j))) (div binary64 x y)
over-power j z x y l b e v =
    let d : div binary64 x y ≡ of_scaled j z = ap (λ (t : Float). div binary64 t y) e ∙ div-scaled 0 j z y b (lit≤ tt) v ∙ ap (λ (k : ℕ). of_scaled k z) (zero-add j) in
    let s : j + (2 - j) ≡ 2 = omega arith in
    subst (λ (k : ℕ). Holds k (z *ℤ pos (2 ^ (2 - j))) (div binary64 x y)) s
    (holds-finer j (2 - j) z (div binary64 x y) (subst (λ (t : Float). Holds j z t) (sym d) (holds-scaled j z b (le_trans l (lit≤ tt)))))

-- at a chroma place whose luma samples are below `top`
module _ (luma : Luma) (x : Bit luma.sampling.across) (y : Bit luma.sampling.down) (r c top : ℕ) (room : 4 * top ≤ 2 ^ 53)
    (a : (i j : ℕ) → get_or luma.plane.source (luma_place luma r c i j) 0 < top) (b : (i j : ℕ) → get_or luma.plane.denoised (luma_place luma r c i j) 0 < top) where
  abbrev luma_noise : ℕ → ℕ → ℤ
  luma_noise i j = noise luma.plane.source luma.plane.denoised (luma_place luma r c i j)

  abbrev total : ℤ
  total = sum_to (λ i. sum_to (luma_noise i) (luma.sampling.across + 1)) (luma.sampling.down + 1)

  one-exact : (i j : ℕ) → (nat_abs (luma_noise i j) ≤ top) × Holds 0 (luma_noise i j) (noise_f luma.plane.source luma.plane.denoised (luma_place luma r c i j))
  one-exact i j = noise-exact luma.plane.source luma.plane.denoised (luma_place luma r c i j) top (a i j) (b i j) (omega arith)

  total-le : (nat_abs total ≤ 4 * top) × (nat_abs total * 2 ^ (2 - (luma.sampling.across + luma.sampling.down)) ≤ 4 * top)
  total-le =
      in_all luma.sampling.across luma.sampling.down x y (nat_abs total) top
      (sum_bound (λ i. sum_to (luma_noise i) (luma.sampling.across + 1)) ((luma.sampling.across + 1) * top) (luma.sampling.down + 1)
      (λ i l. sum_bound (luma_noise i) top (luma.sampling.across + 1) (λ j k. (one-exact i j).0)))

  -- the two accumulators, each by its own loop
  abbrev acc : Float
  acc = loop 0 (luma.sampling.down + 1) (λ i. loop 0 (luma.sampling.across + 1) (λ j s. add binary64 s (noise_f luma.plane.source luma.plane.denoised (luma_place luma r c i j)))) plus_zero

  abbrev cnt : Float
  cnt = loop 0 (luma.sampling.down + 1) (λ i. loop 0 (luma.sampling.across + 1) (λ j s. add binary64 s one)) plus_zero

  apart : average_f luma r c ≡ div binary64 acc cnt
  unfolding average_f visited
  apart = ap (λ (s : Float × Float). div binary64 s.0 s.1) (loops-pair
      (λ i j s. add binary64 s (noise_f luma.plane.source luma.plane.denoised (luma_place luma r c i j)))
      (λ i j s. add binary64 s one)
      0 (luma.sampling.down + 1) 0 (luma.sampling.across + 1) (plus_zero, plus_zero))

  pub average-exact : (nat_abs (quarters luma r c) ≤ 4 * top) × Holds 2 (quarters luma r c) (average_f luma r c)
  unfolding quarters
  average-exact =
      let v = visits luma.sampling.across luma.sampling.down x y in (
        le_trans (le_of_eq (abs-mul total (pos (2 ^ (2 - (luma.sampling.across + luma.sampling.down)))))) total-le.1,
        subst (λ (t : Float). Holds 2 (quarters luma r c) t) (sym apart)
            (over-power (luma.sampling.across + luma.sampling.down) total acc cnt v.1 (le_trans total-le.0 room)
            (plane-exact (record { scale = 0; count = 4; size = top }) (record { fine = lit≤ tt; room = room }) (luma.sampling.down + 1) (luma.sampling.across + 1)
            (λ i j. noise_f luma.plane.source luma.plane.denoised (luma_place luma r c i j)) luma_noise v.0 (λ i j k l. (one-exact i j).0) (λ i j k l. (one-exact i j).1))
            v.2),
      )
