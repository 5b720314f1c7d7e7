-- Demand 3: at each position the f64 product is exactly the product in ones or sixteenths, and there are no more positions than samples, so that the law of sums holds. Assumes nothing.
use mathlib.Core.Path.{◌≡◌, sym, subst}
use mathlib.Core.Logic.{⊎_elim}
use mathlib.Core.List.{List, [], ◌∷◌}
use Prim.Native.Nat.{ℕ, zero, suc, ◌+◌, ◌*◌, ◌^◌, ◌≤◌, ◌<◌, zero-le}
use native.Mathlib.Nat.{le_trans, le_of_eq, le_refl, zero-lt-suc, not-suc-le-zero, add-le-add, mul-zero, mul-pos, mul_comm, mul-le-mul, mul-mul-mul_comm, le-mul_of_pos_right}
use native.Mathlib.Omega.{arith}
use lib.Dec.{lit≤}
use lib.IntN.{ℤ, pos, ◌*ℤ◌}
use lib.ListN.{length}
use lib.Pow.{pow_pos}
use lib.Ieee.{Float}
use Rattle.laws.specs.Window.{Place}
use Rattle.laws.specs.Law.{Held, Positions, Product}
use Rattle.laws.proofs.Whole.{abs-mul-le}
use Rattle.laws.proofs.Scaled.{holds-finer}
use Rattle.laws.proofs.Limits.{multiplied}
use Rattle.laws.proofs.Law.{law-of-sums}
use Rattle.laws.specs.Limits.{side_limit, plane_limit, sample_limit}
use Rattle.noise.specs.Average.{quarters}
use Rattle.noise.specs.Products.{Factor, noise_from, average, Exists, float_at, product_f, whole, exactly, scale}
use Rattle.noise.specs.Lines.{Plane}
use Rattle.noise.specs.Claim.{Samples, Limited, limit_of, Position, Exact}
use Rattle.noise.proofs.Count.{places-few}
use Rattle.noise.proofs.Factors.{fine, parts, factor-exact}

-- f64 holds each of the numbers whose sum it holds, and each factor of a product that it holds
one-held : (limit n : ℕ) → 0 < limit → limit * n ≤ 2 ^ 53 → n ≤ 2 ^ 53
one-held limit n h k = le_trans (le-mul_of_pos_right n h) (le_trans (le_of_eq (mul_comm n limit)) k)

factor-held : (m n t : ℕ) → 0 < n → m * t ≤ m * t * (n * t)
factor-held m n zero h = le_trans (le_of_eq (mul-zero m)) zero-le
factor-held m n (suc t) h = le-mul_of_pos_right (m * suc t) (mul-pos h (zero-lt-suc t))

fourfold : (n : ℕ) → 4 * n * 4 ≡ 16 * n
fourfold n = omega arith

fourth-held : (n : ℕ) → 16 * n ≤ 2 ^ 53 → 4 * n ≤ 2 ^ 53
fourth-held n h = omega arith

fine_le : (u : Factor) → fine u ≤ 2
fine_le (noise_from plane dr dc) = lit≤ tt
fine_le (average luma) = lit≤ tt

module _ (limit top : ℕ) (u v : Factor) (S : Limited limit top u) (T : Limited limit top v) where
  -- no more positions than samples
  few : (ps : List Place) → Positions (Position u v) ps → length ps ≤ limit
  few ps P = places-few limit top u ps S P.once (λ p h. (P.exist p h).0)

  -- a factor at the product's positions
  factor : (w : Factor) → Limited limit top w → ((p : Place) → Position u v p → Exists w p) → 2 ^ fine w * top ≤ 2 ^ 53
      → Product (record { scale = fine w; count = limit; size = 2 ^ fine w * top }) (Position u v) (float_at w) (parts w)
  factor w W e room = record {
    few = few;
    small = λ p h. (factor-exact limit top w p W (e p h) room).0;
    holds = λ p h. (factor-exact limit top w p W (e p h) room).1;
  }

  -- two factors, in the parts that they have
  both : 2 ^ fine u * 2 ^ fine v * (top * top) ≤ 2 ^ 53
      → Product (record { scale = fine u + fine v; count = limit; size = 2 ^ fine u * 2 ^ fine v * (top * top) }) (Position u v) (product_f u v) (λ p. parts u p *ℤ parts v p)
  both room =
      let q : 2 ^ fine u * 2 ^ fine v * (top * top) ≡ 2 ^ fine u * top * (2 ^ fine v * top) = sym (mul-mul-mul_comm (2 ^ fine u) top (2 ^ fine v) top) in
      let r : 2 ^ fine u * top * (2 ^ fine v * top) ≤ 2 ^ 53 = le_trans (le_of_eq (sym q)) room in
      let r' : 2 ^ fine v * top * (2 ^ fine u * top) ≤ 2 ^ 53 = le_trans (le_of_eq (mul_comm (2 ^ fine v * top) (2 ^ fine u * top))) r in
      subst (λ (n : ℕ). Product (record { scale = fine u + fine v; count = limit; size = n }) (Position u v) (product_f u v) (λ p. parts u p *ℤ parts v p)) (sym q)
      (multiplied limit (fine u) (fine v) (2 ^ fine u * top) (2 ^ fine v * top) (le_trans (add-le-add (fine_le u) (fine_le v)) (lit≤ tt)) r (Position u v) (float_at u) (float_at v) (parts u) (parts v)
      (factor u S (λ p h. h.0) (le_trans (factor-held (2 ^ fine u) (2 ^ fine v) top (pow_pos (fine v))) r))
      (factor v T (λ p h. h.1) (le_trans (factor-held (2 ^ fine v) (2 ^ fine u) top (pow_pos (fine u))) r')))

-- quarters, as sixteenths
four-each : (limit top : ℕ) (Q : Place → Type 0) (f : Place → Float) (g : Place → ℤ) → Product (record { scale = 2; count = limit; size = 4 * (top * top) }) Q f g
    → Product (record { scale = 4; count = limit; size = 16 * (top * top) }) Q f (λ p. g p *ℤ pos 4)
four-each limit top Q f g P = record {
  few = P.few;
  small = λ p h. le_trans (abs-mul-le (g p) (pos 4) (4 * (top * top)) 4 (P.small p h) (le_refl 4)) (le_of_eq (fourfold (top * top)));
  holds = λ p h. holds-finer 2 2 (g p) (f p) (P.holds p h);
}

product : (limit top : ℕ) (u v : Factor) → Limited limit top u → Limited limit top v → 2 ^ scale u v * (top * top) ≤ 2 ^ 53 → Product (limit_of limit top u v) (Position u v) (product_f u v) (exactly u v)
product limit top (noise_from a dr dc) (noise_from b er ec) S T room = both limit top (noise_from a dr dc) (noise_from b er ec) S T room
product limit top (noise_from a dr dc) (average m) S T room =
    four-each limit top _ (product_f (noise_from a dr dc) (average m)) (λ p. whole a dr dc p *ℤ quarters m p.0 p.1) (both limit top (noise_from a dr dc) (average m) S T (fourth-held (top * top) room))
product limit top (average l) (noise_from b er ec) S T room =
    four-each limit top _ (product_f (average l) (noise_from b er ec)) (λ p. quarters l p.0 p.1 *ℤ whole b er ec p) (both limit top (average l) (noise_from b er ec) S T (fourth-held (top * top) room))
product limit top (average l) (average m) S T room = both limit top (average l) (average m) S T room

-- ---- the claim, for any limit whose sums f64 holds; where that is no samples there is no position
pub products-within : (limit top : ℕ) (u v : Factor) → Held (limit_of limit top u v) → Limited limit top u → Limited limit top v → Exact u v
products-within zero top u v H S T = law-of-sums (limit_of zero top u v) H (Position u v) (product_f u v) (exactly u v) (record { few = few zero top u v S T; small = λ p h. absurd (nowhere p h); holds = λ p h. absurd (nowhere p h) })
  where
    nowhere : (p : Place) → Position u v p → ⊥
    nowhere p h =
        not-suc-le-zero (few zero top u v S T (p ∷ []) (record { once = ((λ k. k), tt); exist = λ q k. ⊎_elim (λ (e : q ≡ p). subst (Position u v) (sym e) h) (λ (z : ⊥). absurd z) k }))
products-within (suc limit) top u v H S T =
    law-of-sums (limit_of (suc limit) top u v) H (Position u v) (product_f u v) (exactly u v)
    (product (suc limit) top u v S T (one-held (suc limit) (2 ^ scale u v * (top * top)) (zero-lt-suc limit) H.room))

-- ---- "(At most 4,096×4,096 samples below 2^12.)"
pub frame-held : (u v : Factor) → Held (limit_of plane_limit sample_limit u v)
frame-held (noise_from a dr dc) (noise_from b er ec) = record { fine = lit≤ tt; room = lit≤ tt }
frame-held (noise_from a dr dc) (average m) = record { fine = lit≤ tt; room = lit≤ tt }
frame-held (average l) (noise_from b er ec) = record { fine = lit≤ tt; room = lit≤ tt }
frame-held (average l) (average m) = record { fine = lit≤ tt; room = lit≤ tt }

-- Demand 3
pub products-exact : (u v : Factor) → Limited plane_limit sample_limit u → Limited plane_limit sample_limit v → Exact u v
products-exact u v S T = products-within plane_limit sample_limit u v (frame-held u v) S T

-- a plane and its copy that the kernels take
pub plane-samples : (w h : ℕ) (source denoised : List ℕ) → w ≤ side_limit → h ≤ side_limit → Plane w h source denoised → Samples plane_limit sample_limit source denoised (w * h)
plane-samples w h source denoised k l P = record {
  few = mul-le-mul k l;
  low_source = λ i j. P.source-low i (rw P.source-size j);
  low_denoised = λ i j. P.denoised-low i (rw P.denoised-size j);
}
