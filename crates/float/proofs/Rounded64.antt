-- 64 times a finite f64, rounded and cast to an i32, is the nearest whole number held to the range of an i32 (`rounded-is`).
-- 64 times an f64 is exact, unless it is 2 ^ 1024 or more. Then it is an infinity, and both sides are held to the same end. Assumes nothing.
use Rattle.std.proofs.Common.{◌≡◌, ℕ, ◌-◌, ◌*◌, ◌/◌, ◌^◌, ◌<◌, ◌≤◌, min, Bool, true, false, T, ℤ, pos, neg_ℤ, ap, ◌∙◌, le_trans, mul-le-mul_right, mul_comm, lt_of_not-le, le-div_iff_mul-le, arith, lit<, lit≤}
use native.Mathlib.Decide.{dec_le}
use lib.Ieee.{Float, inf, fin, binary64, up, down, mul, fits, round, to_signed}
use lib.Ieee.Fits.{down_pos, mul-fits}
use Rattle.float.specs.Round.{half_up, round_half_away}
use Rattle.float.specs.Steps.{rounded64}
use Rattle.float.proofs.Units.{fit}
use Rattle.float.proofs.Times.{times-exact, times-too-large}
use Rattle.float.proofs.Cut.{side, signed_cut}
use Rattle.float.proofs.NearestWhole.{round-nearest}

module _ (s : Bool) (m : ℕ) (e : ℤ) (t : T (fits binary64 (fin s m e))) where
  k : ℕ
  k = half_up (64 * (m * up e)) (down e)

  product : Float
  product = mul binary64 (fin s m e) (fin false 1 (pos 6))

  exact-steps : m * up e * 2 ^ 6 < 2 ^ 1024 * down e → to_signed 31 (round_half_away product) ≡ side 31 s k
  unfolding product k
  exact-steps h =
      let v = times-exact 6 s m e (fit s m e t) h in
      let w = (round-nearest product s (m * up e * 64) (down e) (mul-fits binary64 (fin s m e) (fin false 1 (pos 6))) (down_pos e) v).0 in
      signed_cut 31 (round_half_away product) s (half_up (m * up e * 64) (down e)) 1 (lit< tt) w
      ∙ ap (side 31 s) (one (half_up (m * up e * 64) (down e)) ∙ ap (λ (x : ℕ). half_up x (down e)) (mul_comm (m * up e) 64))
    where
      one : (n : ℕ) → n / 1 ≡ n
      one n = omega arith

  held_steps : 2 ^ 1024 * down e ≤ m * up e * 2 ^ 6 → to_signed 31 (round_half_away product) ≡ side 31 s k
  unfolding product k half_up round_half_away to_signed
  held_steps h = ap (λ (x : Float). to_signed 31 (round_half_away x)) (times-too-large 6 s m e (fit s m e t) (lit≤ tt) h) ∙ both s
    where
      two : (d : ℕ) → 0 < d → 0 < 2 * d
      two d D = omega arith

      large : 2 ^ 31 ≤ k
      large =
          let l : 2 ^ 31 * down e ≤ m * up e * 64 = le_trans (mul-le-mul_right (down e) (lit≤ tt)) h in
          (le-div_iff_mul-le (two (down e) (down_pos e))).1 (omega (arith, mul_comm (m * up e) 64))

      both : (b : Bool) → to_signed 31 (inf b) ≡ side 31 b k
      both true = ap (λ (x : ℕ). neg_ℤ (pos x)) (top k large)
        where
          top : (n : ℕ) → 2 ^ 31 ≤ n → 2 ^ 31 ≡ min n (2 ^ 31)
          top n l = omega arith
      both false = ap pos (top k large)
        where
          top : (n : ℕ) → 2 ^ 31 ≤ n → 2 ^ 31 - 1 ≡ min n (2 ^ 31 - 1)
          top n l = omega arith

pub rounded-is : (s : Bool) (m : ℕ) (e : ℤ) → T (fits binary64 (fin s m e)) → rounded64 (fin s m e) ≡ side 31 s (half_up (64 * (m * up e)) (down e))
unfolding product k round
rounded-is s m e t =
    elim (dec_le (2 ^ 1024 * down e) (m * up e * 2 ^ 6)) [
      | yes h ↦ held_steps s m e t h
      | no f ↦ exact-steps s m e t (lt_of_not-le f)
    ]
