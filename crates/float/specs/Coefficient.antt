-- "The whole number nearest 64 times the float, halves away from zero, held to −128..127. NaN gives 0; infinities give the ends."
use Rattle.std.specs.Prelude.{◌≡◌, ℕ, ◌*◌, ◌^◌, ◌<◌, cond, ℤ, pos, ◌-ℤ◌, neg_ℤ, Float}
use Rattle.std.specs.Float.{nan, inf, fin}
use Rattle.std.specs.Float.Ieee.{up, down}
use Rattle.float.specs.Clamp.{clamp_of}
use Rattle.float.specs.Round.{half_up}

-- 64 times a float: no number, below every number, above every number, or nearest to a whole one
pub data Times64 : Type 0 where
  of_no_number : Times64
  below : Times64
  above : Times64
  nearest : ℤ → Times64

unfoldable pub times64 : Float → Times64
unfolding half_up
times64 nan = of_no_number
times64 (inf s) = cond s below above
times64 (fin s m e) = let k = half_up (64 * (m * up e)) (down e) in nearest (cond s (neg_ℤ (pos k)) (pos k))

unfoldable pub held : Times64 → ℤ
unfolding clamp_of
held of_no_number = pos 0
held below = neg_ℤ (pos 128)
held above = pos 127
held (nearest z) = clamp_of z (neg_ℤ (pos 128)) (pos 127)

unfoldable pub coefficient : Float → ℤ
unfolding times64 held
coefficient c = held (times64 c)

-- 5.9.30: a coefficient is written as a field of 8 bits, from which 128 is taken
pub record Written (c : ℤ) : Type 0 where
  pub field : ℕ
  pub bits : field < 2 ^ 8
  pub is : c ≡ pos field -ℤ pos 128
