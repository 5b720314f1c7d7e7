-- Rounding gives a number or an infinity, never NaN (`round_number`). Assumes nothing.
use Rattle.std.proofs.Common.{◌≡◌, ℕ, zero, suc, ◌+◌, ◌*◌, ◌^◌, Bool, true, false, cond, ltb, refl, ap, ◌∙◌}
use lib.Ieee.{Float, inf, Format, low, emax, prec, odd, units, round, is_nan}
use lib.Ieee.Fits.{round_is}

odd_number : (d : ℕ) (s : Bool) (q k l : ℕ) → is_nan (odd d s q k l) ≡ false
unfolding odd is_nan
odd_number d s zero k l = refl
odd_number d s (suc q) k l = refl

units_number : (f : Format) (s : Bool) (q k : ℕ) → is_nan (units f s q k) ≡ false
unfolding units is_nan
units_number f s q k = go (ltb (q * 2 ^ k) (2 ^ (low f + suc (emax f)))) (odd (suc (prec f)) s q k (low f)) (odd_number (suc (prec f)) s q k (low f))
  where
    go : (b : Bool) (x : Float) → is_nan x ≡ false → is_nan (cond b x (inf s)) ≡ false
    go true x e = e
    go false x e = refl

pub round_number : (f : Format) (s : Bool) (a b : ℕ) → is_nan (round f s a b) ≡ false
round_number f s a b = ap is_nan (round_is f s a b) ∙ units_number f s _ _
