-- "The quantiser shall say, beside its number, whether the value was inside, held at the low end, held at the high end, or NaN." "A rounded value of 127 or −128 counts as inside."
use Rattle.std.specs.Prelude.{◌≡◌, ℕ, cond, pos, neg_ℤ, int_lt, Float}
use Rattle.float.specs.Coefficient.{Times64, of_no_number, below, above, nearest, times64}
use Rattle.float.specs.Steps.{quant_ar}
use Rattle.float.specs.declared.quant.Mark.{Mark}
use Rattle.float.specs.declared.quant.Mark.TheVariants.{Inside, HeldLow, HeldHigh, NotANumber}

-- of 64 times a float, rounded: beyond the ends it is held
unfoldable pub mark_of : Times64 → Mark
mark_of of_no_number = NotANumber
mark_of below = HeldLow
mark_of above = HeldHigh
mark_of (nearest z) = cond (int_lt z (neg_ℤ (pos 128))) HeldLow (cond (int_lt (pos 127) z) HeldHigh Inside)

unfoldable pub mark : Float → Mark
unfolding mark_of times64
mark c = mark_of (times64 c)

-- as a byte of an answer
abbrev pub number : Mark → ℕ
number Inside = 0
number HeldLow = 1
number HeldHigh = 2
number NotANumber = 3

-- the coefficient is the rounded value exactly where the mark is inside
pub record InsideExactly (c : Float) : Type 0 where
  pub rounded : mark c ≡ Inside → times64 c ≡ nearest (quant_ar c)
  pub unheld : times64 c ≡ nearest (quant_ar c) → mark c ≡ Inside
