-- The shifted noise of samples below 2 ^ depth lies from −256 to 255, and a sample's bin is a shift by depth − bits. Assumes nothing.
use mathlib.Core.Path.{◌≡◌, sym, ap}
use mathlib.Core.List.{List}
use Prim.Native.Nat.{ℕ, ◌+◌, ◌-◌, ◌/◌, ◌^◌, ◌≤◌, ◌<◌}
use native.Mathlib.Nat.{lt_of_lt_of_le, lt_of_le_of_lt, le_of_eq, le-suc}
use native.Mathlib.Omega.{arith}
use lib.Dec.{le→leb, leb→le}
use lib.IntN.{ℤ, pos, negsuc, nat_abs}
use lib.ListN.{get_or}
use lib.Pow.{shr_lt, shr-shr}
use lib.Signed.{le_z_yes}
use Rattle.laws.proofs.Whole.{abs_diff}
use Rattle.noise.specs.Noise.{noise}
use Rattle.noise.specs.Shift.{shifted}
use Rattle.profile.specs.Shifted.{shifted_noise}
use Rattle.profile.specs.Bins.{bin_of}
use Rattle.profile.specs.Words.{InRange}

module _ (depth : ℕ) (deep : 8 ≤ depth) where
  split : 8 + (depth - 8) ≡ depth
  split = omega arith

  -- what a shift by depth − 8 leaves of a number below 2 ^ depth
  shifted-lt : {n : ℕ} → n < 2 ^ depth → n / 2 ^ (depth - 8) < 256
  shifted-lt {n} h = shr_lt 8 (depth - 8) (lt_of_lt_of_le h (le_of_eq (ap (λ (k : ℕ). 2 ^ k) (sym split))))

  in-range : (z : ℤ) → nat_abs z < 2 ^ depth → InRange (shifted (depth - 8) z)
  in-range (pos n) h =
      record { least = record { le = tt }; most = le_z_yes (le→leb (n / 2 ^ (depth - 8)) 255 (omega (arith, shifted-lt h))) }
  in-range (negsuc n) h =
      record { least = le_z_yes (le→leb (n / 2 ^ (depth - 8)) 255 (omega (arith, shifted-lt (lt_of_le_of_lt (le-suc n) h)))); most = record { le = tt } }

  pub shifted-range : (source denoised : List ℕ) (i : ℕ) → get_or source i 0 < 2 ^ depth → get_or denoised i 0 < 2 ^ depth → InRange (shifted_noise (depth - 8) source denoised i)
  shifted-range source denoised i a b = in-range (noise source denoised i) (abs_diff _ _ (2 ^ depth) a b)

  pub bin-shift : (bits a : ℕ) → bits ≤ 8 → a < 2 ^ depth → a / 2 ^ (depth - bits) ≡ bin_of bits (depth - 8) a
  bin-shift bits a h l =
      let e : depth - 8 + (8 - bits) ≡ depth - bits = omega arith in
      let f : bits + (depth - bits) ≡ depth = omega arith in
      let q : a / 2 ^ (depth - bits) < 2 ^ bits = shr_lt bits (depth - bits) (lt_of_lt_of_le l (le_of_eq (ap (λ (k : ℕ). 2 ^ k) (sym f)))) in
      rw (shr-shr a (depth - 8) (8 - bits), e) (omega arith)

pub range_small : (d : ℤ) → InRange d → nat_abs d ≤ 256
range_small (pos n) r = omega (arith, leb→le n 255 r.most.le)
range_small (negsuc n) r = omega (arith, leb→le n 255 r.least.le)
