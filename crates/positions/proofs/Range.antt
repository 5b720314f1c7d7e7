-- The numbers that a coefficient's field can hold are −128 to 127, each of them: those that the quantiser gives. Assumes nothing.
use mathlib.Core.Path.{sym, subst}
use Prim.Native.Nat.{ℕ, ◌^◌, ◌<◌, zero-le, suc-le-suc}
use native.Mathlib.Nat.{le_of_suc-le-suc}
use lib.IntN.{ℤ, pos, neg_ℤ, nat_abs, ◌+ℤ◌}
use lib.Signed.{◌≤ℤ◌}
use Rattle.float.specs.Coefficient.{Written}
use Rattle.positions.specs.Text.{coefficient_of}
use Rattle.positions.proofs.Offsets.{offset-le, offset-le-back, offset-of}

pub coefficient-range : (plus128 : ℕ) → plus128 < 2 ^ 8 → (neg_ℤ (pos 128) ≤ℤ coefficient_of plus128) × (coefficient_of plus128 ≤ℤ pos 127)
coefficient-range n h = (offset-le 0 n 128 zero-le, offset-le n 255 128 (le_of_suc-le-suc h))

pub range-written : (z : ℤ) → neg_ℤ (pos 128) ≤ℤ z → z ≤ℤ pos 127 → Written z
range-written z low high =
    let e = offset-of 128 z low in
    record {
      field = nat_abs (z +ℤ pos 128);
      bits = suc-le-suc (offset-le-back (nat_abs (z +ℤ pos 128)) 255 128 (subst (λ (y : ℤ). y ≤ℤ pos 127) (sym e) high));
      is = sym e;
    }
