-- A number shifted right: the quotient rounded down. By the number's sign. Assumes nothing.
use mathlib.Core.Path.{◌≡◌, sym, ap, ◌∙◌}
use mathlib.Core.Bool.{cond}
use Prim.Native.Nat.{ℕ, zero, suc, ◌-◌, ◌*◌, ◌/◌, ◌%◌, ◌^◌, ◌<◌}
use native.Mathlib.Nat.{not-suc-le-zero, suc-mul, mod-lt, div-add-mod'}
use native.Mathlib.Omega.{arith}
use borrow.Author.Tests.{lt-ltb}
use lib.IntN.{ℤ, pos, negsuc, neg_ℤ, ◌+ℤ◌, ◌*ℤ◌}
use lib.Pow.{pow_pos}
use Rattle.noise.specs.Shift.{shifted}

-- ---- rounded down: what is left over is from 0 to 2^shift − 1
less : (b c : ℕ) → c < b → neg_ℤ (pos b) +ℤ pos c ≡ negsuc (b - suc c)
less zero c h = absurd (not-suc-le-zero h)
less (suc b) c h = ap (λ t. cond t (negsuc (suc b - suc c)) (pos (c - suc b))) (lt-ltb c (suc b) h)

pub record Down (m : ℕ) (z q : ℤ) : Type 0 where
  pub rest : ℕ
  pub below : rest < m
  pub sum : z ≡ q *ℤ pos m +ℤ pos rest

pub shift-down : (shift : ℕ) (z : ℤ) → Down (2 ^ shift) z (shifted shift z)
shift-down shift (pos n) =
    record { rest = n % 2 ^ shift; below = mod-lt n (pow_pos shift); sum = ap pos (sym (div-add-mod' n (2 ^ shift))) }
shift-down shift (negsuc n) =
    let l : n % 2 ^ shift < 2 ^ shift = mod-lt n (pow_pos shift) in
    let e = suc-mul (n / 2 ^ shift) (2 ^ shift) in
    let d = div-add-mod' n (2 ^ shift) in
    let rest : ℕ = 2 ^ shift - suc (n % 2 ^ shift) in
    record {
      rest = 2 ^ shift - suc (n % 2 ^ shift);
      below = omega arith;
      sum = sym (less (suc (n / 2 ^ shift) * 2 ^ shift) rest (omega arith) ∙ ap negsuc (omega arith));
    }
