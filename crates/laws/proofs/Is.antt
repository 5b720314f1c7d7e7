-- What a signed expression of the code computes to: m, as the machine reads it back from bits, is the number z, which the width holds. Assumes nothing.
use mathlib.Core.Path.{◌≡◌, refl, sym, ◌∙◌, subst}
use Prim.Native.Nat.{ℕ, ◌^◌, ◌≤◌, ◌<◌}
use native.Mathlib.Nat.{le_refl, le-suc, lt_of_le_of_lt, lt_of_lt_of_le}
use lib.IntN.{ℤ, pos, negsuc, nat_abs, ◌+ℤ◌, ◌-ℤ◌, ◌*ℤ◌}
use lib.Signed.{mag}
use mir.Syntax.{Width}
use mir.Val.{SFits, of_z, to_z, hbits}
use mir.ValLaws.{to_z_pos, to_z-of_z}

pub record Is (w : Width) (m z : ℤ) : Type 0 where
  pub eq : m ≡ z
  pub holds : SFits w z

mag-le : (z : ℤ) → mag z ≤ nat_abs z
mag-le (pos n) = le_refl n
mag-le (negsuc n) = le-suc n

-- a signed integer of each width holds what is below half its range in size
pub sfits : (w : Width) (z : ℤ) → nat_abs z < 2 ^ hbits w → SFits w z
sfits w z h = record { sfits = lt_of_le_of_lt (mag-le z) h }

-- what an operation asks
pub fits : {w : Width} {m z : ℤ} → Is w m z → SFits w m
fits {w} h = subst (λ (x : ℤ). SFits w x) (sym h.eq) h.holds

-- into a local and out of it
pub again : {w : Width} {m z : ℤ} → Is w m z → Is w (to_z w (of_z w m)) z
again {w} {m} h = record { eq = to_z-of_z w m (fits h) ∙ h.eq; holds = h.holds }

-- a number that fits; an expression known to be a number; an unsigned integer, as a signed one
pub self : {w : Width} {z : ℤ} → SFits w z → Is w z z
self h = record { eq = refl; holds = h }

pub known : {w : Width} {m z : ℤ} → m ≡ z → nat_abs z < 2 ^ hbits w → Is w m z
known {w} {m} {z} e h = record { eq = e; holds = sfits w z h }

pub unsigned : (w : Width) (n : ℕ) → n < 2 ^ hbits w → Is w (to_z w n) (pos n)
unsigned w n h = known (to_z_pos w n h) h

-- the same number at a greater width
pub wider : (v w : Width) {m z : ℤ} → 2 ^ hbits v ≤ 2 ^ hbits w → Is v m z → Is w m z
wider v w l h = record { eq = h.eq; holds = record { sfits = lt_of_lt_of_le h.holds.sfits l } }

-- ---- the operations, whose results fit
pub plus : {w : Width} {m n z y : ℤ} → Is w m z → Is w n y → nat_abs (z +ℤ y) < 2 ^ hbits w → Is w (m +ℤ n) (z +ℤ y)
plus h k l = known (λ i. h.eq i +ℤ k.eq i) l

pub minus : {w : Width} {m n z y : ℤ} → Is w m z → Is w n y → nat_abs (z -ℤ y) < 2 ^ hbits w → Is w (m -ℤ n) (z -ℤ y)
minus h k l = known (λ i. h.eq i -ℤ k.eq i) l

pub times : {w : Width} {m n z y : ℤ} → Is w m z → Is w n y → nat_abs (z *ℤ y) < 2 ^ hbits w → Is w (m *ℤ n) (z *ℤ y)
times h k l = known (λ i. h.eq i *ℤ k.eq i) l
