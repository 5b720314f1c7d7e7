-- The register as it moves stays below 2^16, and no state is lost: a register's half remains, and the new bit tells bit 0. Assumes nothing.
use Rattle.std.proofs.Common.{◌≡◌, ℕ, ◌+◌, ◌/◌, ◌%◌, ◌^◌, ◌<◌, sym, ◌∙◌, div-one, arith, shr-shr}
use Rattle.random.specs.Text.{new_bit, moved}

pub new-lt : (r : ℕ) → new_bit r < 2
unfolding new_bit
new-lt r = omega arith

pub moved-lt : (r : ℕ) → r < 2 ^ 16 → moved r < 2 ^ 16
unfolding moved
moved-lt r h = omega (arith, new-lt r)

new-of-half : (r : ℕ) → new_bit r ≡ (r % 2 + r / 2 % 2 + r / 2 / 2 ^ 2 % 2 + r / 2 / 2 ^ 11 % 2) % 2
unfolding new_bit
new-of-half r = rw (div-one r, shr-shr r 1 2, shr-shr r 1 11)

same-odd : (a b x y z : ℕ) → (a % 2 + x + y + z) % 2 ≡ (b % 2 + x + y + z) % 2 → a % 2 ≡ b % 2
same-odd a b x y z e = omega arith

pub moved-injective : (r s : ℕ) → r < 2 ^ 16 → s < 2 ^ 16 → moved r ≡ moved s → r ≡ s
unfolding moved
moved-injective r s hr hs e =
    let half : r / 2 ≡ s / 2 = omega (arith, new-lt r, new-lt s) in
    let new : new_bit r ≡ new_bit s = omega (arith, new-lt r, new-lt s) in
    let odd = same-odd r s _ _ _ (rw half at (sym (new-of-half r) ∙ new ∙ new-of-half s)) in
    omega arith
