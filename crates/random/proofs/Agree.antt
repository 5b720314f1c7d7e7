-- The Rust's steps and the specification's text give the same state and the same answer, for every 16-bit state and at most 16 bits: each bit operator is taken to whole numbers. Assumes nothing.
use Rattle.std.proofs.Common.{◌≡◌, ℕ, ◌+◌, ◌-◌, ◌*◌, ◌/◌, ◌%◌, ◌^◌, ◌<◌, ◌≤◌, ◌∙◌, div-one, arith, shl_exact}
use native.Mathlib.Nat.{mod-add-mod}
use lib.Bits.{bit_and, bit_or, bit_xor, and_mask, xor_add_and, or_shifted_r}
use Rattle.random.specs.Text as text
use Rattle.random.specs.Steps as steps
use Rattle.random.proofs.Moves.{new-lt, moved-lt}

-- the low bit of an xor is the sum of the low bits, modulo 2
xor-odd : (a b : ℕ) → bit_xor a b % 2 ≡ (a % 2 + b % 2) % 2
xor-odd a b = omega (arith, xor_add_and a b)

xors-odd : (a b c d : ℕ) → bit_xor (bit_xor (bit_xor a b) c) d % 2 ≡ (a % 2 + b % 2 + c % 2 + d % 2) % 2
xors-odd a b c d = simp (xor-odd, mod-add-mod) (omega arith)

bits-agree : (r : ℕ) → steps.bit r ≡ text.new_bit r
unfolding text.new_bit
bits-agree r = and_mask _ 1 ∙ xors-odd r (r / 2 ^ 1) (r / 2 ^ 3) (r / 2 ^ 12) ∙ rw (div-one r)

-- before the state is cut to 16 bits
pub shifted-is-moved : (r : ℕ) → r < 2 ^ 16 → steps.shifted r ≡ text.moved r
unfolding steps.shifted text.moved
shifted-is-moved r h =
    let s : text.new_bit r * 2 ^ 15 % 2 ^ 32 ≡ text.new_bit r * 2 ^ 15 = omega (arith, new-lt r) in
    rw (bits-agree r, s) (or_shifted_r (text.new_bit r) 15 (r / 2 ^ 1) (omega arith))

-- the same in 16 bits, with a shift by the first tap
pub moved-is : (r : ℕ) → r < 2 ^ 16
    → bit_or (r / 2) (bit_and (bit_xor (bit_xor (bit_xor (r / 2 ^ 0) (r / 2 ^ 1)) (r / 2 ^ 3)) (r / 2 ^ 12)) 1 * 2 ^ 15 % 2 ^ 16) ≡ text.moved r
unfolding text.moved
moved-is r h =
    let s : text.new_bit r * 2 ^ 15 % 2 ^ 16 ≡ text.new_bit r * 2 ^ 15 = omega (arith, new-lt r) in
    rw (div-one r, bits-agree r, s) (or_shifted_r (text.new_bit r) 15 (r / 2) (omega arith))

pub states-agree : (r : ℕ) → r < 2 ^ 16 → steps.state r ≡ text.moved r
unfolding steps.state
states-agree r h = rw (shifted-is-moved r h) (omega (arith, moved-lt r h))

pub one_shl : (bits : ℕ) → bits ≤ 16 → 1 * 2 ^ bits % 2 ^ 32 ≡ 2 ^ bits
one_shl bits h = shl_exact {a = 1} 1 bits 32 (omega arith) (omega arith) ∙ omega arith

pub answers_agree : (r bits : ℕ) → r < 2 ^ 16 → bits ≤ 16 → steps.result r bits ≡ text.answer r bits
unfolding steps.result text.answer
answers_agree r bits h l = rw (shifted-is-moved r h, one_shl bits l) (and_mask (text.moved r / 2 ^ (16 - bits)) bits)
