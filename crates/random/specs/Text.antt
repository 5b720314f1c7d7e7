-- The specification, 7.18.3.2: the new bit is bit 0 xor bit 1 xor bit 3 xor bit 12 of r; r moves right by one and the new bit enters at bit 15; the answer is r, so moved, shifted right by 16 − bits, and only its low `bits` bits.
-- Over whole numbers: a bit is a quotient's remainder by 2, and the xor of bits their sum's.
use Rattle.std.specs.Prelude.{ℕ, ◌+◌, ◌-◌, ◌*◌, ◌/◌, ◌%◌, ◌^◌}

-- bit k of n
abbrev pub bit : ℕ → ℕ → ℕ
bit k n = n / 2 ^ k % 2

unfoldable pub new_bit : ℕ → ℕ
new_bit r = (bit 0 r + bit 1 r + bit 3 r + bit 12 r) % 2

unfoldable pub moved : ℕ → ℕ
moved r = new_bit r * 2 ^ 15 + r / 2

unfoldable pub answer : ℕ → ℕ → ℕ
answer r bits = moved r / 2 ^ (16 - bits) % 2 ^ bits
