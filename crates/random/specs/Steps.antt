-- `RandomRegister::next` of film_grain.rs, step by step on u32: what the state holds afterwards, and the result. It is asked for at most 16 bits: above that its `16 - bits` overflows.
use Rattle.std.specs.Prelude.{ℕ, ◌-◌, ◌*◌, ◌/◌, ◌%◌, ◌^◌, bit_and, bit_or, bit_xor}

-- `let bit = (r ^ (r >> 1) ^ (r >> 3) ^ (r >> 12)) & 1;`
abbrev pub bit : ℕ → ℕ
bit r = bit_and (bit_xor (bit_xor (bit_xor r (r / 2 ^ 1)) (r / 2 ^ 3)) (r / 2 ^ 12)) 1

-- `let r = (r >> 1) | (bit << 15);`
unfoldable pub shifted : ℕ → ℕ
shifted r = bit_or (r / 2 ^ 1) (bit r * 2 ^ 15 % 2 ^ 32)

-- `self.state = r as u16;`
unfoldable pub state : ℕ → ℕ
state r = shifted r % 2 ^ 16

-- `(r >> (16 - bits)) & ((1u32 << bits) - 1)`
unfoldable pub result : ℕ → ℕ → ℕ
result r bits = bit_and (shifted r / 2 ^ (16 - bits)) (1 * 2 ^ bits % 2 ^ 32 - 1)
