-- "the low 16 bits of hint × 0x9e37 + 0x51ed, wrapping; a hint has 32 bits": the product and the sum are each taken modulo 2^32.
use Rattle.std.specs.Prelude.{ℕ, ◌+◌, ◌*◌, ◌%◌, ◌^◌}

abbrev pub seed : ℕ → ℕ
seed hint = (hint * 0x9e37 % 2 ^ 32 + 0x51ed) % 2 ^ 32 % 2 ^ 16
