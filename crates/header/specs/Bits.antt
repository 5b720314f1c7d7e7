-- "Highest bit first, last byte filled with zeros": rows as bits, and bits in bytes.
use Rattle.std.specs.Prelude.{Bool, true, cond, ◌&&◌, List, [], ◌∷◌, ◌++◌, ℕ, ◌+◌, ◌-◌, ◌*◌, ◌/◌, ◌%◌, ◌^◌, ltb, length, get_or}
use Rattle.laws.specs.Table.{tabulate}
use Rattle.header.specs.Row.{Row, width, code, allowed}

-- a number in so many bits
unfoldable pub digits : ℕ → ℕ → List ℕ
digits bits n = tabulate bits (λ k. n / 2 ^ (bits - 1 - k) % 2)

-- the number that bits say
unfoldable pub number : List ℕ → ℕ
number [] = 0
number (b ∷ bs) = b * 2 ^ length bs + number bs

-- ---- rows, one after another

unfoldable pub bits_of : List Row → List ℕ
bits_of [] = []
bits_of (r ∷ rs) = digits (width r) (code r) ++ bits_of rs

unfoldable pub all_allowed : List Row → Bool
all_allowed [] = true
all_allowed (r ∷ rs) = allowed r.present r.least r.most r.stored && all_allowed rs

-- ---- bits in bytes

-- byte j of bits, with zeros past their end
unfoldable pub byte_at : List ℕ → ℕ → ℕ
byte_at bs j = number (tabulate 8 (λ k. get_or bs (8 * j + k) 0))

-- "bytes past them remain": a destination that was d, with the bits from its start on
unfoldable pub packed : List ℕ → List ℕ → List ℕ
packed bs d = tabulate (length d) (λ j. cond (ltb (8 * j) (length bs)) (byte_at bs j) (get_or d j 0))
