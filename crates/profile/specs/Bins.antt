-- "Luma bin: source sample >> (depth−8) >> 5, eight bins. Chroma: >> 6, four bins.": 2 ^ bits bins for any number of bits, each 2 ^ (8 − bits) wide.
-- "each bin's count and sum of squares": over the samples that lie in it.
use Rattle.std.specs.Prelude.{cond, List, ℕ, ◌-◌, ◌/◌, ◌^◌, min, eqb, length, get_or}
use Rattle.laws.specs.Sums.{total, sum_n}
use Rattle.profile.specs.Shifted.{square}

-- `((usize::from(a) >> shift) >> (8 - bits)).min(last)`
abbrev pub bin_of : ℕ → ℕ → ℕ → ℕ
bin_of bits shift a = min (a / 2 ^ shift / 2 ^ (8 - bits)) (2 ^ bits - 1)

-- the bin of the sample at place i
abbrev pub bin_at : ℕ → ℕ → List ℕ → ℕ → ℕ
bin_at bits shift source i = bin_of bits shift (get_or source i 0)

-- g i where the bin at place i is j, else nothing
abbrev pub in_bin : (ℕ → ℕ) → ℕ → (ℕ → ℕ) → ℕ → ℕ
in_bin bin j g i = cond (eqb (bin i) j) (g i) 0

unfoldable pub count_of_bin : ℕ → ℕ → List ℕ → ℕ → ℕ
unfolding total
count_of_bin bits shift source j = sum_n (in_bin (bin_at bits shift source) j (λ i. 1)) (length source)

unfoldable pub squares_of_bin : ℕ → ℕ → List ℕ → List ℕ → ℕ → ℕ
unfolding total
squares_of_bin bits shift source denoised j =
    sum_n (in_bin (bin_at bits shift source) j (square shift source denoised)) (length source)
