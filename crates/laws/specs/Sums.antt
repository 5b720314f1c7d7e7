-- "The exact sum adds the same products as whole numbers", "sum of d²", "each bin's count": sums by index, and of a list.
use Rattle.std.specs.Prelude.{List, [], ◌∷◌, ℕ, zero, suc, ◌+◌, ℤ, pos, ◌+ℤ◌, length, get_or}

-- g 0, g 1, .., g (n - 1), added to e one after another
unfoldable pub total : {A : Type 0} → (A → A → A) → A → (ℕ → A) → ℕ → A
total add e g zero = e
total add e g (suc n) = add (total add e g n) (g n)

-- g 0 + g 1 + .. + g (n - 1), over ℤ and over ℕ
abbrev pub sum_to : (ℕ → ℤ) → ℕ → ℤ
sum_to g n = total ◌+ℤ◌ (pos 0) g n

abbrev pub sum_n : (ℕ → ℕ) → ℕ → ℕ
sum_n g n = total ◌+◌ 0 g n

-- g a + g (a + 1) + .., n terms
abbrev pub span : (ℕ → ℤ) → ℕ → ℕ → ℤ
span g a n = sum_to (λ i. g (a + i)) n

-- the sum of a list, over ℤ and over ℕ
unfoldable pub sum_z : List ℤ → ℤ
sum_z [] = pos 0
sum_z (z ∷ zs) = z +ℤ sum_z zs

unfoldable pub sum_of : List ℕ → ℕ
sum_of xs = sum_n (λ i. get_or xs i 0) (length xs)
