-- A list given by its entry at each index: what a destination holds that was filled from the front.
use Rattle.std.specs.Prelude.{List, [], ◌∷◌, ◌++◌, ℕ, zero, suc, ◌+◌, ◌-◌}

-- the list of f 0, f 1, .., f (n - 1)
abbrev pub tabulate {ℓ} : {A : Type ℓ} → ℕ → (ℕ → A) → List A
tabulate zero f = []
tabulate (suc n) f = tabulate n f ++ (f n ∷ [])

-- the numbers of `a..b`: a, a + 1, .., b - 1
abbrev pub range : ℕ → ℕ → List ℕ
range a b = tabulate (b - a) (λ i. a + i)
