-- A loop as a function on its state.
use Rattle.std.specs.Prelude.{List, [], ◌∷◌, ℕ, zero, suc, ◌+◌, ◌-◌}

-- the state s after n turns of f, the first of which has the number a
unfoldable pub turns : {S : Type 0} → (ℕ → S → S) → ℕ → ℕ → S → S
turns f a zero s = s
turns f a (suc n) s = f (a + n) (turns f a n s)

-- `for k in a..b { s = f(k, s); }`
unfoldable pub loop : {S : Type 0} → ℕ → ℕ → (ℕ → S → S) → S → S
unfolding turns
loop a b f s = turns f a (b - a) s

-- `for x in xs { s = f(x, s); }`
unfoldable pub visit : {A S : Type 0} → (A → S → S) → List A → S → S
visit f [] s = s
visit f (x ∷ xs) s = visit f xs (f x s)
