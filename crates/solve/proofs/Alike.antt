-- Two lists whose first p entries stand in a relation: a store and an exchange keep that. Assumes nothing.
use mathlib.Core.Path.{◌≡◌}
use mathlib.Core.List.{List}
use Prim.Native.Nat.{ℕ, ◌<◌}
use native.Mathlib.Decide.{ℕ_discrete}
use native.Mathlib.Omega.{arith}
use lib.ListN.{get_or, set, length-set}
use lib.Seq.{get_or-set_same, get_or-set_other}
use Rattle.solve.specs.Elimination.{swapped}
use Rattle.solve.specs.Words.{Alike}

-- a store, and an exchange
module _ {A : Type 0} (R : A → A → Type 0) (d : A) (p : ℕ) where
  pub alike_set : (xs ys : List A) → Alike R d p xs ys → (i : ℕ) (x y : A) → R x y → Alike R d p (set xs i x) (set ys i y)
  alike_set xs ys h i x y r = record { long = simp length-set h.long; long' = simp length-set h.long'; each = λ k l. at k l (ℕ_discrete k i) } where
    at : (k : ℕ) → k < p → Dec (k ≡ i) → R (get_or (set xs i x) k d) (get_or (set ys i y) k d)
    at k l (yes e) = rw (e, get_or-set_same xs i x d (omega (arith, h.long)), get_or-set_same ys i y d (omega (arith, h.long'))) r
    at k l (no n) = rw (get_or-set_other xs i k x d n, get_or-set_other ys i k y d n) (h.each k l)

  pub alike-swapped : (xs ys : List A) → Alike R d p xs ys → (i j : ℕ) → i < p → j < p → Alike R d p (swapped d xs i j) (swapped d ys i j)
  alike-swapped xs ys h i j l m = alike_set _ _ (alike_set xs ys h i _ _ (h.each j m)) j _ _ (h.each i l)
