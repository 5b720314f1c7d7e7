-- "Is every source and denoised sample below 2^depth?": the test is true exactly when each sample is. By induction over the plane. Assumes nothing.
use mathlib.Core.Path.{◌≡◌, refl}
use mathlib.Core.Bool.{Bool, true, ◌&&◌, and_assoc, and-eq-true_iff}
use mathlib.Core.List.{List, [], ◌∷◌, ◌++◌}
use mathlib.Core.Logic.{◌↔◌}
use Prim.Native.Nat.{ℕ, zero, suc, ◌<◌, ◌^◌, suc-le-suc}
use native.Mathlib.Omega.{arith}
use lib.Dec.{ltb}
use lib.ListN.{length, get_or}
use lib.Pow.{pow_pos}
use borrow.Author.Tests.{ltb-true, lt-ltb}
use Rattle.frame.specs.Questions.{low, all_low}

-- past the end stands 0
pub low_below : (depth : ℕ) (xs : List ℕ) → low depth xs ≡ true → (i : ℕ) → get_or xs i 0 < 2 ^ depth
unfolding low
low_below depth [] h i = pow_pos depth
low_below depth (x ∷ xs) h zero = ltb-true x (2 ^ depth) ((and-eq-true_iff (ltb x (2 ^ depth)) (low depth xs)).0 h).0
low_below depth (x ∷ xs) h (suc i) = low_below depth xs ((and-eq-true_iff (ltb x (2 ^ depth)) (low depth xs)).0 h).1 i

pub below-low : (depth : ℕ) (xs : List ℕ) → ((i : ℕ) → i < length xs → get_or xs i 0 < 2 ^ depth) → low depth xs ≡ true
unfolding low
below-low depth [] h = refl
below-low depth (x ∷ xs) h =
    rw (lt-ltb x (2 ^ depth) (h 0 (omega arith))) (below-low depth xs (λ i p. h (suc i) (suc-le-suc p)))

pub low-exactly : (depth : ℕ) (xs : List ℕ) → (low depth xs ≡ true) ↔ ((i : ℕ) → i < length xs → get_or xs i 0 < 2 ^ depth)
low-exactly depth xs = (λ h i p. low_below depth xs h i, below-low depth xs)

-- the answers for two lists of planes
pub low-both : (depth : ℕ) (ps qs : List (List ℕ)) {r r' : Bool} → r ≡ all_low depth ps → r' ≡ all_low depth qs → (r && r') ≡ all_low depth (ps ++ qs)
unfolding all_low
low-both depth [] qs e e' = rw (e, e')
low-both depth (p ∷ ps) qs e e' =
    rw (e, and_assoc (low depth p) (all_low depth ps), low-both depth ps qs refl e')
