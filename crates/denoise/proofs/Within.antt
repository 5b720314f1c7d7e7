-- A weighed sum lies between the weights' total times a lower and an upper bound of what is weighed, for any weights; so each result lies within its nine,
-- and is at most what every sample is at most. Assumes nothing.
use mathlib.Core.Path.{◌≡◌, refl}
use mathlib.Core.List.{List, [], ◌∷◌}
use Prim.Native.Nat.{ℕ, ◌+◌, ◌*◌, ◌/◌, ◌≤◌}
use native.Mathlib.Nat.{add-mul, mul-le-mul_left, add-le-add, le_refl}
use native.Mathlib.Omega.{arith}
use lib.ListN.{length, get_or}
use Rattle.denoise.specs.Denoise.{nine, weights, weighed, smoothed}
use Rattle.denoise.specs.Within.{minimum, maximum, Within}

-- each number of a list is at most m; at least m
abbrev AllLe : ℕ → List ℕ → Type 0
AllLe m [] = Unit {0}
AllLe m (x ∷ xs) = (x ≤ m) × AllLe m xs

abbrev AllGe : ℕ → List ℕ → Type 0
AllGe m [] = Unit {0}
AllGe m (x ∷ xs) = (m ≤ x) × AllGe m xs

all-le : (m x : ℕ) (xs : List ℕ) → maximum x xs ≤ m → AllLe m (x ∷ xs)
unfolding maximum
all-le m x [] h = (h, tt)
all-le m x (y ∷ ys) h = (omega arith, all-le m y ys (omega arith))

all-ge : (m x : ℕ) (xs : List ℕ) → m ≤ minimum x xs → AllGe m (x ∷ xs)
unfolding minimum
all-ge m x [] h = (h, tt)
all-ge m x (y ∷ ys) h = (omega arith, all-ge m y ys (omega arith))

abbrev total : List ℕ → ℕ
total [] = 0
total (w ∷ ws) = w + total ws

weighed-le : (m : ℕ) (ws xs : List ℕ) → AllLe m xs → weighed ws xs ≤ total ws * m
weighed-le m [] xs h = omega arith
weighed-le m (w ∷ ws) [] h = omega arith
weighed-le m (w ∷ ws) (x ∷ xs) h = rw (add-mul w (total ws) m) (add-le-add (mul-le-mul_left w h.0) (weighed-le m ws xs h.1))

weighed-ge : (m : ℕ) (ws xs : List ℕ) → length ws ≡ length xs → AllGe m xs → total ws * m ≤ weighed ws xs
weighed-ge m [] xs e h = omega arith
weighed-ge m (w ∷ ws) [] e h = absurd (omega arith)
weighed-ge m (w ∷ ws) (x ∷ xs) e h =
    rw (add-mul w (total ws) m) (add-le-add (mul-le-mul_left w h.0) (weighed-ge m ws xs (omega arith) h.1))

mean-within : (x : ℕ) (xs : List ℕ) → length weights ≡ length (x ∷ xs) → Within (x ∷ xs) ((weighed weights (x ∷ xs) + 8) / 16)
mean-within x xs e =
    let a = minimum x xs in
    let b = maximum x xs in (
      omega (arith, weighed-ge a weights (x ∷ xs) e (all-ge a x xs (le_refl a))),
      omega (arith, weighed-le b weights (x ∷ xs) (all-le b x xs (le_refl b))),
    )

pub within : (s : List ℕ) (w h r c : ℕ) → Within (nine s w h r c) (smoothed s w h r c)
unfolding smoothed nine
within s w h r c = mean-within _ _ refl

pub smoothed-le : (m : ℕ) (s : List ℕ) → ((i : ℕ) → get_or s i 0 ≤ m) → (w h r c : ℕ) → smoothed s w h r c ≤ m
unfolding smoothed nine
smoothed-le m s low w h r c =
    omega (
      arith,
      weighed-le m weights (nine s w h r c)
          (low _, (low _, (low _, (low _, (low _, (low _, (low _, (low _, (low _, tt))))))))),
    )
