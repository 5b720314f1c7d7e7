-- "Weights 1 2 1 / 2 4 2 / 1 2 1 over the 3×3 neighbours, row and column held at the plane's edge; (sum+8)>>4."
use Rattle.std.specs.Prelude.{List, [], ◌∷◌, ℕ, ◌+◌, ◌-◌, ◌*◌, ◌/◌, ◌%◌, min, get_or}
use Rattle.laws.specs.Table.{tabulate}

-- the sample at a row and a column of a plane w wide, in row order
abbrev pub sample_at : List ℕ → ℕ → ℕ → ℕ → ℕ
sample_at s w r c = get_or s (r * w + c) 0

-- the places before and after place i of n, held at the edge: the Rust's `i.saturating_sub(1)` and `(i + 1).min(n - 1)`
abbrev pub before : ℕ → ℕ
before i = i - 1

abbrev pub after : ℕ → ℕ → ℕ
after n i = min (i + 1) (n - 1)

-- the 3×3 neighbours, in row order, and their weights
unfoldable pub nine : List ℕ → ℕ → ℕ → ℕ → ℕ → List ℕ
nine s w h r c =
    sample_at s w (before r) (before c) ∷ sample_at s w (before r) c ∷ sample_at s w (before r) (after w c) ∷
    sample_at s w r (before c) ∷ sample_at s w r c ∷ sample_at s w r (after w c) ∷
    sample_at s w (after h r) (before c) ∷ sample_at s w (after h r) c ∷ sample_at s w (after h r) (after w c) ∷ []

abbrev pub weights : List ℕ
weights =
    1 ∷ 2 ∷ 1 ∷
    2 ∷ 4 ∷ 2 ∷
    1 ∷ 2 ∷ 1 ∷ []

-- the sum of each sample times its weight
abbrev pub weighed : List ℕ → List ℕ → ℕ
weighed [] xs = 0
weighed (w ∷ ws) [] = 0
weighed (w ∷ ws) (x ∷ xs) = w * x + weighed ws xs

-- the result at a row and a column
unfoldable pub smoothed : List ℕ → ℕ → ℕ → ℕ → ℕ → ℕ
smoothed s w h r c = (weighed weights (nine s w h r c) + 8) / 16

-- the denoised plane: entry i stands at row i / w, column i % w
unfoldable pub denoised : List ℕ → ℕ → ℕ → List ℕ
denoised s w h = tabulate (w * h) (λ i. smoothed s w h (i / w) (i % w))
