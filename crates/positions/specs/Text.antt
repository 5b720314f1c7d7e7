-- The specification, for any ar_coeff_lag. 7.18.3.3: deltaRow goes from −lag to 0, and for each deltaCol from −lag to lag; in the last row the walk stops at deltaCol 0, which is the sample itself. In the chroma filter that last place is where the luma tap is applied, with one coefficient more, if num_y_points is above 0. 5.9.30: how many coefficients are read, and what each is.
use Rattle.std.specs.Prelude.{Bool, cond, ◌&&◌, List, [], ◌∷◌, ◌++◌, map, ℕ, ◌+◌, ◌*◌, eqb, ltb, ℤ, pos, nat_abs, ◌+ℤ◌, ◌-ℤ◌, ◌*ℤ◌}
use Rattle.laws.specs.Table.{tabulate}

-- deltaRow and deltaCol of a place
abbrev pub Delta : Type 0
Delta = ℤ × ℤ

-- −lag, −lag + 1, .., n numbers
abbrev pub from_minus : ℕ → ℕ → List ℤ
from_minus lag n = tabulate n (λ k. pos k -ℤ pos lag)

-- deltaCol from −lag to lag, in each of these rows
unfoldable pub visit_rows : ℕ → List ℤ → List Delta
visit_rows lag [] = []
visit_rows lag (deltaRow ∷ deltaRows) = map (λ deltaCol. (deltaRow, deltaCol)) (from_minus lag (2 * lag + 1)) ++ visit_rows lag deltaRows

-- deltaRow from −lag to 0
unfoldable pub visits : ℕ → List Delta
visits lag = visit_rows lag (from_minus lag (lag + 1))

-- the sample itself, which stands in the last row; nat_abs is 0 of 0 alone
abbrev pub is_sample : Delta → Bool
is_sample (deltaRow, deltaCol) = eqb (nat_abs deltaRow) 0 && eqb (nat_abs deltaCol) 0

-- the places before it
unfoldable pub up_to_sample : List Delta → List Delta
up_to_sample [] = []
up_to_sample (p ∷ ps) = cond (is_sample p) [] (p ∷ up_to_sample ps)

-- the neighbours: the walk stops at the sample itself
unfoldable pub walk : ℕ → List Delta
walk lag = up_to_sample (visits lag)

-- ar_coeffs_plus_128, a field of 8 bits
abbrev pub coefficient_of : ℕ → ℤ
coefficient_of plus128 = pos plus128 -ℤ pos 128

-- the filter's sum for the sample in row y and column x, along places of which n have been passed: coefficient n times the grain at the next one
unfoldable pub filtered : (ℕ → ℕ) → (ℤ → ℤ → ℤ) → ℕ → ℕ → ℕ → List Delta → ℤ
filtered plus128 grain y x n [] = pos 0
filtered plus128 grain y x n ((deltaRow, deltaCol) ∷ ps) =
    coefficient_of (plus128 n) *ℤ grain (pos y +ℤ deltaRow) (pos x +ℤ deltaCol) +ℤ filtered plus128 grain y x (n + 1) ps

-- coefficient n times the luma tap, if num_y_points is above 0
abbrev pub tapped : ℕ → (ℕ → ℕ) → ℤ → ℕ → ℤ
tapped numYPoints plus128 luma n = cond (ltb 0 numYPoints) (coefficient_of (plus128 n) *ℤ luma) (pos 0)

-- the chroma filter's: at the sample itself the luma tap, and the walk stops
unfoldable pub chroma_filtered : ℕ → (ℕ → ℕ) → (ℤ → ℤ → ℤ) → ℤ → ℕ → ℕ → ℕ → List Delta → ℤ
chroma_filtered numYPoints plus128 grain luma y x n [] = pos 0
chroma_filtered numYPoints plus128 grain luma y x n (p ∷ ps) =
    cond (is_sample p) (tapped numYPoints plus128 luma n)
    (coefficient_of (plus128 n) *ℤ grain (pos y +ℤ p.0) (pos x +ℤ p.1) +ℤ chroma_filtered numYPoints plus128 grain luma y x (n + 1) ps)

-- how many coefficients are read
abbrev pub num_pos_luma : ℕ → ℕ
num_pos_luma lag = 2 * lag * (lag + 1)

-- one more, for the luma tap, where num_y_points is above 0
abbrev pub num_pos_chroma : ℕ → ℕ → ℕ
num_pos_chroma numYPoints lag = cond (ltb 0 numYPoints) (num_pos_luma lag + 1) (num_pos_luma lag)
