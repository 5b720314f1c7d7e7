-- "Gaussian elimination on a matrix of 25 rows of 25 f64, of which `order` are used, in the Rust's order of operations, no fused multiply. The pivot is the first of largest magnitude by `>`. No solution if a pivot's magnitude is below 1e-9; a NaN pivot passes."
-- The steps of the Rust's `solve_normal`, each under its line; p is the order.
use Rattle.std.specs.Prelude.{cond, List, [], ℕ, ◌+◌, ◌-◌, get_or, set, replicate, Float}
use Rattle.std.specs.Float.{nan, binary64}
use Rattle.std.specs.Float.Ieee.{sub, mul, div, lt}
use Rattle.laws.specs.Constants.{tiny}
use Rattle.laws.specs.Limits.{order_limit}
use Rattle.laws.specs.Loop.{loop}
use Rattle.laws.specs.Scaled.{plus_zero}
use Rattle.float.specs.Magnitude.{magnitude_of}

abbrev pub Row : Type 0
Row = List Float

abbrev pub Matrix : Type 0
Matrix = List Row

-- the equations: a matrix a and the right side b
pub record System : Type 0 where
  pub matrix : Matrix
  pub right : Row

-- b[i], and a[r][c]
abbrev pub value : Row → ℕ → Float
value b i = get_or b i nan

abbrev pub cell : Matrix → ℕ → ℕ → Float
cell a r c = value (get_or a r []) c

-- a[r][c] = x
abbrev pub stored : Matrix → ℕ → ℕ → Float → Matrix
stored a r c x = set a r (set (get_or a r []) c x)

-- x - f * y: the product is rounded, and then the difference
abbrev pub less : Float → Float → Float → Float
less x f y = sub binary64 x (mul binary64 f y)

-- `1e-9`, which a pivot's magnitude must not be below
abbrev pub limit : Float
limit = tiny

-- ---- forward

-- if a[r][i].abs() > a[piv][i].abs() { piv = r; }
unfoldable pub larger : Matrix → ℕ → ℕ → ℕ → ℕ
larger a i r piv = cond (lt (magnitude_of (cell a piv i)) (magnitude_of (cell a r i))) r piv

-- let mut piv = i; for r in i + 1..p { .. }
unfoldable pub pivot_of : ℕ → Matrix → ℕ → ℕ
pivot_of p a i = loop (i + 1) p (larger a i) i

-- swap(i, j)
abbrev pub swapped : {A : Type 0} → A → List A → ℕ → ℕ → List A
swapped d xs i j = set (set xs i (get_or xs j d)) j (get_or xs i d)

-- a.swap(i, piv); b.swap(i, piv);
unfoldable pub pivoted : ℕ → ℕ → System → System
pivoted p i s =
    record {
      matrix = swapped [] s.matrix i (pivot_of p s.matrix i);
      right = swapped nan s.right i (pivot_of p s.matrix i);
    }

-- a[r][c] -= f * a[i][c];
unfoldable pub cell_less : ℕ → ℕ → Float → ℕ → Matrix → Matrix
cell_less i r f c a = stored a r c (less (cell a r c) f (cell a i c))

-- for c in i..p { .. } b[r] -= f * b[i];
unfoldable pub row_less : ℕ → ℕ → ℕ → Float → System → System
row_less p i r f s =
    record {
      matrix = loop i p (cell_less i r f) s.matrix;
      right = set s.right r (less (value s.right r) f (value s.right i));
    }

-- let f = a[r][i] / a[i][i];
unfoldable pub row_cleared : ℕ → ℕ → ℕ → System → System
row_cleared p i r s = row_less p i r (div binary64 (cell s.matrix r i) (cell s.matrix i i)) s

-- for r in i + 1..p { .. }
unfoldable pub cleared : ℕ → ℕ → System → System
cleared p i s = loop (i + 1) p (row_cleared p i) s

-- the elimination so far: equations, or a pivot was below the limit
pub data Stage : Type 0 where
  going : System → Stage
  none : Stage

-- if a[i][i].abs() < 1e-9 { return None; }
unfoldable pub tested : ℕ → ℕ → System → Stage
tested p i s = cond (lt (magnitude_of (cell s.matrix i i)) limit) none (going (cleared p i s))

unfoldable pub column : ℕ → ℕ → Stage → Stage
column p i none = none
column p i (going s) = tested p i (pivoted p i s)

-- for i in 0..p { .. }
unfoldable pub eliminated : ℕ → System → Stage
eliminated p s = loop 0 p (column p) (going s)

-- ---- backward

-- v -= a[i][j] * x[j];
unfoldable pub known_less : Row → Row → ℕ → Float → Float
known_less row x j v = less v (value row j) (value x j)

-- let mut v = b[i]; for j in i + 1..p { .. } v / a[i][i], of the row a[i]
unfoldable pub unknown_of : ℕ → Row → Float → Row → ℕ → Float
unknown_of p row v x i = div binary64 (loop (i + 1) p (known_less row x) v) (value row i)

-- x[i] = ..; the turn n of the reverse loop has i = p - 1 - n
unfoldable pub placed : ℕ → System → ℕ → Row → Row
placed p s n x =
    let i = p - 1 - n in
    set x i (unknown_of p (get_or s.matrix i []) (value s.right i) x i)

-- let mut x = vec![0.0; p]; for i in (0..p).rev() { .. }
unfoldable pub substituted : ℕ → System → Row
substituted p s = loop 0 p (placed p s) (replicate order_limit plus_zero)
