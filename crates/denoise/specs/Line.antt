-- The form that the code works in: 1 2 1 down the columns of three rows, then 1 2 1 along the line of those sums. That it gives `smoothed` is `means-smooth`.
use Rattle.std.specs.Prelude.{List, ℕ, ◌+◌, ◌-◌, ◌*◌, ◌/◌, ◌<◌, ◌≤◌, min, length, get_or, take, drop}
use Rattle.laws.specs.Table.{tabulate}

-- three numbers, weighed 1 2 1
abbrev pub weigh : ℕ → ℕ → ℕ → ℕ
weigh a b c = a + 2 * b + c

-- a sixteenth, rounded
abbrev pub mean : ℕ → ℕ
mean sum = (sum + 8) / 16

-- column c of three rows
abbrev pub column_sum : List ℕ → List ℕ → List ℕ → ℕ → ℕ
column_sum up mid down c = weigh (get_or up c 0) (get_or mid c 0) (get_or down c 0)

-- the sums of n columns, the first and the last once more at the line's ends
unfoldable pub column_sums : List ℕ → List ℕ → List ℕ → ℕ → List ℕ
column_sums up mid down n = tabulate (n + 2) (λ i. column_sum up mid down (min (i - 1) (n - 1)))

-- sums of a column, each weighed from three samples
abbrev pub SumsLow : List ℕ → Type 0
SumsLow line = (i : ℕ) → i < length line → get_or line i 0 ≤ 4 * 65535

-- the mean of three neighbours of a line, the first of them at c
unfoldable pub line_mean : List ℕ → ℕ → ℕ
line_mean line c = mean (weigh (get_or line c 0) (get_or line (c + 1) 0) (get_or line (c + 2) 0))

-- row r of a plane w wide
abbrev pub row_of : List ℕ → ℕ → ℕ → List ℕ
row_of s w r = take w (drop (r * w) s)
