-- "noise worked out from two lent planes as needed": the tables of a view's rows.
use Rattle.std.specs.Prelude.{◌≡◌, List, ℕ, ◌-◌, ◌*◌, ◌≤◌, ◌<◌, ℤ, length}
use Rattle.normal.specs.Normal.{Picture}
use Rattle.normal.specs.Layout.{block_at}
use Rattle.normal.specs.Starts.{start_sum, by_blocks}

-- row r's tables: block d holds the sums of rows r - d and r, by start
pub record RowTables (f : Picture) (n side starts r : ℕ) (tables : List ℤ) : Type 0 where
  pub size : length tables ≡ starts * (side * side)
  pub there : (d c : ℕ) → d < starts → d ≤ r → c < side * side
      → block_at tables (side * side) d c ≡ by_blocks side (start_sum (f (r - d)) (f r) n) c
