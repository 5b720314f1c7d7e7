-- "The exact sum adds the same products as whole numbers": where such sums stand while the rows of a picture pass.
-- Blocks of k numbers follow one another in a list. A block has a number for every two starts of two lines, `side` of each.
use Rattle.std.specs.Prelude.{◌≡◌, cond, List, ℕ, ◌+◌, ◌-◌, ◌*◌, ◌/◌, ◌%◌, ◌^◌, ◌≤◌, ◌<◌, leb, ltb, ℤ, pos, nat_abs, ◌+ℤ◌, length}
use Rattle.noise.specs.Lines.{at}
use Rattle.normal.specs.Layout.{block_at}

-- two lists of one length whose sums an i64 holds
pub record Addable (sums more : List ℤ) : Type 0 where
  pub same : length sums ≡ length more
  pub small : (i : ℕ) → i < length sums → nat_abs (at sums i +ℤ at more i) < 2 ^ 63

-- x where `rows` rows from row `low` on have row r among them, else 0
unfoldable pub if_passed : ℕ → ℕ → ℕ → ℤ → ℤ
if_passed rows r low x = cond (leb low r) (cond (ltb (r - low) rows) x (pos 0)) (pos 0)

-- sums that hold a block for each pair of start rows: block z is for lines z / starts apart, the upper of which starts at row z % starts. The tables of row r hold a block for each distance, and an i64 holds the sums of both
pub record Room (sums tables : List ℤ) (starts r k : ℕ) : Type 0 where
  pub sums-size : length sums ≡ starts * starts * k
  pub tables-size : length tables ≡ starts * k
  pub some : 1 ≤ k
  pub small : (z c : ℕ) → z < starts * starts → c < k → z / starts + z % starts ≤ r
      → nat_abs (block_at sums k z c +ℤ block_at tables k (z / starts) c) < 2 ^ 63

-- each block with its table added, where row r is the lower of a pair of rows
pub record Added (before sums tables : List ℤ) (starts rows r k : ℕ) : Type 0 where
  pub same : length sums ≡ length before
  pub there : (z c : ℕ) → z < starts * starts → c < k
      → block_at sums k z c ≡ block_at before k z c +ℤ if_passed rows r (z / starts + z % starts) (block_at tables k (z / starts) c)
