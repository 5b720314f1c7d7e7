-- Sums by start, filled block by block as rows are worked out: one block more, which may be the front of one, and all blocks of a row's tables. Assumes nothing.
use mathlib.Core.Path.{◌≡◌, sym, ◌∙◌}
use mathlib.Core.List.{List, ◌++◌}
use Prim.Native.Nat.{ℕ, ◌+◌, ◌-◌, ◌*◌, ◌≤◌, ◌<◌, min}
use native.Mathlib.Nat.{le_trans, le_of_eq, lt_of_lt_of_le, mul-le-mul_right, min-le_left, min-le_right, le-min}
use native.Mathlib.Omega.{arith}
use lib.Arith.{digits_lt}
use lib.IntN.{ℤ}
use lib.ListN.{length, take, drop}
use Rattle.laws.specs.Table.{tabulate}
use Rattle.laws.proofs.Table.{tabulate-same}
use Rattle.normal.specs.Normal.{Picture}
use Rattle.normal.specs.Starts.{start_sum, by_blocks}
use Rattle.normal.specs.Rows.{RowTables}
use Rattle.normal.proofs.Places.{row-end, block-end, block-at}
use Rattle.normal.proofs.Reached.{Reached, reached-part}

-- m numbers of block z, lent and come back
pub filling : (k : ℕ) (f : ℕ → ℕ → ℤ) (before : List ℤ) {now : List ℤ} (z m : ℕ) → Reached (by_blocks k f) before now (z * k) → m ≤ k → z * k + m ≤ length before
    → {new : List ℤ} → new ≡ tabulate m (f z) → Reached (by_blocks k f) before (take (z * k) now ++ (new ++ drop (z * k + m - z * k) (drop (z * k) now))) (z * k + m)
filling k f before z m R l h e =
    reached-part (by_blocks k f) before (z * k) R m h (e ∙ tabulate-same m _ _ (λ c q. sym (block-at k f z c (lt_of_lt_of_le q l))))

-- ---- the tables of row r: block d is by the starts of rows r - d and r
abbrev table_of : Picture → ℕ → ℕ → ℕ → ℕ → ℕ → ℤ
table_of f n side r d = by_blocks side (start_sum (f (r - d)) (f r) n)

-- d of them are filled
pub record Filling (f : Picture) (n side starts r : ℕ) (before tables : List ℤ) (d : ℕ) : Type 0 where
  pub sized : length before ≡ starts * (side * side)
  pub reached : Reached (by_blocks (side * side) (table_of f n side r)) before tables (d * (side * side))

module _ {f : Picture} {n side starts r : ℕ} {before tables : List ℤ} {d : ℕ} (F : Filling f n side starts r before tables d) where
  abbrev k : ℕ
  k = side * side

  pub tables_end : min starts (r + 1) ≤ d → RowTables f n side starts r tables
  tables_end h =
      record {
        size = F.reached.same ∙ F.sized;
        there = λ e c l m q. F.reached.there (e * k + c) (lt_of_lt_of_le (digits_lt (le-min l (under e m)) q) (mul-le-mul_right k h)) ∙ block-at k (table_of f n side r) e c q;
      }
    where
      under : (e : ℕ) → e ≤ r → e < r + 1
      under e m = omega arith

  module _ (h : d < min starts (r + 1)) where
    pub row-above : d ≤ r
    row-above = omega (arith, lt_of_lt_of_le h (min-le_right starts (r + 1)))

    table-in : d * k + k ≤ length before
    table-in = le_trans (block-end starts d k (lt_of_lt_of_le h (min-le_left starts (r + 1)))) (le_of_eq (sym F.sized))

    pub tables-turn : {new : List ℤ} → new ≡ tabulate k (table_of f n side r d) → Filling f n side starts r before (take (d * k) tables ++ (new ++ drop (d * k + k - d * k) (drop (d * k) tables))) (d + 1)
    tables-turn {new} e = record { sized = F.sized; reached = rw (row-end k d) (filling k (table_of f n side r) before d k F.reached (omega arith) table-in e) }
