-- An elimination's step on the matrix is its step on the one row that changes. Assumes nothing.
use mathlib.Core.Path.{◌≡◌, sym, ap, ◌∙◌}
use mathlib.Core.Logic.{◌≢◌}
use mathlib.Core.List.{[], ◌++◌}
use Prim.Native.Nat.{ℕ, ◌+◌, ◌-◌, ◌≤◌, ◌<◌}
use native.Mathlib.Nat.{lt_of_not-le}
use native.Mathlib.Decide.{dec_le}
use native.Mathlib.Omega.{arith}
use borrow.Rule.Slice.PartMut.{put_mid, post_of}
use lib.Ieee.{Float, nan, binary64, div}
use lib.ListN.{length, get_or, set, take}
use lib.Seq.{get_or-set_same, get_or-set_other, set-get_or, set-set, set_out}
use Rattle.std.proofs.lemmas.List.{length-take-le, get_or_append_left, get_or-append_right, set-append_left, set-append_right}
use Rattle.laws.specs.Loop.{loop}
use Rattle.laws.proofs.Loop.{loops-together}
use Rattle.solve.specs.Elimination.{Row, Matrix, System, value, cell, cell_less, row_less, row_cleared}
use Rattle.solve.specs.Rows.{entry_less, factor_of, less_row}

module _ (p i r : ℕ) (f : Float) (a : Matrix) (other : i ≢ r) where
  -- a store past the matrix's rows, which there is none of, changes nothing
  step : (k : ℕ) (m : Matrix) (row : Row) → i ≤ k → k < p → m ≡ set a r row → cell_less i r f k m ≡ set a r (entry_less row k f (cell a i k))
  unfolding cell_less
  step k m row _ _ e = pick (dec_le (length a) r) where
    pick : Dec (length a ≤ r) → cell_less i r f k m ≡ set a r (entry_less row k f (cell a i k))
    pick (yes o) = rw (e, set_out a r row o) (set_out a r _ o ∙ sym (set_out a r _ o))
    pick (no n) = rw (e, get_or-set_same a r row [] (lt_of_not-le n), get_or-set_other a r i row [] other, set-set)

  pub rows_apart : i ≤ p → loop i p (cell_less i r f) a ≡ set a r (less_row p i f (get_or a i []) (get_or a r []))
  unfolding less_row
  rows_apart l =
      loops-together (λ _ m row. m ≡ set a r row) i p (cell_less i r f) (λ c left. entry_less left c f (cell a i c)) step l a (get_or a r []) (sym (set-get_or a r []))

-- a row cleared, from what is left of it: the pivot's row is as it was
pub pivot-stays : (i r : ℕ) (a : Matrix) (pivot row : Row) → i < r → pivot ≡ get_or a i [] → pivot ≡ get_or (set a r row) i []
pivot-stays i r a pivot row l q = q ∙ sym (get_or-set_other a r i row [] (λ d. omega arith))

pub row-cleared-is : (p i r : ℕ) (a : Matrix) (b pivot row : Row) (f : Float) → i < p → i < r → pivot ≡ get_or a i []
    → f ≡ factor_of (get_or a r []) pivot i
    → row ≡ less_row p i f pivot (get_or a r [])
    → ◌≡◌ {A = System} (record { matrix = set a r row; right = entry_less b r f (value b i) }) (row_cleared p i r (record { matrix = a; right = b }))
unfolding row_cleared row_less
row-cleared-is p i r a b pivot row f l m q e d = rw (d, e, q, rows_apart p i r (div binary64 (cell a r i) (cell a i i)) a (λ d. omega arith) (omega arith))

-- a part of a row, of m entries from a on: an entry of the part less what is taken from it is that of the row
pub part-less : (row part : Row) (a m c : ℕ) (f v : Float) → a ≤ length row → c < length part → put_mid a m row (entry_less part c f v) ≡ entry_less (put_mid a m row part) (a + c) f v
part-less row part a m c f v h l =
    let e : a + c - a ≡ c = omega arith in
    let front : length (take a row) ≡ a = length-take-le a row h in
    let entry : value (put_mid a m row part) (a + c) ≡ value part c =
    get_or-append_right (take a row) (part ++ post_of a m row) a (a + c) nan front (omega arith) ∙ rw e (get_or_append_left part (post_of a m row) nan c l) in
    sym (rw entry (set-append_right (take a row) (part ++ post_of a m row) a (a + c) _ front (omega arith)
    ∙ rw e (ap (λ (t : Row). take a row ++ t) (set-append_left part (post_of a m row) c _ l))))
