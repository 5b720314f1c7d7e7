-- The tables of a row, added block by block: a block with its table, and all of them. Assumes nothing.
use mathlib.Core.Path.{◌≡◌, sym, ap, ◌∙◌, subst}
use mathlib.Core.List.{List, ◌++◌}
use Prim.Native.Nat.{ℕ, ◌+◌, ◌-◌, ◌*◌, ◌/◌, ◌%◌, ◌^◌, ◌≤◌, ◌<◌}
use native.Mathlib.Nat.{le_trans, le_of_eq, lt_of_lt_of_le, mul-le-mul_right}
use native.Mathlib.Omega.{arith}
use borrow.Author.Tests.{lt-ltb, le-ltb, le-leb, lt-leb}
use lib.Arith.{digits_lt, digits_div, digits_mod}
use lib.IntN.{ℤ, pos, nat_abs, ◌+ℤ◌}
use lib.ListN.{length, take, drop}
use Rattle.laws.specs.Table.{tabulate}
use Rattle.laws.proofs.Table.{tabulate-same}
use Rattle.noise.specs.Lines.{at}
use Rattle.normal.specs.Layout.{block_at}
use Rattle.normal.specs.Starts.{by_blocks}
use Rattle.normal.specs.Blocks.{if_passed, Addable, Room, Added}
use Rattle.normal.proofs.Places.{row-end, block-end, block-at, quotient}
use Rattle.normal.proofs.Stored.{part, part_length, part_at}
use Rattle.normal.proofs.Reached.{Reached, reached-part, part-long}

-- ---- whether row r is passed
module _ (rows r low : ℕ) (x : ℤ) where
  pub passed-before : r < low → if_passed rows r low x ≡ pos 0
  unfolding if_passed
  passed-before h = rw (lt-leb low r h)

  pub passed-after : low ≤ r → rows ≤ r - low → if_passed rows r low x ≡ pos 0
  unfolding if_passed
  passed-after h k = rw (le-leb low r h, le-ltb (r - low) rows k)

  pub passed-now : low ≤ r → r - low < rows → if_passed rows r low x ≡ x
  unfolding if_passed
  passed-now h k = rw (le-leb low r h, lt-ltb (r - low) rows k)

-- ---- room
module _ {sums tables : List ℤ} {starts r k : ℕ} (R : Room sums tables starts r k) where
  module _ (z : ℕ) (h : z < starts * starts) where
    pub sums-end : z * k + k ≤ length sums
    sums-end = le_trans (block-end (starts * starts) z k h) (le_of_eq (sym R.sums-size))

    pub tables_end : z / starts * k + k ≤ length tables
    tables_end = le_trans (block-end starts (z / starts) k (quotient starts z h)) (le_of_eq (sym R.tables-size))

-- ---- the sums of blocks, in order
module _ (tables before : List ℤ) (starts rows r k : ℕ) where
  abbrev low : ℕ → ℕ
  low z = z / starts + z % starts

  abbrev grown : ℕ → ℕ → ℤ
  grown z c = block_at before k z c +ℤ if_passed rows r (low z) (block_at tables k (z / starts) c)

  abbrev pub passing : ℕ → ℤ
  passing = by_blocks k grown

  module _ {sums : List ℤ} (R : Room before tables starts r k) (z : ℕ) (A : Reached passing before sums (z * k)) where
    pub passing-ends : starts * starts ≤ z → Added before sums tables starts rows r k
    passing-ends h =
        record { same = A.same; there = λ y c l m. A.there (y * k + c) (lt_of_lt_of_le (digits_lt l m) (mul-le-mul_right k h)) ∙ block-at k grown y c m }

    module _ (h : z < starts * starts) where
      block_in : z * k + k ≤ length before
      block_in = sums-end R z h

      -- its part of the sums, and the table that it has
      abbrev table : List ℤ
      table = part tables (z / starts * k) k

      sum-size : length (part sums (z * k) k) ≡ k
      sum-size = part_length sums (z * k) k (part-long passing before (z * k) A k block_in)

      pub passing-same : length (part sums (z * k) k) ≡ length table
      passing-same = sum-size ∙ sym (part_length tables (z / starts * k) k (tables_end R z h))

      sum-at : (c : ℕ) → c < k → at (part sums (z * k) k) c ≡ block_at before k z c
      sum-at c m = part_at sums (z * k) k c m ∙ A.rest (z * k + c) (omega arith)

      table_at : (c : ℕ) → c < k → at table c ≡ block_at tables k (z / starts) c
      table_at c m = part_at tables (z / starts * k) k c m

      pub passing-addable : low z ≤ r → Addable (part sums (z * k) k) table
      passing-addable l =
          record {
            same = passing-same;
            small = λ c m. let n : c < k = lt_of_lt_of_le m (le_of_eq sum-size) in
                subst (λ (x : ℤ). nat_abs x < 2 ^ 63) (λ i. sym (sum-at c n) i +ℤ sym (table_at c n) i) (R.small z c h n l);
          }

      pub passing-turn : {new : List ℤ} → new ≡ tabulate (length (part sums (z * k) k)) (λ c. at (part sums (z * k) k) c +ℤ if_passed rows r (low z) (at table c))
          → Reached passing before (take (z * k) sums ++ (new ++ drop (z * k + k - z * k) (drop (z * k) sums))) ((z + 1) * k)
      passing-turn {new} e =
          subst (λ (m : ℕ). Reached passing before (take (z * k) sums ++ (new ++ drop (z * k + k - z * k) (drop (z * k) sums))) m) (sym (row-end k z))
          (reached-part passing before (z * k) A k block_in
          (e ∙ ap (λ (m : ℕ). tabulate m (λ c. at (part sums (z * k) k) c +ℤ if_passed rows r (low z) (at table c))) sum-size
          ∙ tabulate-same k _ _ (λ c m. (λ i. sum-at c m i +ℤ if_passed rows r (low z) (table_at c m i)) ∙ sym (block-at k grown z c m))))

-- ---- the block of two start rows, the lower of which is `apart` rows further down
module _ {tables before : List ℤ} {starts r k : ℕ} (R : Room before tables starts r k) {apart above : ℕ} (ha : apart < starts) (hb : above < starts) where
  module _ (rows : ℕ) {sums : List ℤ} (A : Reached (passing tables before starts rows r k) before sums ((apart * starts + above) * k)) where
    pub block-same : length (part sums ((apart * starts + above) * k) k) ≡ length (part tables (apart * k) k)
    block-same =
        passing-same tables before starts rows r k R (apart * starts + above) A (digits_lt ha hb)
        ∙ ap (λ (q : ℕ). length (part tables (q * k) k)) (digits_div apart hb)

    pub block-addable : apart + above ≤ r → Addable (part sums ((apart * starts + above) * k) k) (part tables (apart * k) k)
    block-addable l =
        subst (λ (q : ℕ). Addable (part sums ((apart * starts + above) * k) k) (part tables (q * k) k)) (digits_div apart hb)
        (passing-addable tables before starts rows r k R (apart * starts + above) A (digits_lt ha hb) (rw (digits_div apart hb, digits_mod apart hb) l))

    pub block-turn : {new : List ℤ}
        → new ≡ tabulate (length (part sums ((apart * starts + above) * k) k)) (λ c. at (part sums ((apart * starts + above) * k) k) c +ℤ if_passed rows r (apart + above) (at (part tables (apart * k) k) c))
        → Reached (passing tables before starts rows r k) before
        (take ((apart * starts + above) * k) sums ++ (new ++ drop ((apart * starts + above) * k + k - (apart * starts + above) * k) (drop ((apart * starts + above) * k) sums)))
        ((apart * starts + above + 1) * k)
    block-turn e =
        passing-turn tables before starts rows r k R (apart * starts + above) A (digits_lt ha hb)
        (e
        ∙ (λ i. tabulate (length (part sums ((apart * starts + above) * k) k)) (λ c. at (part sums ((apart * starts + above) * k) k) c
        +ℤ if_passed rows r (sym (digits_div apart hb) i + sym (digits_mod apart hb) i) (at (part tables (sym (digits_div apart hb) i * k) k) c))))
