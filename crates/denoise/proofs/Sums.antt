-- The line of sums: its length and entries, how large they are, and that it is the first column's sum, every column's, and the last column's. Assumes nothing.
use Rattle.std.proofs.Common.{◌≡◌, ◌+◌, ◌-◌, ◌*◌, ◌<◌, ◌≤◌, min, ℕ, List, length, get_or, take, drop, refl, sym, ◌∙◌, add_comm, arith}
use Rattle.std.proofs.Math.ListN.{set, length-set, length-drop}
use Rattle.std.proofs.lemmas.Slice.{take-put_mid}
use Rattle.std.proofs.Math.Seq.{length-take-le}
use borrow.Rule.Slice.PartMut.{put_mid, same_len_mid}
use Rattle.laws.specs.Table.{tabulate}
use Rattle.laws.proofs.Table.{length-tabulate, get_d_tabulate, tabulate-then, tabulate-more, tabulate-ends}
use Rattle.denoise.specs.Line.{column_sum, column_sums, SumsLow}

module _ (up mid down : List ℕ) (n : ℕ) where
  -- the sum of column i - 1, held at the edge
  abbrev held : ℕ → ℕ
  held i = column_sum up mid down (min (i - 1) (n - 1))

  pub length-column_sums : length (column_sums up mid down n) ≡ n + 2
  unfolding column_sums
  length-column_sums = length-tabulate (n + 2) held

  pub get_or-column_sums : (i : ℕ) → i < n + 2 → get_or (column_sums up mid down n) i 0 ≡ held i
  unfolding column_sums
  get_or-column_sums i l = get_d_tabulate (n + 2) held i 0 l

  pub sums_low : 0 < n → ((c : ℕ) → c < n → column_sum up mid down c ≤ 4 * 65535) → SumsLow (column_sums up mid down n)
  sums_low some low i l = rw (get_or-column_sums i (omega (arith, length-column_sums))) (low (min (i - 1) (n - 1)) (omega arith))

  held_is : (i c : ℕ) → min (i - 1) (n - 1) ≡ c → column_sum up mid down c ≡ held i
  held_is i c e = rw e

  -- the part of the line between its ends, once the first is stored
  pub length-between : (line : List ℕ) (first k : ℕ) → k ≡ n → length line ≡ n + 2 → length (take k (drop 1 (set line 0 first))) ≡ n
  length-between line first k ek size = length-take-le k _ (rw (length-drop, length-set) (omega arith)) ∙ ek

  pub sums_whole : (line inner : List ℕ) (first last k j : ℕ) → k ≡ n → 0 < n → length line ≡ n + 2
      → first ≡ column_sum up mid down 0 → last ≡ column_sum up mid down (n - 1)
      → length inner ≡ n → n ≤ j → j ≤ n → take j inner ≡ tabulate j (column_sum up mid down)
      → set (put_mid 1 k (set line 0 first) inner) (n + 1) last ≡ column_sums up mid down n
  unfolding column_sums
  sums_whole line inner first last k j ek some size ef el whole end most front =
      let l = set line 0 first in
      let long : length l ≡ n + 2 = length-set line 0 first ∙ size in
      let columns : inner ≡ tabulate n (column_sum up mid down) = tabulate-ends inner j n (column_sum up mid down) whole most end front in
      let one : take 1 l ≡ tabulate 1 held = tabulate-more line 0 held first (omega arith) refl (ef ∙ held_is 0 0 (omega arith)) in
      let p = put_mid 1 k l inner in
      let more : take (n + 1) p ≡ tabulate (n + 1) held =
      take-put_mid 1 k l inner (n + 1) (rw whole (omega arith)) (omega arith)
      ∙ rw (one, columns, tabulate-then 1 n held (column_sum up mid down) (λ j h. held_is (1 + j) j (omega arith)), add_comm 1 n) in
      let same : length p ≡ n + 2 = same_len_mid 1 k l inner (whole ∙ sym (length-between line first k ek size)) ∙ long in
      tabulate-ends (set p (n + 1) last) (n + 1 + 1) (n + 2) held (length-set p (n + 1) last ∙ same) (omega arith) (omega arith)
      (tabulate-more p (n + 1) held last (omega arith) more (el ∙ held_is (n + 1) (n - 1) (omega arith)))
