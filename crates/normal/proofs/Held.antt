-- The sums of pairs of rows while the rows pass: the state before the first row, after a row and after the last. Assumes nothing.
use mathlib.Core.Path.{◌≡◌, sym, ap, ◌∙◌}
use mathlib.Core.List.{List}
use mathlib.Core.Logic.{⊎_elim}
use Prim.Native.Nat.{ℕ, ◌+◌, ◌-◌, ◌*◌, ◌/◌, ◌%◌, ◌≤◌, ◌<◌, min}
use native.Mathlib.Nat.{le_trans, le_of_eq, lt_of_le_of_lt, add-le-add, mul-le-mul, mul-le-mul_right, min-zero, min-eq_left, min-eq_right, min-le_right}
use native.Mathlib.Omega.{arith}
use lib.Arith.{digits_lt, digits_div, digits_mod}
use lib.Dec.{lit<}
use lib.IntN.{ℤ, pos, nat_abs, ◌+ℤ◌, +ℤ_idr}
use lib.ListN.{length}
use Rattle.laws.specs.Sums.{total, sum_to}
use Rattle.laws.proofs.Sums.{sum_more, sum_bound}
use Rattle.laws.proofs.Whole.{abs-add}
use Rattle.std.proofs.lemmas.Bool.{cases_lt}
use Rattle.laws.specs.Limits.{side_limit}
use Rattle.frame.specs.declared.view.View.{View}
use Rattle.noise.specs.Lines.{noise_limit}
use Rattle.noise.specs.Seen.{noise_at}
use Rattle.normal.specs.Normal.{Picture}
use Rattle.normal.specs.Layout.{block_at}
use Rattle.normal.specs.Starts.{start_sum, by_blocks}
use Rattle.normal.specs.Blocks.{if_passed, Room, Added}
use Rattle.normal.specs.Rows.{RowTables}
use Rattle.normal.proofs.Places.{quotient, remainder}
use Rattle.normal.proofs.Passing.{passed-before, passed-after, passed-now}
use Rattle.normal.proofs.RowLines.{Plot, rows_bound}
use Rattle.normal.proofs.Sizes.{Zeros}

-- over m pairs of rows, `apart` from one another, the first of which has row `above`
unfoldable pub pair_sum : Picture → ℕ → ℕ → ℕ → ℕ → ℕ → ℕ → ℤ
unfolding total
pair_sum f n side apart above m c = sum_to (λ y. by_blocks side (start_sum (f (above + y)) (f (above + apart + y)) n) c) m

-- over `rows` pairs, in blocks: for every two of `starts` start rows, the lower of which is one of them
pub record StartSums (f : Picture) (n side starts rows : ℕ) (sums : List ℤ) : Type 0 where
  pub size : length sums ≡ starts * starts * (side * side)
  pub there : (apart above c : ℕ) → apart + above < starts → c < side * side
      → block_at sums (side * side) (apart * starts + above) c ≡ pair_sum f n side apart above rows c

-- before row r: a pair of rows whose lower row starts at `low` has passed r - low times, and at most `rows` times
pub record Held (f : Picture) (n side starts rows r : ℕ) (sums : List ℤ) : Type 0 where
  pub size : length sums ≡ starts * starts * (side * side)
  pub there : (z c : ℕ) → z < starts * starts → c < side * side
      → block_at sums (side * side) z c ≡ pair_sum f n side (z / starts) (z % starts) (min rows (r - (z / starts + z % starts))) c

module _ (f : Picture) (n side starts rows : ℕ) where
  abbrev k : ℕ
  k = side * side

  pub held-starts : {sums : List ℤ} → Zeros (starts * starts * k) sums → Held f n side starts rows 0 sums
  unfolding pair_sum total
  held-starts Z =
      record {
        size = Z.size;
        there = λ z c h l. let none : 0 - (z / starts + z % starts) ≡ 0 = omega arith in
            Z.zero (z * k + c) (digits_lt h l)
            ∙ ap (λ (m : ℕ). pair_sum f n side (z / starts) (z % starts) m c) (sym (ap (min rows) none ∙ min-zero rows));
      }

  -- after the last row
  pub held-ends : {sums : List ℤ} (r : ℕ) → Held f n side starts rows r sums → rows + starts ≤ r + 1 → StartSums f n side starts rows sums
  held-ends r H h =
      record {
        size = H.size;
        there = λ apart above c l m.
            let la : above < starts = omega arith in
            let lb : apart < starts = omega arith in
            let ea = digits_div apart la in
            let eb = digits_mod apart la in
            let all : rows ≤ r - (apart + above) = omega arith in
            H.there (apart * starts + above) c (digits_lt lb la) m
            ∙ (λ i. pair_sum f n side (ea i) (eb i) (min rows (r - (ea i + eb i))) c)
            ∙ ap (λ (m : ℕ). pair_sum f n side apart above m c) (min-eq_left all);
      }

  -- one pair of rows more
  module _ (r apart above c : ℕ) where
    abbrev low : ℕ
    low = apart + above

    abbrev passed : ℕ → ℤ
    passed m = pair_sum f n side apart above m c

    abbrev rows_sum : ℤ
    rows_sum = by_blocks side (start_sum (f (r - apart)) (f r) n) c

    stays : (m m' : ℕ) → m ≡ m' → if_passed rows r low rows_sum ≡ pos 0 → passed m +ℤ if_passed rows r low rows_sum ≡ passed m'
    stays m m' e d = ap (λ (z : ℤ). passed m +ℤ z) d ∙ +ℤ_idr (passed m) ∙ ap passed e

    grows : low ≤ r → r - low < rows → passed (r - low) +ℤ if_passed rows r low rows_sum ≡ passed (r + 1 - low)
    unfolding pair_sum
    grows h l =
        let u : r - apart ≡ above + (r - low) = omega arith in
        let v : r ≡ above + apart + (r - low) = omega arith in
        let m : r - low + 1 ≡ r + 1 - low = omega arith in
        ap (λ (z : ℤ). passed (r - low) +ℤ z) (passed-now rows r low rows_sum h l ∙ (λ i. by_blocks side (start_sum (f (u i)) (f (v i)) n) c))
        ∙ sum_more (λ y. by_blocks side (start_sum (f (above + y)) (f (above + apart + y)) n) c) (r - low)
        ∙ ap passed m

    pub pair-more : passed (min rows (r - low)) +ℤ if_passed rows r low rows_sum ≡ passed (min rows (r + 1 - low))
    pair-more = ⊎_elim before (λ h. ⊎_elim (during h) (after h) (cases_lt (r - low) rows)) (cases_lt r low)
      where
        before : r < low → passed (min rows (r - low)) +ℤ if_passed rows r low rows_sum ≡ passed (min rows (r + 1 - low))
        before h = let e : r - low ≡ r + 1 - low = omega arith in stays _ _ (ap (min rows) e) (passed-before rows r low rows_sum h)

        during : low ≤ r → r - low < rows → passed (min rows (r - low)) +ℤ if_passed rows r low rows_sum ≡ passed (min rows (r + 1 - low))
        during h l =
            let l₀ : r - low ≤ rows = omega arith in
            let l₁ : r + 1 - low ≤ rows = omega arith in
            ap (λ (m : ℕ). passed m +ℤ if_passed rows r low rows_sum) (min-eq_right l₀) ∙ grows h l ∙ ap passed (sym (min-eq_right l₁))

        after : low ≤ r → rows ≤ r - low → passed (min rows (r - low)) +ℤ if_passed rows r low rows_sum ≡ passed (min rows (r + 1 - low))
        after h l =
            let l₁ : rows ≤ r + 1 - low = omega arith in
            stays _ _ (min-eq_left l ∙ sym (min-eq_left l₁)) (passed-after rows r low rows_sum h l)

  -- after a row
  module _ (r : ℕ) {sums tables : List ℤ} (H : Held f n side starts rows r sums) (T : RowTables f n side starts r tables) where
    pub held-turn : {sums' : List ℤ} → Added sums sums' tables starts rows r k → Held f n side starts rows (r + 1) sums'
    held-turn A =
        record {
          size = A.same ∙ H.size;
          there = λ z c h l.
              A.there z c h l
              ∙ (λ i. H.there z c h l i +ℤ table z c h l i)
              ∙ pair-more r (z / starts) (z % starts) c;
        }
      where
        table : (z c : ℕ) → z < starts * starts → c < k
            → if_passed rows r (z / starts + z % starts) (block_at tables k (z / starts) c)
            ≡ if_passed rows r (z / starts + z % starts) (by_blocks side (start_sum (f (r - z / starts)) (f r) n) c)
        table z c h l = ⊎_elim (λ b. passed-before _ _ _ _ b ∙ sym (passed-before _ _ _ _ b)) (λ b. ap (if_passed rows r (z / starts + z % starts)) (T.there (z / starts) c (quotient starts z h) (omega arith) l)) (cases_lt r (z / starts + z % starts))

-- ---- sums of noise: they leave room for another row
module _ {v : View} {source denoised : List ℕ} {n side : ℕ} (P : Plot v source denoised n side) (starts rows r : ℕ) (in_rows : r < v.height) where
  abbrev noises : Picture
  noises = noise_at source denoised v

  abbrev most : ℕ
  most = side_limit * (noise_limit * noise_limit)

  pair-le : (u l c : ℕ) → u < v.height → l < v.height → c < side * side → nat_abs (by_blocks side (start_sum (noises u) (noises l) n) c) ≤ most
  pair-le u l c hu hl q = rows_bound P u l hu hl (c / side) (c % side) (quotient side c q) (remainder side c q)

  passed-bound : (apart above m c : ℕ) → apart + above + m ≤ r → c < side * side → nat_abs (pair_sum noises n side apart above m c) ≤ side_limit * most
  unfolding pair_sum
  passed-bound apart above m c l q =
      let few : m ≤ side_limit = omega (arith, P.seen.low) in
      le_trans (sum_bound (λ y. by_blocks side (start_sum (noises (above + y)) (noises (above + apart + y)) n) c) most m
      (λ y k. pair-le (above + y) (above + apart + y) c (omega arith) (omega arith) q))
      (mul-le-mul_right most few)

  pub held-room : {sums tables : List ℤ} → Held noises n side starts rows r sums → RowTables noises n side starts r tables → Room sums tables starts r (side * side)
  held-room H T =
      record {
        sums-size = H.size;
        tables-size = T.size;
        some = mul-le-mul P.some P.some;
        small = λ z c l q low-le.
            let low = z / starts + z % starts in
            let m = min rows (r - low) in
            lt_of_le_of_lt (le_of_eq (λ i. nat_abs (H.there z c l q i +ℤ T.there (z / starts) c (quotient starts z l) (omega arith) q i)))
            (lt_of_le_of_lt (abs-add (pair_sum noises n side (z / starts) (z % starts) m c) (by_blocks side (start_sum (noises (r - z / starts)) (noises r) n) c))
            (lt_of_le_of_lt (add-le-add (passed-bound (z / starts) (z % starts) m c (omega (arith, min-le_right rows (r - low))) q)
            (pair-le (r - z / starts) r c (omega arith) in_rows q)) (lit< tt)));
      }
