-- The numbers of one bin of a line, with 0 for the others: they are small, and their squares are the bin's. Of a bin outside a range that has them all there are none, and of one that is the whole range, all. Assumes nothing.
use mathlib.Core.Path.{◌≡◌, refl, sym, ap, ◌∙◌}
use mathlib.Core.Bool.{Bool, true, false, cond}
use mathlib.Core.List.{List}
use mathlib.Core.Logic.{◌⊎◌, inl, inr}
use Prim.Native.Nat.{ℕ, ◌*◌, ◌≤◌, ◌<◌, zero-le}
use native.Mathlib.Nat.{le_trans, le_of_eq, lt_of_lt_of_le}
use native.Mathlib.Omega.{arith}
use lib.Dec.{eqb}
use lib.IntN.{ℤ, pos, nat_abs}
use lib.ListN.{length, get_or}
use Rattle.laws.specs.Table.{tabulate}
use Rattle.noise.specs.Lines.{at}
use Rattle.laws.specs.Sums.{sum_n}
use Rattle.profile.specs.Shifted.{square_of}
use Rattle.profile.specs.Bins.{in_bin}
use Rattle.profile.specs.Parts.{shifted_limit, square_limit, ShiftedLine, Binned, Between, line_count, line_squares}
use Rattle.laws.proofs.SumsN.{sum-ext, sum_ones}
use Rattle.profile.proofs.Squares.{square_le, line_small, line-sum}
use Rattle.profile.proofs.Binning.{bin-le, count-le, none_in, all_in}

keep-small : (t : Bool) (d : ℤ) → nat_abs d ≤ shifted_limit → nat_abs (cond t d (pos 0)) ≤ shifted_limit
keep-small true d h = h
keep-small false d h = zero-le

keep-square : (t : Bool) (d : ℤ) → square_of (cond t d (pos 0)) ≡ cond t (square_of d) 0
keep-square true d = refl
keep-square false d = refl

module _ {line : List ℤ} {bins : List ℕ} (j : ℕ) (B : Binned line bins) where
  abbrev kept : ℕ → ℤ
  kept i = cond (eqb (get_or bins i 0) j) (at line i) (pos 0)

  small : (i : ℕ) → i < length bins → nat_abs (at line i) ≤ shifted_limit
  small i l = B.shifted-line.small i (lt_of_lt_of_le l (le_of_eq (sym B.same)))

  -- as `kept_line` fills them, n of them
  module _ (n : ℕ) (e : n ≡ length bins) {own : List ℤ} (filled : own ≡ tabulate n kept) where
    pub kept-line-small : ShiftedLine own
    kept-line-small =
        line_small n kept filled (le_trans (le_of_eq (e ∙ sym B.same)) B.shifted-line.few)
        (λ i l. keep-small (eqb (get_or bins i 0) j) (at line i) (small i (lt_of_lt_of_le l (le_of_eq e))))

    pub kept-squares : sum_n (λ i. square_of (at own i)) (length own) ≡ line_squares line bins j
    unfolding line_squares
    kept-squares =
        line-sum n kept filled
        ∙ ap (sum_n (λ i. square_of (kept i))) e
        ∙ sum-ext (λ i. square_of (kept i)) (in_bin (λ i. get_or bins i 0) j (λ i. square_of (at line i))) (length bins) (λ i l. keep-square (eqb (get_or bins i 0) j) (at line i))

  -- at most all places, with the largest squares
  pub line-squares-le : line_squares line bins j ≤ square_limit * length bins
  unfolding line_squares
  line-squares-le =
      let bin : ℕ → ℕ = λ i. get_or bins i 0 in
      omega (arith, bin-le bin (λ i. square_of (at line i)) (length bins) j square_limit (λ i l. square_le (at line i) (small i l)), count-le bin (length bins) j)

pub line-count-le : (bins : List ℕ) (j : ℕ) → line_count bins j ≤ length bins
unfolding line_count
line-count-le bins j = count-le (λ i. get_or bins i 0) (length bins) j

-- ---- bins outside a range, and a range of one bin
module _ (line : List ℤ) {bins : List ℕ} {least greatest j : ℕ} (B : Between bins least greatest) where
  outside : (j < least) ⊎ (greatest < j) → (i : ℕ) → i < length bins → get_or bins i 0 ≡ j → ⊥
  outside (inl h) i l e = omega (arith, B.least-is i l)
  outside (inr h) i l e = omega (arith, B.greatest-is i l)

  pub nothing : (j < least) ⊎ (greatest < j) → (0 ≡ line_count bins j) × (0 ≡ line_squares line bins j)
  unfolding line_count line_squares
  nothing h = (sym (none_in _ (λ i. 1) (length bins) j (outside h)), sym (none_in _ (λ i. square_of (at line i)) (length bins) j (outside h)))

  only : least ≤ j → j ≤ greatest → least ≡ greatest → (i : ℕ) → i < length bins → get_or bins i 0 ≡ j
  only a b e i l = omega (arith, B.least-is i l, B.greatest-is i l)

  pub everything : least ≤ j → j ≤ greatest → least ≡ greatest → length line ≡ length bins
      → (length bins ≡ line_count bins j) × (sum_n (λ i. square_of (at line i)) (length line) ≡ line_squares line bins j)
  unfolding line_count line_squares
  everything a b e same =
      (sym (all_in _ (λ i. 1) (length bins) j (only a b e) ∙ sum_ones (length bins)), ap (sum_n (λ i. square_of (at line i))) same ∙ sym (all_in _ (λ i. square_of (at line i)) (length bins) j (only a b e)))

-- ---- the range of the first k bins
pub record BetweenTo (bins : List ℕ) (least greatest k : ℕ) : Type 0 where
  pub count : k ≤ length bins
  pub least-is : (i : ℕ) → i < k → least ≤ get_or bins i 0
  pub greatest-is : (i : ℕ) → i < k → get_or bins i 0 ≤ greatest
