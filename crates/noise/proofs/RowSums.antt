-- Sums over the rows of a view, as they grow: at no row, with a row more, and at most an i64. By the sizes of a row's sums. Assumes nothing.
use mathlib.Core.Path.{◌≡◌, refl, ap, ◌∙◌}
use mathlib.Core.List.{List}
use Prim.Native.Nat.{ℕ, ◌+◌, ◌-◌, ◌*◌, ◌^◌, ◌≤◌, ◌<◌}
use native.Mathlib.Nat.{le_trans, le_of_eq, lt_of_le_of_lt, lt_of_lt_of_le, mul-le-mul}
use native.Mathlib.Omega.{arith}
use lib.Dec.{lit≤, lit<}
use lib.IntN.{ℤ, pos, nat_abs, ◌+ℤ◌}
use mir.Syntax.{w64}
use mir.Val.{SFits, of_z, to_z}
use Rattle.laws.specs.Limits.{side_limit}
use Rattle.laws.specs.Sums.{total, sum_to}
use Rattle.laws.proofs.Sums.{sum_bound, sum_more}
use Rattle.laws.proofs.Is.{Is, self, again, plus}
use Rattle.frame.specs.declared.view.View.{View}
use Rattle.noise.specs.PlanePair.{SameSize}
use Rattle.noise.specs.Seen.{noise_at, Seen, RowSums, SumsOf, RowCross, CrossOf}
use Rattle.noise.specs.Rows.{plane_plus, PlaneHeld, pair_plus, PairHeld}
use Rattle.noise.specs.declared.sums.PlaneSums.{PlaneSums}
use Rattle.noise.specs.declared.rows.PairSums.{PairSums}
use Rattle.noise.proofs.NoiseSums.{noise-sum-le}
use Rattle.noise.proofs.SameSize.{same-rows}
use Rattle.noise.proofs.NoiseLines.{squares-le, lagged-le}

-- the machine's sum of two i64 fields
pub sum_is : (x y : ℤ) → SFits w64 x → SFits w64 y → nat_abs (x +ℤ y) < 2 ^ 63 → Is w64 (to_z w64 (of_z w64 x) +ℤ to_z w64 (of_z w64 y)) (x +ℤ y)
sum_is x y h k l = plus (again (self h)) (again (self k)) l

-- one sum: at no row, and with a row more
with_row : (g : ℕ → ℤ) (r : ℕ) {s t : ℤ} → s ≡ sum_to g r → t ≡ g r → s +ℤ t ≡ sum_to g (r + 1)
with_row g r e d = (λ i. e i +ℤ d i) ∙ sum_more g r

-- r rows of at most n products, each at most m in size
sum-held : (g : ℕ → ℤ) {n m r : ℕ} {s : ℤ} → m ≤ 2 ^ 24 → n ≤ side_limit → r ≤ side_limit → ((i : ℕ) → i < r → nat_abs (g i) ≤ n * m) → s ≡ sum_to g r → nat_abs s < 2 ^ 63
sum-held g {n} {m} {r} a b c small e =
    lt_of_le_of_lt (le_trans (le_of_eq (ap nat_abs e)) (le_trans (sum_bound g (n * m) r small) (mul-le-mul c (mul-le-mul b a)))) (lit< tt)

-- ---- of one plane
module _ {n : ℕ → ℕ → ℤ} {columns lag shift : ℕ} where
  pub sums_none : SumsOf n 0 columns lag shift (record { squares = pos 0; energy = pos 0; lagged = pos 0 })
  unfolding total
  sums_none = record { squares = refl; energy = refl; lagged = refl }

  pub sums-more : {r : ℕ} {s t : PlaneSums} → SumsOf n r columns lag shift s → RowSums (n r) columns lag shift t → SumsOf n (r + 1) columns lag shift (plane_plus s t)
  sums-more {r} S T = record {
    squares = with_row _ r S.squares T.squares;
    energy = with_row _ r S.energy T.energy;
    lagged = with_row _ r S.lagged T.lagged;
  }

module _ {v : View} {source denoised : List ℕ} (S : Seen v source denoised) where
  pub sums-held : {lag shift r : ℕ} {s : PlaneSums} → r ≤ v.height → SumsOf (noise_at source denoised v) r v.width lag shift s → PlaneHeld s
  sums-held {lag} {shift} l T = record {
    squares = sum-held _ (lit≤ tt) S.narrow (le_trans l S.low) (λ i k. squares-le (S.rows i (lt_of_lt_of_le k l)) shift) T.squares;
    energy = sum-held _ (lit≤ tt) S.narrow (le_trans l S.low) (λ i k. let P = S.rows i (lt_of_lt_of_le k l) in noise-sum-le P P) T.energy;
    lagged = sum-held _ (lit≤ tt) (fewer v.width lag S.narrow) (le_trans l S.low) (λ i k. lagged-le (S.rows i (lt_of_lt_of_le k l)) lag) T.lagged;
  }
    where
      fewer : (n lag : ℕ) → n ≤ side_limit → n - lag ≤ side_limit
      fewer n lag h = omega arith

-- ---- of two
module _ {n m : ℕ → ℕ → ℤ} {columns : ℕ} where
  pub cross-none : CrossOf n m 0 columns (record { second = pos 0; cross = pos 0 })
  unfolding total
  cross-none = record { second = refl; cross = refl }

  pub cross-more : {r : ℕ} {s t : PairSums} → CrossOf n m r columns s → RowCross (n r) (m r) columns t → CrossOf n m (r + 1) columns (pair_plus s t)
  cross-more {r} S T = record { second = with_row _ r S.second T.second; cross = with_row _ r S.cross T.cross }

module _ {v w : View} {source₀ denoised₀ source₁ denoised₁ : List ℕ} (S : Seen v source₀ denoised₀) (T : Seen w source₁ denoised₁) (same : SameSize v w) where
  pub cross-held : {r : ℕ} {s : PairSums} → r ≤ v.height → CrossOf (noise_at source₀ denoised₀ v) (noise_at source₁ denoised₁ w) r v.width s → PairHeld s
  cross-held l C = record {
    second = sum-held _ (lit≤ tt) S.narrow (le_trans l S.low) (λ i k. let Q = same-rows T same i (lt_of_lt_of_le k l) in noise-sum-le Q Q) C.second;
    cross = sum-held _ (lit≤ tt) S.narrow (le_trans l S.low) (λ i k. noise-sum-le (S.rows i (lt_of_lt_of_le k l)) (same-rows T same i (lt_of_lt_of_le k l))) C.cross;
  }
