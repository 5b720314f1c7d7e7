-- The luma average at a chroma place: its four, two or one noises, as the definition adds them, are the sums of two lines of luma noise; and four times it is at most four times a noise in size. By the two cases of each direction. Assumes nothing.
use mathlib.Core.Path.{◌≡◌, sym, ap, ◌∙◌}
use mathlib.Core.List.{List}
use Prim.Native.Nat.{ℕ, ◌+◌, ◌-◌, ◌*◌, ◌^◌, ◌≤◌, ◌<◌, min}
use native.Mathlib.Nat.{le_refl, le_trans, le_of_eq, lt_of_le_of_lt, lt_of_lt_of_le, add-zero, min-eq_left}
use native.Mathlib.Omega.{arith}
use lib.Dec.{lit≤}
use lib.IntN.{ℤ, pos, nat_abs, one, ◌+ℤ◌, ◌*ℤ◌, +ℤ_idl, *ℤ-one}
use lib.ListN.{length}
use Rattle.laws.specs.Table.{tabulate}
use Rattle.laws.specs.Sums.{total, sum_to}
use Rattle.laws.proofs.Table.{tabulate-same}
use Rattle.laws.proofs.Whole.{abs-mul-le, mul-sum}
use Rattle.laws.proofs.Sums.{sum-add, sum_bound}
use Rattle.frame.specs.Size.{sampled}
use Rattle.frame.specs.declared.view.View.{View}
use Rattle.frame.specs.declared.view.Sampling.{Sampling}
use Rattle.noise.specs.Noise.{noise, noise_of}
use Rattle.noise.specs.Average.{Luma, luma_place, quarters}
use Rattle.noise.specs.Lines.{at, AtMost, noise_limit, Plane}
use Rattle.noise.specs.Seen.{seen, noise_at, Seen}
use Rattle.noise.specs.Quarters.{column_sum, quartered, AverageRow}
use Rattle.noise.proofs.Seen.{plane-noise-le, seen-plane, noise-seen}
use Rattle.noise.proofs.LineSums.{entry, size}
use Rattle.noise.proofs.Quarters.{abs-add-le}
use Rattle.noise.proofs.Halving.{Bit, kept, halved, bit, first, held_in, some}

-- ---- one or two rows of one or two noises
doubled : (z : ℤ) → z +ℤ z ≡ z *ℤ pos 2
unfolding one
doubled z = (λ i. sym (*ℤ-one z) i +ℤ sym (*ℤ-one z) i) ∙ sym (mul-sum z (pos 1) (pos 1))

-- the first and the last of one or two
ends : (f : ℕ → ℤ) (a : ℕ) → Bit a → f 0 +ℤ f a ≡ sum_to f (a + 1) *ℤ pos (2 ^ (1 - a))
unfolding total one
ends f a kept = doubled (f 0) ∙ ap (λ (z : ℤ). z *ℤ pos 2) (sym (+ℤ_idl (f 0)))
ends f a halved = ap (λ (z : ℤ). z +ℤ f 1) (sym (+ℤ_idl (f 0))) ∙ sym (*ℤ-one _)

-- once or twice, and again once or twice
twofold : (z : ℤ) (a b : ℕ) → Bit a → Bit b → z *ℤ pos (2 ^ (1 - b)) *ℤ pos (2 ^ (1 - a)) ≡ z *ℤ pos (2 ^ (2 - (a + b)))
unfolding one
twofold z a b halved halved = *ℤ-one (z *ℤ pos 1)
twofold z a b halved kept = *ℤ-one (z *ℤ pos 2)
twofold z a b kept halved = ap (λ (y : ℤ). y *ℤ pos 2) (*ℤ-one z)
twofold z a b kept kept = sym (doubled (z *ℤ pos 2)) ∙ sym (mul-sum z (pos 2) (pos 2))

module _ (N : ℕ → ℕ → ℤ) (a b : ℕ) (x : Bit a) (y : Bit b) where
  abbrev row : ℕ → ℤ
  row i = sum_to (λ j. N i j) (a + 1)

  pairs-are : N 0 0 +ℤ N b 0 +ℤ (N 0 a +ℤ N b a) ≡ sum_to row (b + 1) *ℤ pos (2 ^ (2 - (a + b)))
  pairs-are =
      ends (λ j. N 0 j +ℤ N b j) a x
      ∙ ap (λ (z : ℤ). z *ℤ pos (2 ^ (1 - a))) (sum-add (N 0) (N b) (a + 1) ∙ ends row b y)
      ∙ twofold (sum_to row (b + 1)) a b x y

  module _ (small : (i j : ℕ) → nat_abs (N i j) ≤ noise_limit) where
    total-le : nat_abs (sum_to row (b + 1) *ℤ pos (2 ^ (2 - (a + b)))) ≤ (b + 1) * ((a + 1) * noise_limit) * 2 ^ (2 - (a + b))
    total-le =
        abs-mul-le (sum_to row (b + 1)) (pos (2 ^ (2 - (a + b)))) _ _
        (sum_bound row ((a + 1) * noise_limit) (b + 1) (λ i l. sum_bound (N i) noise_limit (a + 1) (λ j m. small i j)))
        (le_refl (2 ^ (2 - (a + b))))

    four-le : nat_abs (sum_to row (b + 1) *ℤ pos (2 ^ (2 - (a + b)))) ≤ 4 * noise_limit
    four-le = le_trans total-le (four a b x y)
      where
        four : (a b : ℕ) → Bit a → Bit b → (b + 1) * ((a + 1) * noise_limit) * 2 ^ (2 - (a + b)) ≤ 4 * noise_limit
        four a b halved halved = lit≤ tt
        four a b halved kept = lit≤ tt
        four a b kept halved = lit≤ tt
        four a b kept kept = lit≤ tt

-- ---- of a frame
-- the luma rows of chroma row r, and the sums of their noise
pub record RowsOf (l : Luma) (r : ℕ) (sums : List ℤ) : Type 0 where
  pub upper : ℕ
  pub lower : ℕ
  pub upper_is : upper ≡ min (r * 2 ^ l.sampling.down + 0) (l.plane.height - 1)
  pub lower-is : lower ≡ min (r * 2 ^ l.sampling.down + l.sampling.down) (l.plane.height - 1)
  pub sums-are : sums ≡ tabulate l.plane.width (λ x. noise_of l.plane upper x +ℤ noise_of l.plane lower x)

-- such rows, and formats
pub record Rows (l : Luma) (r : ℕ) : Type 0 where
  pub plane : Plane l.plane.width l.plane.height l.plane.source l.plane.denoised
  pub across : Bit l.sampling.across
  pub down : Bit l.sampling.down
  pub row : r * 2 ^ l.sampling.down < l.plane.height

module _ (l : Luma) (r : ℕ) (R : Rows l r) where
  in-height : (m : ℕ) → min m (l.plane.height - 1) < l.plane.height
  in-height m = held_in l.plane.height m (omega (arith, R.row))

  in-width : (c m : ℕ) → c < sampled l.sampling.across l.plane.width → min m (l.plane.width - 1) < l.plane.width
  in-width c m k = held_in l.plane.width m (some l.sampling.across l.plane.width c R.across k)

  pub quarters-le : (c : ℕ) → c < sampled l.sampling.across l.plane.width → nat_abs (quarters l r c) ≤ 4 * noise_limit
  unfolding quarters
  quarters-le c k =
      four-le (λ i j. noise l.plane.source l.plane.denoised (luma_place l r c i j)) _ _ R.across R.down
      (λ i j. plane-noise-le R.plane _ _ (in-height _) (in-width c _ k))

  module _ {sums : List ℤ} (T : RowsOf l r sums) where
    wide : length sums ≡ l.plane.width
    wide = size l.plane.width _ T.sums-are

    cell : (c j : ℕ) → c < sampled l.sampling.across l.plane.width
        → column_sum l.sampling.across sums c j ≡ noise l.plane.source l.plane.denoised (luma_place l r c 0 j) +ℤ noise l.plane.source l.plane.denoised (luma_place l r c l.sampling.down j)
    cell c j k =
        let x = min (c * 2 ^ l.sampling.across + j) (l.plane.width - 1) in
        ap (λ (n : ℕ). at sums (min (c * 2 ^ l.sampling.across + j) (n - 1))) wide
        ∙ entry l.plane.width _ T.sums-are x (in-width c _ k)
        ∙ (λ i. noise_of l.plane (T.upper_is i) x +ℤ noise_of l.plane (T.lower-is i) x)

    quarters-are : (c : ℕ) → c < sampled l.sampling.across l.plane.width → quartered l.sampling.across sums c ≡ quarters l r c
    unfolding quartered quarters
    quarters-are c k =
        (λ i. cell c 0 k i +ℤ cell c l.sampling.across k i)
        ∙ pairs-are (λ i j. noise l.plane.source l.plane.denoised (luma_place l r c i j)) _ _ R.across R.down

    pub sums-small : AtMost (2 * noise_limit) sums
    sums-small i k =
        let o = lt_of_lt_of_le k (le_of_eq wide) in
        le_trans (le_of_eq (ap nat_abs (entry l.plane.width _ T.sums-are i o)))
        (abs-add-le (noise_of l.plane T.upper i) (noise_of l.plane T.lower i)
        (plane-noise-le R.plane T.upper i (lt_of_le_of_lt (le_of_eq T.upper_is) (in-height _)) o)
        (plane-noise-le R.plane T.lower i (lt_of_le_of_lt (le_of_eq T.lower-is) (in-height _)) o))

    -- n columns, as they are worked out
    module _ {n : ℕ} (count : n ≡ sampled l.sampling.across l.plane.width) where
      pub line-is : tabulate n (quartered l.sampling.across sums) ≡ tabulate (sampled l.sampling.across l.plane.width) (quarters l r)
      line-is = (λ k. tabulate (count k) (quartered l.sampling.across sums)) ∙ tabulate-same _ _ _ quarters-are

-- ---- of a view, as `average_line` reads it
module _ {v : View} {s : Sampling} {r sums line : ℕ} {source denoised : List ℕ} (S : Seen v source denoised) (A : AverageRow v s r sums line) where
  pub rows : Rows (record { plane = seen v source denoised; sampling = s }) r
  rows = record { plane = seen-plane S; across = bit s.across A.across; down = bit s.down A.down; row = A.row }

  -- the upper luma row, and the lower
  upper_first : r * (s.down + 1) ≡ r * 2 ^ s.down
  upper_first = first s.down r (bit s.down A.down)

  pub upper_in : r * (s.down + 1) < v.height
  upper_in = lt_of_le_of_lt (le_of_eq upper_first) A.row

  pub lower_in : {lower : ℕ} → lower ≡ min (r * (s.down + 1) + s.down) (v.height - 1) → lower < v.height
  lower_in e = lt_of_le_of_lt (le_of_eq e) (held_in v.height _ (omega (arith, A.row)))

  pub rows_of : {lower : ℕ} → lower ≡ min (r * (s.down + 1) + s.down) (v.height - 1) → {added : List ℤ}
      → added ≡ tabulate sums (λ x. noise_at source denoised v (r * (s.down + 1)) x +ℤ noise_at source denoised v lower x)
      → RowsOf (record { plane = seen v source denoised; sampling = s }) r added
  rows_of {lower} e d = record {
    upper = r * (s.down + 1);
    lower = lower;
    upper_is = let k : r * 2 ^ s.down + 0 ≤ v.height - 1 = omega (arith, A.row) in upper_first ∙ sym (add-zero (r * 2 ^ s.down)) ∙ sym (min-eq_left k);
    lower-is = e ∙ ap (λ (n : ℕ). min (n + s.down) (v.height - 1)) upper_first;
    sums-are = d ∙ (λ k. tabulate (A.sums-length k) (λ x. noise_at source denoised v (r * (s.down + 1)) x +ℤ noise_at source denoised v lower x))
        ∙ tabulate-same v.width _ _ (λ x l k. noise-seen v source denoised (r * (s.down + 1)) x upper_in l k +ℤ noise-seen v source denoised lower x (lower_in e) l k);
  }
