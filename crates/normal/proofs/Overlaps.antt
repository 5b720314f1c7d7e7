-- Sums of products by where two lines start: one place on, with the lines exchanged, their size, and as the dot product of two parts. Assumes nothing.
use mathlib.Core.Path.{◌≡◌, sym, ap, ◌∙◌, subst}
use mathlib.Core.List.{List}
use Prim.Native.Nat.{ℕ, ◌+◌, ◌*◌, ◌^◌, ◌≤◌, ◌<◌}
use native.Mathlib.Nat.{le_trans, lt_of_le_of_lt, mul-le-mul_left, mul-le-mul_right, add_assoc, add-zero, add-le-add}
use native.Mathlib.Omega.{arith}
use lib.Dec.{lit<, lit≤}
use lib.IntN.{ℤ, nat_abs, ◌+ℤ◌, ◌-ℤ◌, ◌*ℤ◌, *ℤ_comm}
use lib.ListN.{length}
use mir.Syntax.{Width, w64}
use mir.Val.{SFits, of_z, to_z}
use Rattle.laws.specs.Limits.{side_limit}
use Rattle.laws.specs.Sums.{sum_to}
use Rattle.laws.proofs.Sums.{sum-ext, sum_bound, slide}
use Rattle.laws.proofs.Whole.{abs-sub, abs-mul-le}
use Rattle.laws.proofs.Is.{Is, self, again, known}
use Rattle.noise.specs.Lines.{at, product, noise_limit, Lines}
use Rattle.normal.specs.Starts.{start_sum, average_limit, Overlap, Noisy}
use Rattle.normal.proofs.Stored.{part, part_length, part_at}

module _ (f g : ℕ → ℤ) (n a b : ℕ) where
  abbrev term : ℕ → ℤ
  term x = f (a + x) *ℤ g (b + x)

  -- less the first product, and one more
  pub start-slid : start_sum f g n a b -ℤ f a *ℤ g b +ℤ f (a + n) *ℤ g (b + n) ≡ start_sum f g n (a + 1) (b + 1)
  unfolding start_sum
  start-slid =
      ap (λ (z : ℤ). sum_to term n -ℤ z +ℤ term n) (λ i. f (sym (add-zero a) i) *ℤ g (sym (add-zero b) i))
      ∙ slide term n
      ∙ sum-ext (λ x. term (1 + x)) (λ x. f (a + 1 + x) *ℤ g (b + 1 + x)) n (λ x l i. f (sym (add_assoc a 1 x) i) *ℤ g (sym (add_assoc b 1 x) i))

  pub start-swap : start_sum f g n a b ≡ start_sum g f n b a
  unfolding start_sum
  start-swap = sum-ext term (λ x. g (b + x) *ℤ f (a + x)) n (λ x l. *ℤ_comm (f (a + x)) (g (b + x)))

  -- equal terms
  pub start-ext : (f' g' : ℕ → ℤ) → ((x : ℕ) → x < n → f (a + x) ≡ f' (a + x)) → ((x : ℕ) → x < n → g (b + x) ≡ g' (b + x)) → start_sum f g n a b ≡ start_sum f' g' n a b
  unfolding start_sum
  start-ext f' g' p q = sum-ext term (λ x. f' (a + x) *ℤ g' (b + x)) n (λ x l i. p x l i *ℤ q x l i)

  pub start-bound : (c d : ℕ) → ((x : ℕ) → x < n → nat_abs (f (a + x)) ≤ c) → ((x : ℕ) → x < n → nat_abs (g (b + x)) ≤ d) → nat_abs (start_sum f g n a b) ≤ n * (c * d)
  unfolding start_sum
  start-bound c d p q = sum_bound term (c * d) n (λ x l. abs-mul-le (f (a + x)) (g (b + x)) c d (p x l) (q x l))

-- ---- the parts that overlap
module _ {c d : ℕ} {up lo : List ℤ} {n a b : ℕ} (O : Overlap c d up lo n a b) where
  up_le : (x : ℕ) → x < n → nat_abs (at up (a + x)) ≤ c
  up_le x h = O.up_small (a + x) (omega (arith, O.up-long))

  lo-le : (x : ℕ) → x < n → nat_abs (at lo (b + x)) ≤ d
  lo-le x h = O.lo_small (b + x) (omega (arith, O.lo-long))

  up-size : length (part up a n) ≡ n
  up-size = part_length up a n O.up-long

  products : (x : ℕ) → x < n → product (part up a n) (part lo b n) x ≡ at up (a + x) *ℤ at lo (b + x)
  products x h i = part_at up a n x h i *ℤ part_at lo b n x h i

  -- an i32 holds the sum of `count` products
  pub overlap-lines : (count : ℕ) → count * (c * d) < 2 ^ 31 → Lines count (part up a n) (part lo b n)
  overlap-lines count fits =
      record {
        same = up-size ∙ sym (part_length lo b n O.lo-long);
        few = rw up-size (le_trans O.few (lit≤ tt));
        small = λ x h. let l : x < n = rw up-size at h in
            subst (λ (z : ℤ). count * nat_abs z < 2 ^ 31) (sym (products x l))
            (lt_of_le_of_lt (mul-le-mul_left count (abs-mul-le (at up (a + x)) (at lo (b + x)) c d (up_le x l) (lo-le x l))) fits);
      }

  pub overlap-sum : sum_to (product (part up a n) (part lo b n)) (length (part up a n)) ≡ start_sum (at up) (at lo) n a b
  unfolding start_sum
  overlap-sum =
      ap (λ (m : ℕ). sum_to (product (part up a n) (part lo b n)) m) up-size
      ∙ sum-ext (product (part up a n) (part lo b n)) (λ x. at up (a + x) *ℤ at lo (b + x)) n products

  overlap-bound : nat_abs (start_sum (at up) (at lo) n a b) ≤ side_limit * (c * d)
  overlap-bound = le_trans (start-bound (at up) (at lo) n a b c d up_le lo-le) (mul-le-mul_right (c * d) O.few)

-- a number that fits, out of a local
pub kept : {w : Width} {z y : ℤ} → SFits w z → z ≡ y → to_z w (of_z w z) ≡ y
kept h e = (again (self h)).eq ∙ e

-- one place on: m, x and y hold the sum before, its first product and the next one
module _ {up lo : List ℤ} {n : ℕ} (a b : ℕ) (O : Noisy up lo n (a + 1) (b + 1)) {m x y : ℤ}
    (em : m ≡ start_sum (at up) (at lo) n a b) (ex : x ≡ at up a *ℤ at lo b) (ey : y ≡ at up (a + n) *ℤ at lo (b + n)) where
  earlier : Noisy up lo n a b
  earlier = record { up-long = omega (arith, O.up-long); lo-long = omega (arith, O.lo-long); few = O.few; up_small = O.up_small; lo_small = O.lo_small }

  first-le : nat_abs (at up a *ℤ at lo b) ≤ noise_limit * average_limit
  first-le =
      abs-mul-le (at up a) (at lo b) noise_limit average_limit (O.up_small a (omega (arith, O.up-long))) (O.lo_small b (omega (arith, O.lo-long)))

  pub less-is : Is w64 (m -ℤ x) (start_sum (at up) (at lo) n a b -ℤ at up a *ℤ at lo b)
  less-is =
      known (λ i. em i -ℤ ex i)
      (lt_of_le_of_lt (abs-sub (start_sum (at up) (at lo) n a b) (at up a *ℤ at lo b))
      (lt_of_le_of_lt (add-le-add (overlap-bound earlier) first-le) (lit< tt)))

  pub slid-is : Is w64 (to_z w64 (of_z w64 (m -ℤ x)) +ℤ y) (start_sum (at up) (at lo) n (a + 1) (b + 1))
  slid-is =
      known ((λ i. (again less-is).eq i +ℤ ey i) ∙ start-slid (at up) (at lo) n a b) (lt_of_le_of_lt (overlap-bound O) (lit< tt))
