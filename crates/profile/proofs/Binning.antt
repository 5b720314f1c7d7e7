-- Bins: what is summed by bins adds up to the sum of all, whatever is summed; a bin with no sample adds nothing, and one with all of them is the whole sum. Assumes nothing.
use mathlib.Core.Path.{◌≡◌, refl, ◌∙◌}
use mathlib.Core.Bool.{Bool, true, false, cond}
use Prim.Native.Nat.{ℕ, zero, suc, ◌*◌, ◌≤◌, ◌<◌, zero-le}
use native.Mathlib.Nat.{le_of_suc-le-suc, eq-or-lt_of_le}
use native.Mathlib.Omega.{arith}
use mathlib.Core.Logic.{⊎_elim}
use lib.Dec.{eqb}
use borrow.Author.Tests.{eq-eqb, ne_eqb}
use Rattle.laws.specs.Sums.{total, sum_n}
use Rattle.profile.specs.Bins.{in_bin}
use Rattle.laws.proofs.SumsN.{sum-ext, sum-zero, sum-swap, sum-le, sum_bound}

-- a value stands in its bin alone
in_one : (b v m : ℕ) → b < m → sum_n (λ j. cond (eqb b j) v 0) m ≡ v
unfolding total
in_one b v zero h = absurd (omega arith)
in_one b v (suc m) h =
    ⊎_elim
    (λ e. rw (eq-eqb b m e) (omega (arith, sum-zero (λ j. cond (eqb b j) v 0) m (λ j l. rw (ne_eqb b j (λ d. omega arith)) refl))))
    (λ l. rw (ne_eqb b m (λ d. omega arith)) (omega (arith, in_one b v m l)))
    (eq-or-lt_of_le (le_of_suc-le-suc h))

module _ (bin : ℕ → ℕ) (g : ℕ → ℕ) (n : ℕ) where
  pub bins-add-up : (m : ℕ) → ((i : ℕ) → i < n → bin i < m) → sum_n (λ j. sum_n (in_bin bin j g) n) m ≡ sum_n g n
  bins-add-up m h =
      sum-swap (λ j. in_bin bin j g) m n ∙ sum-ext (λ i. sum_n (λ j. in_bin bin j g i) m) g n (λ i l. in_one (bin i) (g i) m (h i l))

  -- at most c to a sample
  pub bin-le : (j c : ℕ) → ((i : ℕ) → i < n → g i ≤ c) → sum_n (in_bin bin j g) n ≤ c * sum_n (in_bin bin j (λ i. 1)) n
  bin-le j c h = sum-le c (in_bin bin j g) (in_bin bin j (λ i. 1)) n (λ i l. term (eqb (bin i) j) (g i) (h i l))
    where
      term : (t : Bool) (x : ℕ) → x ≤ c → cond t x 0 ≤ c * cond t 1 0
      term true x l = omega arith
      term false x l = zero-le

  -- no sample in bin j, and every sample
  pub none_in : (j : ℕ) → ((i : ℕ) → i < n → bin i ≡ j → ⊥) → sum_n (in_bin bin j g) n ≡ 0
  none_in j h = sum-zero (in_bin bin j g) n (λ i l. rw (ne_eqb (bin i) j (h i l)) refl)

  pub all_in : (j : ℕ) → ((i : ℕ) → i < n → bin i ≡ j) → sum_n (in_bin bin j g) n ≡ sum_n g n
  all_in j h = sum-ext (in_bin bin j g) g n (λ i l. rw (eq-eqb (bin i) j (h i l)) refl)

-- a bin has at most all samples
pub count-le : (bin : ℕ → ℕ) (n j : ℕ) → sum_n (in_bin bin j (λ i. 1)) n ≤ n
count-le bin n j = omega (arith, sum_bound 1 (in_bin bin j (λ i. 1)) n (λ i l. term (eqb (bin i) j)))
  where
    term : (t : Bool) → cond t 1 0 ≤ 1
    term true = omega arith
    term false = omega arith

-- the same bins and the same terms
pub bin-ext : (bin bin' g g' : ℕ → ℕ) (n j : ℕ) → ((i : ℕ) → i < n → bin i ≡ bin' i) → ((i : ℕ) → i < n → g i ≡ g' i)
    → sum_n (in_bin bin j g) n ≡ sum_n (in_bin bin' j g') n
bin-ext bin bin' g g' n j b e = sum-ext (in_bin bin j g) (in_bin bin' j g') n (λ i l k. cond (eqb (b i l k) j) (e i l k) 0)
