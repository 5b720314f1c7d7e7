-- Two lines given by their entries, which are at most a and b in size: they are lines for any block of products that an i32 holds, the sum of their products is that of the entries, and so large at most. Assumes nothing.
use mathlib.Core.Path.{◌≡◌, sym, ap, ◌∙◌}
use mathlib.Core.List.{List}
use Prim.Native.Nat.{ℕ, ◌+◌, ◌*◌, ◌^◌, ◌≤◌, ◌<◌, zero-le, suc-le-suc}
use native.Mathlib.Nat.{le_trans, le_of_eq, lt_of_le_of_lt, lt_of_lt_of_le, one-mul, mul-le-mul_left, mul-le-mul_right}
use native.Mathlib.Numerals.{add-one-le}
use lib.IntN.{ℤ, pos, nat_abs, ◌+ℤ◌, ◌*ℤ◌}
use lib.ListN.{length}
use mir.Syntax.{w64}
use mir.Val.{of_z, to_z}
use Rattle.laws.specs.Table.{tabulate}
use Rattle.laws.specs.Sums.{sum_to}
use Rattle.laws.proofs.Table.{length-tabulate, get_d_tabulate}
use Rattle.laws.proofs.Whole.{abs-mul-le}
use Rattle.laws.proofs.Sums.{sum-ext, sum_bound, sum_more}
use Rattle.laws.proofs.Is.{Is, again, known}
use Rattle.noise.specs.Lines.{at, product, Lines}

-- an entry of a line
pub entry : {p : List ℤ} (n : ℕ) (f : ℕ → ℤ) → p ≡ tabulate n f → (i : ℕ) → i < n → at p i ≡ f i
entry n f e i l = ap (λ (p : List ℤ). at p i) e ∙ get_d_tabulate n f i (pos 0) l

pub size : {p : List ℤ} (n : ℕ) (f : ℕ → ℤ) → p ≡ tabulate n f → length p ≡ n
size n f e = ap length e ∙ length-tabulate n f

module _ (n : ℕ) (f g : ℕ → ℤ) (a b : ℕ) (hf : (i : ℕ) → i < n → nat_abs (f i) ≤ a) (hg : (i : ℕ) → i < n → nat_abs (g i) ≤ b) where
  products-le : (i : ℕ) → i < n → nat_abs (f i *ℤ g i) ≤ a * b
  products-le i l = abs-mul-le (f i) (g i) a b (hf i l) (hg i l)

  pub sum-le : nat_abs (sum_to (λ i. f i *ℤ g i) n) ≤ n * (a * b)
  sum-le = sum_bound (λ i. f i *ℤ g i) (a * b) n products-le

  module _ {p q : List ℤ} (e : p ≡ tabulate n f) (d : q ≡ tabulate n g) where
    products : (i : ℕ) → i < n → product p q i ≡ f i *ℤ g i
    products i l = λ j. entry n f e i l j *ℤ entry n g d i l j

    pub sum_is : sum_to (product p q) (length p) ≡ sum_to (λ i. f i *ℤ g i) n
    sum_is = ap (λ (m : ℕ). sum_to (product p q) m) (size n f e) ∙ sum-ext (product p q) (λ i. f i *ℤ g i) n products

    pub are-lines : (count : ℕ) → count * (a * b) < 2 ^ 31 → n ≤ 2 ^ 32 → Lines count p q
    are-lines count h few =
        record {
          same = size n f e ∙ sym (size n g d);
          few = le_trans (le_of_eq (size n f e)) few;
          small = λ i l. let k : i < n = lt_of_lt_of_le l (le_of_eq (size n f e)) in
              lt_of_le_of_lt (mul-le-mul_left count (le_trans (le_of_eq (ap nat_abs (products i k))) (products-le i k))) h;
        }

-- an i64 to which the sums of rows are added, each at most `most` in size: s holds the sum so far, and row r gave t
module _ (g : ℕ → ℤ) (most rows : ℕ) (h : rows * most < 2 ^ 63) (small : (r : ℕ) → r < rows → nat_abs (g r) ≤ most) where
  rows-lt : (n : ℕ) → n ≤ rows → nat_abs (sum_to g n) < 2 ^ 63
  rows-lt n l = lt_of_le_of_lt (sum_bound g most n (λ i m. small i (lt_of_lt_of_le m l))) (lt_of_le_of_lt (mul-le-mul_right most l) h)

  row_lt : (r : ℕ) → r < rows → nat_abs (g r) < 2 ^ 63
  row_lt r l = lt_of_le_of_lt (small r l) (lt_of_le_of_lt (le_trans (le_of_eq (sym (one-mul most))) (mul-le-mul_right most (le_trans (suc-le-suc zero-le) l))) h)

  pub rows-turn : (r : ℕ) {s : ℤ} (t : ℤ) → r < rows → s ≡ sum_to g r → t ≡ g r → Is w64 (s +ℤ to_z w64 (of_z w64 t)) (sum_to g (r + 1))
  rows-turn r t l e d = known ((λ j. e j +ℤ (again {w = w64} (known d (row_lt r l))).eq j) ∙ sum_more g r) (rows-lt (r + 1) (add-one-le l))
