-- A line of noise: its products with itself, some places on, and shifted. Assumes nothing.
use mathlib.Core.Path.{◌≡◌, sym, ap, ◌∙◌}
use mathlib.Core.List.{List}
use Prim.Native.Nat.{ℕ, ◌+◌, ◌-◌, ◌*◌, ◌/◌, ◌^◌, ◌≤◌, ◌<◌}
use native.Mathlib.Nat.{le_trans, le_of_eq, lt_of_le_of_lt, lt_of_lt_of_le, add_comm, mul-le-mul_left}
use native.Mathlib.Omega.{arith}
use lib.Dec.{lit≤, lit<}
use lib.IntN.{ℤ, pos, negsuc, nat_abs, ◌*ℤ◌}
use lib.ListN.{length, take, drop, length-take, length-drop}
use lib.Seq.{get_or-take, get_or-drop, length-take-le}
use lib.Signed.{mag_shr}
use Rattle.laws.specs.Limits.{side_limit, sample_limit}
use Rattle.laws.specs.Table.{tabulate}
use Rattle.laws.specs.Sums.{sum_to}
use Rattle.laws.proofs.Sums.{sum-ext, sum_bound}
use Rattle.laws.proofs.Whole.{abs-mul-le}
use Rattle.noise.specs.Noise.{noise}
use Rattle.noise.specs.Shift.{shifted}
use Rattle.noise.specs.Lines.{at, product, noise_limit, Places, Lines, NoiseLine}
use Rattle.noise.specs.Seen.{squared}
use Rattle.noise.proofs.Lines.{noise-le}
use Rattle.noise.proofs.LineSums.{entry, size, are-lines, sum_is, sum-le}

-- two of one length, by blocks of 32
pub lines : {p q : List ℤ} → NoiseLine p → NoiseLine q → length p ≡ length q → Lines 32 p q
lines {p} {q} P Q e =
    record {
      same = e;
      few = le_trans P.few (lit≤ tt);
      small = λ i l. lt_of_le_of_lt (mul-le-mul_left 32 (abs-mul-le (at p i) (at q i) noise_limit noise_limit (P.small i l) (Q.small i (lt_of_lt_of_le l (le_of_eq e))))) (lit< tt);
    }

-- ---- with itself `lag` places on
module _ {line : List ℤ} (L : NoiseLine line) {lag : ℕ} (l : lag ≤ length line) where
  abbrev count : ℕ
  count = length line - lag

  abbrev front : List ℤ
  front = take count line

  abbrev back : List ℤ
  back = take count (drop lag line)

  front_at : (i : ℕ) → i < count → at front i ≡ at line i
  front_at i h = get_or-take count line i (pos 0) h

  back_at : (i : ℕ) → i < count → at back i ≡ at line (i + lag)
  back_at i h = get_or-take count (drop lag line) i (pos 0) h ∙ rw get_or-drop (ap (at line) (add_comm lag i))

  pub front_length : length front ≡ count
  front_length = length-take-le count line (omega arith)

  back-length : length back ≡ count
  back-length = simp (length-take, length-drop) (omega arith)

  in-front : (i : ℕ) → i < length front → i < count
  in-front i h = lt_of_lt_of_le h (le_of_eq front_length)

  in-back : (i : ℕ) → i < length back → i < count
  in-back i h = lt_of_lt_of_le h (le_of_eq back-length)

  few : count ≤ side_limit
  few = omega (arith, L.few)

  inside : (i : ℕ) → i < count → i < length line
  inside i h = omega arith

  beyond : (i : ℕ) → i < count → i + lag < length line
  beyond i h = omega arith

  pub lagged-lines : Lines 32 front back
  lagged-lines =
      lines
      (record {
        few = le_trans (le_of_eq front_length) few;
        small = λ i h. le_trans (le_of_eq (ap nat_abs (front_at i (in-front i h)))) (L.small i (inside i (in-front i h)));
      })
      (record {
        few = le_trans (le_of_eq back-length) few;
        small = λ i h. le_trans (le_of_eq (ap nat_abs (back_at i (in-back i h)))) (L.small (i + lag) (beyond i (in-back i h)));
      })
      (front_length ∙ sym back-length)

  pub lagged-sum : sum_to (product front back) (length front) ≡ sum_to (λ i. at line i *ℤ at line (i + lag)) count
  lagged-sum =
      ap (sum_to (product front back)) front_length
      ∙ sum-ext (product front back) (λ i. at line i *ℤ at line (i + lag)) count (λ i h j. front_at i h j *ℤ back_at i h j)

-- ---- shifted
pub shifted-le : (shift : ℕ) (z : ℤ) → nat_abs z ≤ noise_limit → nat_abs (shifted shift z) ≤ sample_limit
shifted-le shift (pos n) h = le_trans (mag_shr (pos n) (2 ^ shift)) (le_trans h (lit≤ tt))
shifted-le shift (negsuc n) h = let d : n / 2 ^ shift ≤ n = mag_shr (negsuc n) (2 ^ shift) in omega arith

module _ {line : List ℤ} (L : NoiseLine line) (shift : ℕ) {n : ℕ} (same : n ≡ length line) {out : List ℤ} (e : out ≡ tabulate n (λ i. shifted shift (at line i))) where
  abbrev moved : ℕ → ℤ
  moved i = shifted shift (at line i)

  moved-le : (i : ℕ) → i < n → nat_abs (moved i) ≤ sample_limit
  moved-le i l = shifted-le shift (at line i) (L.small i (lt_of_lt_of_le l (le_of_eq same)))

  pub shifted-lines : Lines 32 out out
  shifted-lines = are-lines n moved moved sample_limit sample_limit moved-le moved-le e e 32 (lit< tt) (le_trans (le_of_eq same) (le_trans L.few (lit≤ tt)))

  pub shifted_sum : sum_to (product out out) (length out) ≡ sum_to (λ i. squared shift (at line i)) (length line)
  shifted_sum = sum_is n moved moved sample_limit sample_limit moved-le moved-le e e ∙ ap (sum_to (λ i. squared shift (at line i))) same

-- ---- the noise of n places
module _ {source denoised : List ℕ} {start stride n : ℕ} (P : Places sample_limit source denoised start stride n) where
  abbrev here : ℕ → ℤ
  here i = noise source denoised (start + i * stride)

  pub squares-le : (shift : ℕ) → nat_abs (sum_to (λ i. squared shift (here i)) n) ≤ n * (sample_limit * sample_limit)
  squares-le shift =
      sum-le n (λ i. shifted shift (here i)) (λ i. shifted shift (here i)) sample_limit sample_limit (λ i l. shifted-le shift (here i) (noise-le P i l)) (λ i l. shifted-le shift (here i) (noise-le P i l))

  pub lagged-le : (lag : ℕ) → nat_abs (sum_to (λ i. here i *ℤ here (i + lag)) (n - lag)) ≤ (n - lag) * (noise_limit * noise_limit)
  lagged-le lag =
      sum_bound (λ i. here i *ℤ here (i + lag)) (noise_limit * noise_limit) (n - lag)
      (λ i l. abs-mul-le (here i) (here (i + lag)) noise_limit noise_limit (noise-le P i (omega arith)) (noise-le P (i + lag) (omega arith)))

  module _ {line : List ℤ} (e : line ≡ tabulate n here) where
    pub is-noise : n ≤ side_limit → NoiseLine line
    is-noise few =
        record {
          few = le_trans (le_of_eq (size n here e)) few;
          small = λ i l. let h : i < n = lt_of_lt_of_le l (le_of_eq (size n here e)) in le_trans (le_of_eq (ap nat_abs (entry n here e i h))) (noise-le P i h);
        }

    pub squares-are : (shift : ℕ) → sum_to (λ i. squared shift (at line i)) (length line) ≡ sum_to (λ i. squared shift (here i)) n
    squares-are shift =
        ap (sum_to (λ i. squared shift (at line i))) (size n here e)
        ∙ sum-ext (λ i. squared shift (at line i)) (λ i. squared shift (here i)) n (λ i l. ap (squared shift) (entry n here e i l))

    pub lagged-are : (lag : ℕ) → sum_to (λ i. at line i *ℤ at line (i + lag)) (length line - lag) ≡ sum_to (λ i. here i *ℤ here (i + lag)) (n - lag)
    lagged-are lag =
        ap (λ (m : ℕ). sum_to (λ i. at line i *ℤ at line (i + lag)) (m - lag)) (size n here e)
        ∙ sum-ext (λ i. at line i *ℤ at line (i + lag)) (λ i. here i *ℤ here (i + lag)) (n - lag) (λ i l j. entry n here e i (omega arith) j *ℤ entry n here e (i + lag) (omega arith) j)
