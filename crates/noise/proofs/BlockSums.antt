-- Blocks of products of two lines, for any size of block: a product and the sum of a block fit an i32, the sum of a line an i64, and blocks add up to the line. Assumes nothing.
use mathlib.Core.Path.{◌≡◌, refl, sym, ap, ◌∙◌, subst}
use mathlib.Core.List.{List}
use Prim.Native.Nat.{ℕ, ◌+◌, ◌-◌, ◌*◌, ◌/◌, ◌^◌, ◌≤◌, ◌<◌}
use native.Mathlib.Nat.{le_trans, le_of_eq, lt_of_le_of_lt, lt_of_lt_of_le, mul_comm, add-mul, mul-le-mul_right, one-mul, mul-div-le, le-div_iff_mul-le}
use native.Mathlib.Numerals.{add-one-le}
use native.Mathlib.Omega.{arith}
use lib.Dec.{lit≤, lit<}
use lib.IntN.{ℤ, pos, nat_abs, ◌+ℤ◌, ◌*ℤ◌}
use lib.ListN.{length, take, drop, length-drop}
use lib.Seq.{get_or-take, get_or-drop, length-take-le}
use mir.Syntax.{w16, w32, w64}
use mir.Val.{SFits, of_z, to_z}
use Rattle.laws.specs.Sums.{sum_to, span}
use Rattle.laws.proofs.Sums.{sum_bound, sum_more, sum-split, sum-ext}
use Rattle.laws.proofs.Is.{Is, self, again, wider, times, known}
use Rattle.noise.specs.Lines.{at, product, Lines}

-- an i16 that is z, as an i32 x; an i32, as an i64
pub wide32 : {a x : ℤ} (z : ℤ) → SFits w16 a → x ≡ to_z w16 (of_z w16 a) → a ≡ z → Is w32 (to_z w32 (of_z w32 x)) z
wide32 z f e d = again (wider w16 w32 (lit≤ tt) (record { eq = e ∙ (again (self f)).eq ∙ d; holds = subst (λ (y : ℤ). SFits w16 y) d f }))

pub wide64 : {a x : ℤ} (z : ℤ) → SFits w32 a → x ≡ to_z w32 (of_z w32 a) → a ≡ z → Is w64 (to_z w64 (of_z w64 x)) z
wide64 z f e d = again (wider w32 w64 (lit≤ tt) (record { eq = e ∙ (again (self f)).eq ∙ d; holds = subst (λ (y : ℤ). SFits w32 y) d f }))

module _ {size : ℕ} {p q : List ℤ} (L : Lines size p q) (one : 1 ≤ size) where
  -- no product is above this
  abbrev most : ℕ
  most = (2 ^ 31 - 1) / size

  product-most : (i : ℕ) → i < length p → nat_abs (product p q i) ≤ most
  product-most i l =
      let h : size * nat_abs (product p q i) ≤ 2 ^ 31 - 1 = omega (arith, L.small i l) in
      (le-div_iff_mul-le one).1 (le_trans (le_of_eq (mul_comm (nat_abs (product p q i)) size)) h)

  product_lt : (i : ℕ) → i < length p → nat_abs (product p q i) < 2 ^ 31
  product_lt i l =
      lt_of_le_of_lt (le_trans (le_of_eq (sym (one-mul (nat_abs (product p q i))))) (mul-le-mul_right (nat_abs (product p q i)) one)) (L.small i l)

  -- the sum of at most `size` products
  sum-lt : (n : ℕ) → n ≤ size → n ≤ length p → nat_abs (sum_to (product p q) n) < 2 ^ 31
  sum-lt n h k =
      lt_of_le_of_lt (sum_bound (product p q) most n (λ i l. product-most i (lt_of_lt_of_le l k)))
      (lt_of_le_of_lt (le_trans (mul-le-mul_right most h) (mul-div-le (2 ^ 31 - 1) size)) (lit< tt))

  -- the sum of a line
  pub line-lt : (n : ℕ) → n ≤ length p → nat_abs (sum_to (product p q) n) < 2 ^ 63
  line-lt n h =
      lt_of_le_of_lt (sum_bound (product p q) (2 ^ 31 - 1) n below) (lt_of_le_of_lt (mul-le-mul_right (2 ^ 31 - 1) (le_trans h L.few)) (lit< tt))
    where
      below : (i : ℕ) → i < n → nat_abs (product p q i) ≤ 2 ^ 31 - 1
      below i l = omega (arith, product_lt i (lt_of_lt_of_le l h))

  -- ---- as the loops compute them
  -- one product more: s holds the sum so far, and x and y are the numbers a and b at place i
  pub block-turn : (i : ℕ) {s a b x y : ℤ} → i < size → i < length p → s ≡ sum_to (product p q) i
      → SFits w16 a → x ≡ to_z w16 (of_z w16 a) → a ≡ at p i → SFits w16 b → y ≡ to_z w16 (of_z w16 b) → b ≡ at q i
      → Is w32 (s +ℤ to_z w32 (of_z w32 (to_z w32 (of_z w32 x) *ℤ to_z w32 (of_z w32 y)))) (sum_to (product p q) (i + 1))
  block-turn i l k e f d g h m n =
      let z = times (wide32 (at p i) f d g) (wide32 (at q i) h m n) (product_lt i k) in
      known ((λ j. e j +ℤ (again z).eq j) ∙ sum_more (product p q) i) (sum-lt (i + 1) (omega arith) (omega arith))

  -- one block more: s holds the sum so far, and t is a block's
  pub line-turn : (from n : ℕ) {s t : ℤ} → from + n ≤ length p → s ≡ sum_to (product p q) from → t ≡ span (product p q) from n → Is w64 (s +ℤ t) (sum_to (product p q) (from + n))
  line-turn from n h e d = known ((λ j. e j +ℤ d j) ∙ sym (sum-split (product p q) from n)) (line-lt (from + n) h)

-- ---- a part of each line, of n places from m on
module _ {size : ℕ} {p q : List ℤ} (L : Lines size p q) (m n o : ℕ) (inside : m + n ≤ length p) (same : o ≡ n) where
  abbrev x : List ℤ
  x = take n (drop m p)

  abbrev y : List ℤ
  y = take o (drop m q)

  long : length x ≡ n
  long = length-take-le n (drop m p) (simp length-drop (omega arith))

  products : (i : ℕ) → i < length x → product x y i ≡ product p q (m + i)
  products i l = let k : i < n = lt_of_lt_of_le l (le_of_eq long) in
      λ j. (get_or-take n (drop m p) i (pos 0) k ∙ get_or-drop m p i (pos 0)) j *ℤ (get_or-take o (drop m q) i (pos 0) (lt_of_lt_of_le k (le_of_eq (sym same))) ∙ get_or-drop m q i (pos 0)) j

  pub part-lines : n ≤ size → Lines (length x) x y
  part-lines few =
      record {
        same = long ∙ sym same ∙ sym (length-take-le o (drop m q) (simp length-drop (omega (arith, L.same))));
        few = le_trans (omega (arith, long)) L.few;
        small = λ i l.
            let k : m + i < length p = omega (arith, long) in
            lt_of_le_of_lt (le_trans (le_of_eq (λ j. long j * nat_abs (products i l j))) (mul-le-mul_right (nat_abs (product p q (m + i))) few)) (L.small (m + i) k);
      }

  -- s holds the sum before them, and z is theirs
  pub part-more : {s z w : ℤ} → 1 ≤ size → s ≡ sum_to (product p q) m → SFits w32 z → w ≡ to_z w32 (of_z w32 z) → z ≡ sum_to (product x y) (length x)
      → Is w64 (s +ℤ to_z w64 (of_z w64 w)) (sum_to (product p q) (m + n))
  part-more {s} {z} one e f h d =
      line-turn L one m n inside e ((wide64 z f h refl).eq ∙ d ∙ sum-ext (product x y) (λ i. product p q (m + i)) (length x) products ∙ ap (λ (k : ℕ). span (product p q) m k) long)

-- the next block begins where one ends, and block k of n places lies in them
pub next_at : (k size : ℕ) → (k + 1) * size ≡ k * size + size
next_at k size = add-mul k 1 size ∙ ap (λ (i : ℕ). k * size + i) (one-mul size)

pub block_in : (k size n : ℕ) → 1 ≤ size → k < n / size → k * size + size ≤ n
block_in k size n one l = le_trans (le_of_eq (sym (next_at k size))) ((le-div_iff_mul-le one).0 (add-one-le l))
