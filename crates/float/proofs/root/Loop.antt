-- The digit loop of `root_digits`, on plain numbers. After i turns q has the first i of the 53 digits of the root of m × 2 ^ 52 (`first-digits`).
-- * Two digits of m go with each of them: those taken are q² + rest, and `left` has the others, at the top of 54 bits.
-- * A digit is 1 exactly if (2q + 1)², the square with it, is no more than the digits taken: 4q + 1 ≤ 4 rest + the next two (`one-digit`, `zero-digit`).
-- * Where nothing remains the other digits are zeros. The last digit taken is then a 1, for with a 0 nothing would have remained before it (`last`), and the first is a 1 since m has 53 digits or 54. So those taken are the ones from the root's first 1 to its last (`ended`).
-- * Where 53 digits are taken, either something remains, and the root isn't exact, or its last digit is the 53rd (`done`).
-- Assumes nothing.
use Rattle.std.proofs.Common.{◌≡◌, ℕ, zero, suc, ◌+◌, ◌-◌, ◌*◌, ◌/◌, ◌%◌, ◌^◌, ◌<◌, ◌≤◌, sym, refl, ap, ◌∙◌, subst, le_trans, le_of_eq, lt_of_lt_of_le, lt_of_le_of_lt, mul-le-mul_right, mod-eq_of_lt, mul_assoc, mul_comm, add-sub_of_le, mul-lt-mul_of_pos_right, mul-pos, pow-suc, mul-one, mul_right_comm, add-one, arith, pow_pos, pow_mono, pow-add, shl_lt}
use native.Mathlib.Nat.{div-eq_of_lt-le, mul-mul-mul_comm}
use native.Mathlib.Decide.{dec_le}
use Rattle.float.specs.Root.{whole_root}
use Rattle.float.specs.WorkedDigits.{digits_of, FirstToLast}
use Rattle.float.proofs.WholeRoot.{root-low, root-high, root-unique, square_le, square-lt, square-suc, odd-square}
use Rattle.float.proofs.FirstToLast.{counted, zeros-behind}
use Rattle.float.proofs.DigitsOf.{whole-square, digits-exact, digits-else}

pub record State (m q rest left i : ℕ) : Type 0 where
  pub value : (q * q + rest) * 2 ^ 54 + left ≡ m * 4 ^ i
  pub i-le : i ≤ 53
  pub left_lt : left < 2 ^ 54
  pub rest_le : rest ≤ 2 * q
  pub q-lt : q < 2 ^ i
  pub q-small : q < 2 ^ 53
  pub last : rest + left ≡ 0 → q % 2 ≡ 1

pub start : (m : ℕ) → 2 ^ 52 ≤ m → m < 2 ^ 54 → State m 0 0 m 0
start m l h = record {
  value = omega (arith, mul-one m);
  i-le = omega arith;
  left_lt = h;
  rest_le = omega arith;
  q-lt = omega arith;
  q-small = omega arith;
  last = λ e. absurd (omega arith);
}

-- ---- a turn
module _ (m q rest left i : ℕ) (st : State m q rest left i) (l : i < 53) where
  even-square : q * 2 * (q * 2) ≡ q * q * 4
  even-square = mul-mul-mul_comm q 2 q 2

  with-one : (q * 2 + 1) * (q * 2 + 1) ≡ q * q * 4 + 4 * q + 1
  with-one = ap (λ (x : ℕ). (x + 1) * (x + 1)) (mul_comm q 2) ∙ odd-square q ∙ omega arith

  four-more : m * 4 ^ (i + 1) ≡ m * 4 ^ i * 4
  four-more = rw (add-one i, pow-suc 4 i) (sym (mul_assoc m (4 ^ i) 4))

  two-more : 2 ^ (i + 1) ≡ 2 ^ i * 2
  two-more = rw (add-one i) (pow-suc 2 i)

  small : 2 ^ (i + 1) ≤ 2 ^ 53
  small = pow_mono {i = i + 1} {j = 53} (omega arith)

  pub zero-digit : (rest + left ≡ 0 → ⊥) → rest * 4 + left / 2 ^ 52 < q * 4 + 1 → State m (q * 2) (rest * 4 + left / 2 ^ 52) (left % 2 ^ 52 * 4) (i + 1)
  zero-digit some h = record {
    value = omega (arith, even-square, four-more);
    i-le = omega arith;
    left_lt = omega arith;
    rest_le = omega arith;
    q-lt = omega (arith, two-more);
    q-small = omega (arith, two-more, small);
    last = λ e. absurd (some (omega arith));
  }

  pub one-digit : q * 4 + 1 ≤ rest * 4 + left / 2 ^ 52 → State m (q * 2 + 1) (rest * 4 + left / 2 ^ 52 - (q * 4 + 1)) (left % 2 ^ 52 * 4) (i + 1)
  one-digit h = record {
    value = omega (arith, with-one, four-more);
    i-le = omega arith;
    left_lt = omega arith;
    rest_le = omega arith;
    q-lt = omega (arith, two-more);
    q-small = omega (arith, two-more, small);
    last = λ e. omega arith;
  }

-- ---- the end
four : (j : ℕ) → 2 ^ j * 2 ^ j ≡ 4 ^ j
four zero = refl
four (suc j) = rw (pow-suc 2 j, pow-suc 4 j, mul-mul-mul_comm (2 ^ j) 2 (2 ^ j) 2, four j)

-- after 53 turns all digits are taken
all-taken : (m a left : ℕ) → left < 2 ^ 54 → a * 2 ^ 54 + left ≡ m * 4 ^ 53 → (a ≡ m * 2 ^ 52) × (left ≡ 0)
all-taken m a left l v = let e : a ≡ m * 2 ^ 52 = omega arith in (e, omega (arith, ap (λ (x : ℕ). x * 2 ^ 54) e))

abbrev Rest : ℕ → ℕ → ℕ → Type 0
Rest P q rest = (q ≡ whole_root P) × (rest ≡ P - q * q)

is-root : (P q rest : ℕ) → q * q + rest ≡ P → rest ≤ 2 * q → Rest P q rest
is-root P q rest e l = (sym (root-unique P q (omega arith) (omega (arith, square-suc q))), omega arith)

exact : (a rest left P : ℕ) → a + rest ≡ P → rest + left ≤ 0 → a ≡ P
exact a rest left P v z = omega arith

nothing : (a rest left P : ℕ) → a + rest ≡ P → left ≡ 0 → a ≡ P → rest + left ≤ 0
nothing a rest left P v z s = omega arith

abbrev pub Result : ℕ → ℕ → ℕ → ℕ → Type 0
Result P q rest worked = (q ≡ whole_root P) × (rest ≡ P - q * q) × (worked ≡ digits_of P)

module _ (m q rest left i : ℕ) (lo : 2 ^ 52 ≤ m) (st : State m q rest left i) where
  -- the digits taken where nothing remains
  taken : rest + left ≡ 0 → FirstToLast q i
  taken e = record { odd = q; zeros = 0; is = sym (mul-one q); first = square_le (2 ^ i) (2 * q) (omega (arith, reach, four i, mul-mul-mul_comm 2 q 2 q, square-suc (2 * q))); few = st.q-lt; last = st.last e }
    where
      reach : 2 ^ 52 * 4 ^ i ≤ q * q * 2 ^ 54
      reach = le_trans (mul-le-mul_right (4 ^ i) lo) (omega (arith, st.value))

  abbrev j : ℕ
  j = 53 - i

  -- the digits still to be taken, put behind the number and behind a root
  behind : m * 4 ^ i * 4 ^ j ≡ m * 2 ^ 52 * 2 ^ 54
  behind =
      mul_assoc m (4 ^ i) (4 ^ j)
      ∙ ap (λ (x : ℕ). m * x) (sym (pow-add 4 i j) ∙ ap (λ (x : ℕ). 4 ^ x) (add-sub_of_le st.i-le))
      ∙ sym (mul_assoc m (2 ^ 52) (2 ^ 54))

  filled-square : (a : ℕ) → a * 2 ^ j * (a * 2 ^ j) * 2 ^ 54 ≡ a * a * 2 ^ 54 * 4 ^ j
  filled-square a = ap (λ (x : ℕ). x * 2 ^ 54) (mul-mul-mul_comm a (2 ^ j) a (2 ^ j) ∙ ap (λ (x : ℕ). a * a * x) (four j)) ∙ mul_right_comm (a * a) (4 ^ j) (2 ^ 54)

  -- q has the first i of the root's 53 digits
  pub first-digits : whole_root (m * 2 ^ 52) / 2 ^ (53 - i) ≡ q
  first-digits =
      let P = m * 2 ^ 52 in
      let r = whole_root P in
      let low : q * 2 ^ j * (q * 2 ^ j) ≤ P = under (le_trans (le_of_eq (filled-square q)) (le_trans (mul-le-mul_right (4 ^ j) (omega (arith, st.value))) (le_of_eq behind))) in
      let high : P < suc q * 2 ^ j * (suc q * 2 ^ j) = over (lt_of_le_of_lt (le_of_eq (sym behind)) (lt_of_lt_of_le (mul-lt-mul_of_pos_right next some) (le_of_eq (sym (filled-square (suc q)))))) in
      div-eq_of_lt-le (2 ^ j) (square_le (q * 2 ^ j) r (lt_of_le_of_lt low (root-high P))) (square-lt r ((q + 1) * 2 ^ j) (lt_of_le_of_lt (root-low P) (rw (add-one q) high)))
    where
      under : {a b : ℕ} → a * 2 ^ 54 ≤ b * 2 ^ 54 → a ≤ b
      under {a} {b} h = omega arith

      over : {a b : ℕ} → a * 2 ^ 54 < b * 2 ^ 54 → a < b
      over {a} {b} h = omega arith

      some : 0 < 4 ^ j
      some = subst (λ (x : ℕ). 0 < x) (four j) (mul-pos (pow_pos j) (pow_pos j))

      next : m * 4 ^ i < suc q * suc q * 2 ^ 54
      next = omega (arith, st.value, st.rest_le, st.left_lt, square-suc q)

  pub done : 53 ≤ i → Result (m * 2 ^ 52) q rest 53
  done h =
      let e : i ≡ 53 = omega arith in
      let sum = all-taken m (q * q + rest) left st.left_lt (st.value ∙ ap (λ (x : ℕ). m * 4 ^ x) e) in
      let r : Rest (m * 2 ^ 52) q rest = is-root (m * 2 ^ 52) q rest sum.0 st.rest_le in (
        r.0,
        r.1,
        sym (elim (dec_le (rest + left) 0) [
          | yes z ↦ digits-exact q (m * 2 ^ 52) (exact (q * q) rest left (m * 2 ^ 52) sum.0 z) ∙ counted q i (taken (omega arith)) ∙ e
          | no f ↦ digits-else (m * 2 ^ 52) (λ p s. f (nothing (q * q) rest left (m * 2 ^ 52) sum.0 sum.1 (ap (λ (x : ℕ). x * x) (r.0 ∙ whole-square p (m * 2 ^ 52) s) ∙ s)))
        ]),
      )

  pub ended : rest + left ≡ 0 → Result (m * 2 ^ 52) (q * 2 ^ (53 - i) % 2 ^ 64) 0 i
  ended e =
      let under : q * 2 ^ j < 2 ^ 53 = rw (add-sub_of_le st.i-le) at (shl_lt i j st.q-lt) in
      let same : q * 2 ^ j % 2 ^ 64 ≡ q * 2 ^ j = mod-eq_of_lt (omega arith) in
      let all : q * q * 2 ^ 54 ≡ m * 4 ^ i = omega (arith, st.value) in
      let square : q * 2 ^ j * (q * 2 ^ j) ≡ m * 2 ^ 52 = whole (filled-square q ∙ ap (λ (x : ℕ). x * 4 ^ j) all ∙ behind) in
      let r : Rest (m * 2 ^ 52) (q * 2 ^ j) 0 = is-root (m * 2 ^ 52) (q * 2 ^ j) 0 (omega arith) (omega arith) in
      rw same (r.0, r.1, sym (digits-exact (q * 2 ^ j) (m * 2 ^ 52) square ∙ counted (q * 2 ^ j) i (zeros-behind q i j (taken e))))
    where
      whole : {a b : ℕ} → a * 2 ^ 54 ≡ b * 2 ^ 54 → a ≡ b
      whole {a} {b} h = omega arith
