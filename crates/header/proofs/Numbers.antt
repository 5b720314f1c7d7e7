-- Digits and the numbers that they say: a list after another, the first eight of more, and back. By induction on the list. Assumes nothing.
use mathlib.Core.Path.{◌≡◌, refl, sym, ◌∙◌, ap}
use mathlib.Core.List.{List, [], ◌∷◌, ◌++◌, append_assoc, append-nil}
use Prim.Native.Nat.{ℕ, zero, suc, ◌+◌, ◌-◌, ◌*◌, ◌/◌, ◌%◌, ◌^◌, ◌<◌}
use native.Mathlib.Omega.{arith}
use native.Mathlib.Nat.{add-mul, mul_assoc, add_assoc, zero-mul, zero-add}
use native.Mathlib.Numerals.{add-one}
use lib.Arith.{digits_lt}
use lib.Pow.{pow-add, shr-shr, mod-pow-add, high, low}
use lib.ListN.{length, take, drop, length-append, length-drop, take-append-drop}
use Rattle.laws.specs.Table.{tabulate}
use Rattle.laws.proofs.Table.{tabulate-same, length-tabulate}
use Rattle.header.specs.Bits.{digits, number}
use Rattle.header.specs.Held.{Binary}

-- ---- numbers

pub number_append : (xs ys : List ℕ) → number (xs ++ ys) ≡ number xs * 2 ^ length ys + number ys
unfolding number
number_append [] ys = rw (zero-mul (2 ^ length ys), zero-add (number ys))
number_append (x ∷ xs) ys =
    rw (
      length-append xs ys,
      pow-add 2 (length xs) (length ys),
      number_append xs ys,
      add-mul (x * 2 ^ length xs) (number xs) (2 ^ length ys),
      mul_assoc x (2 ^ length xs) (2 ^ length ys),
      add_assoc (x * (2 ^ length xs * 2 ^ length ys)) (number xs * 2 ^ length ys) (number ys),
    )

pub number-low : (xs : List ℕ) → Binary xs → number xs < 2 ^ length xs
unfolding number
number-low [] h = omega arith
number-low (x ∷ xs) (l, h) =
    let s : suc (length xs) ≡ 1 + length xs = omega arith in
    rw (s, pow-add 2 1 (length xs)) (digits_lt l (number-low xs h))

pub binary-append : (xs ys : List ℕ) → Binary xs → Binary ys → Binary (xs ++ ys)
binary-append [] ys h k = k
binary-append (x ∷ xs) ys (l, h) k = (l, binary-append xs ys h k)

pub binary-drop : (n : ℕ) (xs : List ℕ) → Binary xs → Binary (drop n xs)
binary-drop zero xs h = h
binary-drop (suc n) [] h = h
binary-drop (suc n) (x ∷ xs) (l, h) = binary-drop n xs h

-- the first eight of a list of bits, and those after them
module _ (xs : List ℕ) (n : ℕ) (h : Binary xs) (e : length xs ≡ n + 8) where
  ends : length (drop 8 xs) ≡ n
  ends = length-drop 8 xs ∙ omega (arith, e)

  apart : number xs ≡ number (take 8 xs) * 2 ^ n + number (drop 8 xs)
  apart = ap number (sym (take-append-drop 8 xs)) ∙ rw ends at (number_append (take 8 xs) (drop 8 xs))

  small : number (drop 8 xs) < 2 ^ n
  small = rw ends at (number-low (drop 8 xs) (binary-drop 8 xs h))

  pub first-eight : number xs / 2 ^ n ≡ number (take 8 xs)
  first-eight = rw apart (high (number (take 8 xs)) n small)

  pub after-eight : number xs % 2 ^ n ≡ number (drop 8 xs)
  after-eight = rw apart (low (number (take 8 xs)) n small)

-- ---- digits

pub digits-length : (n v : ℕ) → length (digits n v) ≡ n
unfolding digits
digits-length n v = length-tabulate n (λ k. v / 2 ^ (n - 1 - k) % 2)

-- the last digit apart
digits-snoc : (n v : ℕ) → digits (n + 1) v ≡ digits n (v / 2) ++ (v % 2 ∷ [])
unfolding digits
digits-snoc n v =
    rw (add-one n)
    (ap (λ (l : List ℕ). l ++ (v / 2 ^ (suc n - 1 - n) % 2 ∷ [])) (tabulate-same n (λ k. v / 2 ^ (suc n - 1 - k) % 2) (λ k. v / 2 / 2 ^ (n - 1 - k) % 2) same)
    ∙ ap (λ (d : ℕ). tabulate n (λ k. v / 2 / 2 ^ (n - 1 - k) % 2) ++ (d ∷ [])) last)
  where
    same : (i : ℕ) → i < n → v / 2 ^ (suc n - 1 - i) % 2 ≡ v / 2 / 2 ^ (n - 1 - i) % 2
    same i h =
        let e : suc n - 1 - i ≡ 1 + (n - 1 - i) = omega arith in
        rw (e, ← shr-shr v 1 (n - 1 - i))

    last : v / 2 ^ (suc n - 1 - n) % 2 ≡ v % 2
    last = let e : suc n - 1 - n ≡ 0 = omega arith in rw e (omega arith)

digits-none : (v : ℕ) → digits 0 v ≡ []
unfolding digits
digits-none v = refl

-- the first n of n + m
pub digits-split : (n m v : ℕ) → digits (n + m) v ≡ digits n (v / 2 ^ m) ++ digits m v
digits-split n zero v =
    let a : n + 0 ≡ n = omega arith in
    let b : v / 2 ^ 0 ≡ v = omega arith in
    rw (a, b, digits-none v, append-nil (digits n v))
digits-split n (suc m) v =
    let a : n + suc m ≡ n + m + 1 = omega arith in
    let b : suc m ≡ 1 + m = omega arith in
    rw (
      a,
      digits-snoc (n + m) v,
      digits-split n m (v / 2),
      shr-shr v 1 m,
      ← b,
      append_assoc (digits n (v / 2 ^ suc m)) (digits m (v / 2)) (v % 2 ∷ []),
      ← digits-snoc m v,
      add-one m,
    )

pub digits-binary : (n v : ℕ) → Binary (digits n v)
digits-binary zero v = rw (digits-none v) tt
digits-binary (suc n) v = rw (← add-one n, digits-snoc n v) (binary-append (digits n (v / 2)) (v % 2 ∷ []) (digits-binary n (v / 2)) (omega arith, tt))

number-none : number [] ≡ 0
unfolding number
number-none = refl

number-one : (b : ℕ) → number (b ∷ []) ≡ b
unfolding number
number-one b = omega arith

pub digits_number : (n v : ℕ) → number (digits n v) ≡ v % 2 ^ n
digits_number zero v = rw (digits-none v, number-none) (omega arith)
digits_number (suc n) v =
    rw (← add-one n, digits-snoc n v, number_append (digits n (v / 2)) (v % 2 ∷ []), digits_number n (v / 2), number-one (v % 2), mod-pow-add v n 1) refl
