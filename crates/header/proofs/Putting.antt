-- A list put place by place: none at first, each place that the syntax has, and nothing past them. Assumes nothing.
use mathlib.Core.Path.{◌≡◌, refl}
use mathlib.Core.List.{List, ◌∷◌}
use Prim.Native.Nat.{ℕ, ◌+◌, ◌<◌, ◌≤◌, min}
use native.Mathlib.Omega.{arith}
use native.Mathlib.Numerals.{add-one}
use lib.ListN.{length, get_or, take, drop, length-drop}
use lib.Seq.{drop-cons, get_or-take, length-take-le}
use Rattle.header.specs.declared.bits.BitWriter.{BitWriter}
use Rattle.header.specs.Row.{Row, each}
use Rattle.header.specs.Text.{point, points, coeff, coeffs}
use Rattle.header.specs.Bits.{digits, bits_of}
use Rattle.header.specs.Held.{Puts}
use Rattle.header.proofs.Folds.{bits_each, bits-past}
use Rattle.header.proofs.Lists.{none-bits, point-bits, point-none, coeff-bits, coeff-none}
use Rattle.header.proofs.Holding.{puts-none, puts_then}

-- the first of what is left of a list after k
pub next_place : (l : List ℕ) (k : ℕ) {x : ℕ} {rest : List ℕ} → drop k l ≡ x ∷ rest → (k < length l) × (x ≡ get_or l k 0) × (rest ≡ drop (k + 1) l)
next_place l k {x} {rest} e =
    let long : length (drop k l) ≡ length (x ∷ rest) = rw e refl in
    let h : k < length l = omega (arith, length-drop k l) in
    let s : drop k l ≡ get_or l k 0 ∷ drop (k + 1) l = rw add-one (drop-cons l k 0 h) in
    (h, cc, cc)

-- the first n of a list, or all that it has
module _ (n : ℕ) (l : List ℕ) {first : List ℕ} (e : first ≡ take (min n (length l)) l) where
  pub part-length : length first ≡ min n (length l)
  part-length = rw e (length-take-le (min n (length l)) l (omega arith))

  pub part-place : (i : ℕ) → i < length first → get_or first i 0 ≡ get_or l i 0
  part-place i h = rw e (get_or-take (min n (length l)) l i 0 (omega (arith, part-length)))

pub part-ended : (n : ℕ) (l : List ℕ) (k : ℕ) → length (drop k (take (min n (length l)) l)) ≡ 0 → min n (length l) ≤ k
part-ended n l k h = omega (arith, length-drop k (take (min n (length l)) l), part-length n l refl)

pub puts-start : {w : BitWriter} (f : ℕ → List Row) → Puts (bits_of (each 0 f)) w w
puts-start f = rw (none-bits f) puts-none

module _ (n : ℕ) (values : List ℕ) where
  pub coeffs-more : {u v w : BitWriter} (k : ℕ) → k < n → Puts (bits_of (each k (coeff n values))) u v → Puts (digits 8 (get_or values k 0)) v w
      → Puts (bits_of (each (k + 1) (coeff n values))) u w
  coeffs-more k h a b = rw (bits_each k (coeff n values), coeff-bits n values k h) (puts_then a b)

  pub coeffs-done : {u v : BitWriter} (k : ℕ) → min n (length values) ≤ k → k ≤ length values → Puts (bits_of (each k (coeff n values))) u v
      → Puts (bits_of (coeffs (length values) n values)) u v
  unfolding coeffs
  coeffs-done k h l a = rw (bits-past k (length values) (coeff n values) l (λ i a b. coeff-none n values i (omega arith))) a

module _ (n : ℕ) (values scalings : List ℕ) where
  pub points-more : {u v w x : BitWriter} (k : ℕ) → k < n → Puts (bits_of (each k (point n values scalings))) u v
      → Puts (digits 8 (get_or values k 0)) v w → Puts (digits 8 (get_or scalings k 0)) w x
      → Puts (bits_of (each (k + 1) (point n values scalings))) u x
  points-more k h a b c = rw (bits_each k (point n values scalings), point-bits n values scalings k h) (puts_then a (puts_then b c))

  pub points-done : {u v : BitWriter} (k : ℕ) → min n (length values) ≤ k → k ≤ length values → Puts (bits_of (each k (point n values scalings))) u v
      → Puts (bits_of (points (length values) n values scalings)) u v
  unfolding points
  points-done k h l a = rw (bits-past k (length values) (point n values scalings) l (λ i a b. point-none n values scalings i (omega arith))) a
