-- A place of a plane's points, and of its coefficients: allowed or not, and its bits, where the syntax has it and where it skips it. Assumes nothing.
use mathlib.Core.Path.{◌≡◌, refl}
use mathlib.Core.Bool.{true, ◌&&◌, and-true}
use mathlib.Core.List.{List, [], ◌++◌, append-nil}
use Prim.Native.Nat.{ℕ, ◌-◌, ◌<◌, ◌≤◌}
use native.Mathlib.Omega.{arith}
use lib.Dec.{eqb}
use lib.ListN.{get_or}
use borrow.Author.Tests.{lt-ltb, le-ltb}
use Rattle.header.specs.Row.{Row, each, width, code, allowed}
use Rattle.header.specs.Text.{point, coeff}
use Rattle.header.specs.Bits.{digits, bits_of, all_allowed}

module _ (n : ℕ) (values scalings : List ℕ) (i : ℕ) where
  pub point-skipped : n ≤ i → all_allowed (point n values scalings i) ≡ (eqb (get_or values i 0) 0 && eqb (get_or scalings i 0) 0)
  unfolding all_allowed point allowed
  point-skipped h = rw (le-ltb i n h, and-true _)

  pub point-bits : i < n → bits_of (point n values scalings i) ≡ digits 8 (get_or values i 0) ++ digits 8 (get_or scalings i 0)
  unfolding bits_of point width code
  point-bits h =
      let a : get_or values i 0 - 0 ≡ get_or values i 0 = omega arith in
      let b : get_or scalings i 0 - 0 ≡ get_or scalings i 0 = omega arith in
      rw (lt-ltb i n h, a, b, append-nil _)

  pub point-none : n ≤ i → bits_of (point n values scalings i) ≡ []
  unfolding bits_of point width code digits
  point-none h = rw (le-ltb i n h)

module _ (n : ℕ) (values : List ℕ) (i : ℕ) where
  pub coeff-skipped : n ≤ i → all_allowed (coeff n values i) ≡ eqb (get_or values i 0) 0
  unfolding all_allowed coeff allowed
  coeff-skipped h = rw (le-ltb i n h, and-true _)

  pub coeff-bits : i < n → bits_of (coeff n values i) ≡ digits 8 (get_or values i 0)
  unfolding bits_of coeff width code
  coeff-bits h = let a : get_or values i 0 - 0 ≡ get_or values i 0 = omega arith in rw (lt-ltb i n h, a, append-nil _)

  pub coeff-none : n ≤ i → bits_of (coeff n values i) ≡ []
  unfolding bits_of coeff width code digits
  coeff-none h = rw (le-ltb i n h)

-- no places
pub none-bits : (f : ℕ → List Row) → bits_of (each 0 f) ≡ []
unfolding bits_of each
none-bits f = refl

-- no place's rows are allowed
pub none_allowed : (f : ℕ → List Row) → all_allowed (each 0 f) ≡ true
unfolding all_allowed each
none_allowed f = refl
