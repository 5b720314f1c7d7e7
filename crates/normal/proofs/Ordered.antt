-- Where the sum for two neighbours stands: its block and its place in the block lie in the sums. Assumes nothing.
use mathlib.Core.Path.{sym}
use Prim.Native.Nat.{ℕ, zero, suc, ◌+◌, ◌-◌, ◌*◌, ◌/◌, ◌%◌, ◌≤◌, ◌<◌}
use native.Mathlib.Nat.{le_trans, le_of_eq, lt_of_lt_of_le, not-suc-le-zero, zero-lt-suc, mul-zero, one-mul, mul-one, mul-le-mul, mul-le-mul_left, mul-le-mul_right, le-div_iff_mul-le, div-lt_iff_lt-mul, div-mul-le_self, mod-lt}
use native.Mathlib.Omega.{arith}
use lib.Arith.{digits_lt}

module _ (starts side i j : ℕ) (order : i ≤ j) (in-square : j < starts * side) where
  pub side-some : 0 < side
  side-some = go side in-square
    where
      go : (side : ℕ) → j < starts * side → 0 < side
      go zero h = absurd (not-suc-le-zero (lt_of_lt_of_le h (le_of_eq (mul-zero starts))))
      go (suc side) h = zero-lt-suc side

  pub rows-order : i / side ≤ j / side
  rows-order = (le-div_iff_mul-le side-some).1 (le_trans (div-mul-le_self i side) order)

  pub row_in : j / side < starts
  row_in = (div-lt_iff_lt-mul side-some).1 in-square

  pub place_in : i % side * side + j % side < side * side
  place_in = digits_lt (mod-lt i side-some) (mod-lt j side-some)

  block_in : (j / side - i / side) * starts + i / side < starts * starts
  block_in = digits_lt apart above
    where
      apart : j / side - i / side < starts
      apart = omega (arith, row_in)

      above : i / side < starts
      above = omega (arith, row_in, rows-order)

  starts-some : 0 < starts
  starts-some = omega (arith, row_in)

-- what the code works out on the way to the place
pub record PairIn (starts side i j : ℕ) : Type 0 where
  pub some : 0 < side
  pub order : i / side ≤ j / side
  pub block : (j / side - i / side) * starts + i / side < starts * starts * (side * side)
  pub size : side * side ≤ starts * starts * (side * side)
  pub place : i % side * side + j % side < side * side
  pub all : ((j / side - i / side) * starts + i / side) * (side * side) + (i % side * side + j % side) < starts * starts * (side * side)

pub pair-in : (starts side i j : ℕ) → i ≤ j → j < starts * side → PairIn starts side i j
pair-in starts side i j o h =
    record {
      some = some;
      order = rows-order starts side i j o h;
      block = lt_of_lt_of_le block (le_trans (le_of_eq (sym (mul-one (starts * starts)))) (mul-le-mul_left (starts * starts) (mul-le-mul some some)));
      size = le_trans (le_of_eq (sym (one-mul (side * side)))) (mul-le-mul_right (side * side) (mul-le-mul first first));
      place = place_in starts side i j o h;
      all = digits_lt block (place_in starts side i j o h);
    }
  where
    some : 0 < side
    some = side-some starts side i j o h

    first : 0 < starts
    first = starts-some starts side i j o h

    block : (j / side - i / side) * starts + i / side < starts * starts
    block = block_in starts side i j o h
