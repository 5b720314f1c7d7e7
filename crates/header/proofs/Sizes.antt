-- How many bits the table has: the closed form counts them, for whatever counts, and a header has at most 1,227. Assumes nothing.
use mathlib.Core.Path.{◌≡◌, refl, sym, ◌∙◌}
use mathlib.Core.Bool.{Bool, true, false, cond, not, ◌&&◌, false≢true}
use mathlib.Core.List.{List, [], ◌∷◌, ◌++◌}
use Prim.Native.Nat.{ℕ, zero, suc, ◌+◌, ◌*◌, ◌<◌, ◌≤◌, min}
use native.Mathlib.Omega.{arith}
use native.Mathlib.Nat.{mul-zero, mul-suc, min-zero, min-eq_left, min-eq_right, min-le_right}
use lib.Dec.{ltb}
use lib.ListN.{length, take, drop, length-append}
use borrow.Author.Tests.{ltb-true, ltb-false}
use Rattle.laws.specs.Limits.{neighbour_limit, order_limit}
use Rattle.header.specs.Record.{FilmGrainParams}
use Rattle.header.specs.declared.counts.Counts.{Counts}
use Rattle.header.specs.Row.{Row, each, width, code}
use Rattle.header.specs.Text.{luma_point_limit, chroma_point_limit, monochrome, coded, counts_of, point, points, coeff, coeffs, opening, luma_part, chroma_part, filter_part, closing, table, rows}
use Rattle.header.specs.Bits.{digits, bits_of}
use Rattle.header.specs.Room.{most_bits}
use Rattle.header.specs.Size.{opening_size, size_of}
use Rattle.header.specs.Calls.{header_bits}
use Rattle.header.proofs.Numbers.{digits-length}
use Rattle.header.proofs.Folds.{bits-append}

-- ---- lists of rows

size-append : (a b : List Row) → length (bits_of (a ++ b)) ≡ length (bits_of a) + length (bits_of b)
size-append a b = rw (bits-append a b) (length-append (bits_of a) (bits_of b))

-- the widths of rows, one after another
abbrev widths : List Row → ℕ
widths [] = 0
widths (r ∷ rs) = width r + widths rs

-- the first n rows, and the others
size-from : (n : ℕ) (l : List Row) → length (bits_of l) ≡ widths (take n l) + length (bits_of (drop n l))
unfolding bits_of
size-from zero l = omega arith
size-from (suc n) [] = omega arith
size-from (suc n) (r ∷ l) = omega (arith, length-append (digits (width r) (code r)) (bits_of l), digits-length (width r) (code r), size-from n l)

-- a row between two lists
size-between : (a : List Row) (r : Row) (b : List Row) → length (bits_of (a ++ (r ∷ b))) ≡ length (bits_of a) + (width r + length (bits_of b))
size-between a r b = omega (arith, size-append a (r ∷ b), size-from 1 (r ∷ b))

size_none : length (bits_of []) ≡ 0
unfolding bits_of
size_none = refl

-- so many bits at each place below n, and none past them
size-each : (bits n m : ℕ) (f : ℕ → List Row) → ((i : ℕ) → length (bits_of (f i)) ≡ cond (ltb i n) bits 0) → length (bits_of (each m f)) ≡ bits * min n m
unfolding each
size-each bits n zero f h = rw (min-zero n, mul-zero bits) size_none
size-each bits n (suc m) f h = size-append (each m f) (f m) ∙ rw (size-each bits n m f h, h m) (go (ltb m n) refl)
  where
    go : (t : Bool) → ltb m n ≡ t → bits * min n m + cond (ltb m n) bits 0 ≡ bits * min n (suc m)
    go true e =
        let l : m < n = ltb-true m n e in
        let k : m ≤ n = omega arith in
        rw (e, min-eq_right k, min-eq_right l) (sym (mul-suc bits m))
    go false e =
        let l : n ≤ m = ltb-false m n e in
        let k : n ≤ suc m = omega arith in
        rw (e, min-eq_left l, min-eq_left k) (omega arith)

-- ---- a flag's bits: so many times its one

times : (b : Bool) (n : ℕ) → cond b n 0 ≡ n * cond b 1 0
times true n = omega arith
times false n = omega arith

-- ---- the parts

point-size : (n : ℕ) (values scalings : List ℕ) (i : ℕ) → length (bits_of (point n values scalings i)) ≡ cond (ltb i n) 16 0
unfolding point width
point-size n values scalings i = omega (arith, size-from 2 (point n values scalings i), size_none, times (ltb i n) 16, times (ltb i n) 8)

coeff-size : (n : ℕ) (values : List ℕ) (i : ℕ) → length (bits_of (coeff n values i)) ≡ cond (ltb i n) 8 0
unfolding coeff width
coeff-size n values i = omega (arith, size-from 1 (coeff n values i), size_none)

points-size : (places n : ℕ) (values scalings : List ℕ) → length (bits_of (points places n values scalings)) ≡ 16 * min n places
unfolding points
points-size places n values scalings = size-each 16 n places (point n values scalings) (point-size n values scalings)

coeffs-size : (places n : ℕ) (values : List ℕ) → length (bits_of (coeffs places n values)) ≡ 8 * min n places
unfolding coeffs
coeffs-size places n values = size-each 8 n places (coeff n values) (coeff-size n values)

pub opening-size : (p : FilmGrainParams) (inter : Bool) → length (bits_of (opening p inter)) ≡ opening_size p inter
unfolding opening opening_size width
opening-size p inter = omega (arith, size-from 4 (opening p inter), size_none, both p.apply_grain inter)
  where
    both : (a b : Bool) → ◌≡◌ {A = ℕ} (cond a (cond b 1 0) 0) (cond (a && b) 1 0)
    both true b = refl
    both false b = refl

module _ (p : FilmGrainParams) (c : Counts) where
  luma-size : length (bits_of (luma_part p c)) ≡ cond c.coded 4 0 + 16 * min c.y_points luma_point_limit
  unfolding luma_part width
  luma-size = omega (arith, size-from 1 (luma_part p c), points-size luma_point_limit c.y_points p.point_y_value p.point_y_scaling)

  chroma-size : (format : ℕ) → length (bits_of (chroma_part p format c))
      ≡ cond (c.coded && not (monochrome format)) 1 0 + cond c.chroma 8 0 + 16 * (min c.cb_points chroma_point_limit + min c.cr_points chroma_point_limit)
  unfolding chroma_part width
  chroma-size format =
      let cb : List Row = points chroma_point_limit c.cb_points p.point_cb_value p.point_cb_scaling in
      let cr : List Row = points chroma_point_limit c.cr_points p.point_cr_value p.point_cr_scaling in
      let both : length (bits_of (drop 2 (chroma_part p format c))) ≡ length (bits_of cb) + (cond c.chroma 4 0 + length (bits_of cr)) = size-between cb _ cr in
      omega (
        arith,
        size-from 2 (chroma_part p format c),
        both,
        points-size chroma_point_limit c.cb_points p.point_cb_value p.point_cb_scaling,
        points-size chroma_point_limit c.cr_points p.point_cr_value p.point_cr_scaling,
        times c.chroma 4,
        times c.chroma 8,
      )

  filter-size : length (bits_of (filter_part p c))
      ≡ cond c.coded 4 0 + 8 * (min c.y_coeffs neighbour_limit + min c.cb_coeffs order_limit + min c.cr_coeffs order_limit)
  unfolding filter_part width
  filter-size =
      let y : List Row = coeffs neighbour_limit c.y_coeffs p.ar_coeffs_y_plus_128 in
      let cb : List Row = coeffs order_limit c.cb_coeffs p.ar_coeffs_cb_plus_128 in
      let cr : List Row = coeffs order_limit c.cr_coeffs p.ar_coeffs_cr_plus_128 in
      omega (
        arith,
        size-from 2 (filter_part p c),
        size-append y (cb ++ cr),
        size-append cb cr,
        coeffs-size neighbour_limit c.y_coeffs p.ar_coeffs_y_plus_128,
        coeffs-size order_limit c.cb_coeffs p.ar_coeffs_cb_plus_128,
        coeffs-size order_limit c.cr_coeffs p.ar_coeffs_cr_plus_128,
        times c.coded 2,
        times c.coded 4,
      )

  closing-size : length (bits_of (closing p c)) ≡ cond c.coded 6 0 + (cond (ltb 0 c.cb_points) 25 0 + cond (ltb 0 c.cr_points) 25 0)
  unfolding closing width
  closing-size =
      let cb : Bool = ltb 0 c.cb_points in
      let cr : Bool = ltb 0 c.cr_points in
      omega (
        arith,
        size-from 10 (closing p c),
        size_none,
        times c.coded 2,
        times c.coded 6,
        times cb 8,
        times cb 9,
        times cb 25,
        times cr 8,
        times cr 9,
        times cr 25,
      )

-- ---- the table

pub size_is : (p : FilmGrainParams) (inter : Bool) (format : ℕ) (c : Counts) → length (bits_of (table p inter format c)) ≡ size_of p inter format c
unfolding table size_of
size_is p inter format c =
    omega (
      arith,
      size-append (opening p inter) (luma_part p c ++ (chroma_part p format c ++ (filter_part p c ++ closing p c))),
      size-append (luma_part p c) (chroma_part p format c ++ (filter_part p c ++ closing p c)),
      size-append (chroma_part p format c) (filter_part p c ++ closing p c),
      size-append (filter_part p c) (closing p c),
      opening-size p inter,
      luma-size p c,
      chroma-size p c format,
      filter-size p c,
      closing-size p c,
      times c.coded 4,
      times c.coded 6,
      times c.coded 14,
    )

-- ---- the most

low : (b : Bool) (n : ℕ) → cond b n 0 ≤ n
low true n = omega arith
low false n = omega arith

-- all after the opening
after-most : (p : FilmGrainParams) (inter : Bool) (format : ℕ) (c : Counts) → size_of p inter format c ≤ opening_size p inter + 1209
unfolding size_of
after-most p inter format c =
    omega (
      arith,
      low c.coded 14,
      low (c.coded && not (monochrome format)) 1,
      low c.chroma 8,
      min-le_right c.y_points luma_point_limit,
      min-le_right c.cb_points chroma_point_limit,
      min-le_right c.cr_points chroma_point_limit,
      min-le_right c.y_coeffs neighbour_limit,
      min-le_right c.cb_coeffs order_limit,
      min-le_right c.cr_coeffs order_limit,
      low (ltb 0 c.cb_points) 25,
      low (ltb 0 c.cr_points) 25,
    )

-- where no parameters are coded there is nothing after the opening
after_none : (p : FilmGrainParams) (inter : Bool) (format : ℕ) → coded p ≡ false → size_of p inter format (counts_of p format) ≡ opening_size p inter
unfolding size_of counts_of
after_none p inter format e = rw e (omega arith)

-- the slot is named only where they are not
opening-most : (p : FilmGrainParams) (inter : Bool) → opening_size p inter ≤ 21
unfolding opening_size
opening-most p inter = omega (arith, low p.apply_grain 16, low (p.apply_grain && inter) 1, low (p.apply_grain && not p.update_grain) 3)

no_slot : (a u : Bool) → (a && u) ≡ true → ◌≡◌ {A = ℕ} (cond (a && not u) 3 0) 0
no_slot true true e = refl
no_slot true false e = absurd (false≢true e)
no_slot false u e = refl

opening-coded : (p : FilmGrainParams) (inter : Bool) → coded p ≡ true → opening_size p inter ≤ 18
unfolding opening_size
opening-coded p inter e = omega (arith, low p.apply_grain 16, low (p.apply_grain && inter) 1, no_slot p.apply_grain p.update_grain e)

pub most-bits : (p : FilmGrainParams) (inter : Bool) (format : ℕ) → length (header_bits p inter format) ≤ most_bits
unfolding header_bits rows
most-bits p inter format = rw (size_is p inter format (counts_of p format)) (go (coded p) refl)
  where
    go : (t : Bool) → coded p ≡ t → size_of p inter format (counts_of p format) ≤ most_bits
    go true e = omega (arith, after-most p inter format (counts_of p format), opening-coded p inter e)
    go false e = omega (arith, after_none p inter format e, opening-most p inter)
