-- Every row's limits lie within what its bits can say; so the bits of an allowed row say what is stored, and none is cut. Assumes nothing.
use mathlib.Core.Path.{◌≡◌, refl, ap₂, ◌∙◌}
use mathlib.Core.Bool.{Bool, true, false, cond, ◌&&◌, and-eq-true_iff}
use mathlib.Core.List.{List, [], ◌∷◌, map}
use Prim.Native.Nat.{ℕ, ◌+◌, ◌^◌, ◌<◌, ◌≤◌}
use native.Mathlib.Omega.{arith}
use native.Mathlib.Nat.{mod-eq_of_lt}
use lib.Dec.{eqb}
use lib.Pow.{pow_pos}
use Rattle.laws.specs.Limits.{neighbour_limit, order_limit}
use Rattle.header.specs.Record.{FilmGrainParams}
use Rattle.header.specs.declared.counts.Counts.{Counts}
use Rattle.header.specs.Row.{Row, limited, raised, field, All, width, code, allowed}
use Rattle.header.specs.Text.{luma_point_limit, chroma_point_limit, yuv420, counts_of, point, points, coeff, coeffs, opening, luma_part, chroma_part, filter_part, closing, table, rows}
use Rattle.header.specs.Bits.{digits, number, all_allowed}
use Rattle.header.specs.Fits.{Fits, said}
use Rattle.header.proofs.Folds.{all_append, all-each}
use Rattle.header.proofs.Causes.{row_kept, row-skipped}
use Rattle.header.proofs.Numbers.{digits_number}

-- ---- a row

limited-fits : (bits : ℕ) (present : Bool) (least most stored : ℕ) → most < 2 ^ bits → Fits (limited bits present least most stored)
limited-fits bits present least most stored h = record { low = omega arith; high = omega arith }

raised-fits : (bits : ℕ) (present : Bool) (off stored : ℕ) → Fits (raised bits present off stored)
raised-fits bits present off stored = let l = pow_pos bits in record { low = omega arith; high = omega arith }

field_fits : (bits : ℕ) (present : Bool) (stored : ℕ) → Fits (field bits present stored)
field_fits bits present stored = let l = pow_pos bits in record { low = omega arith; high = omega arith }

-- ---- lists of rows

points-fit : (places n : ℕ) (values scalings : List ℕ) → All Fits (points places n values scalings)
unfolding points point
points-fit places n values scalings = (all-each Fits places (point n values scalings)).1 (λ i o. (limited-fits 8 _ _ 255 _ (omega arith), (field_fits 8 _ _, tt)))

coeffs-fit : (places n : ℕ) (values : List ℕ) → All Fits (coeffs places n values)
unfolding coeffs coeff
coeffs-fit places n values = (all-each Fits places (coeff n values)).1 (λ i o. (field_fits 8 _ _, tt))

-- ---- the parts

-- num_cr_points' most
most-low : (b : Bool) → cond b 0 chroma_point_limit < 2 ^ 4
most-low true = omega arith
most-low false = omega arith

opening-fits : (p : FilmGrainParams) (inter : Bool) → All Fits (opening p inter)
unfolding opening
opening-fits p inter = (field_fits 1 _ _, (field_fits 16 _ _, (raised-fits _ _ _ _, (field_fits 3 _ _, tt))))

module _ (p : FilmGrainParams) (c : Counts) where
  luma-fits : All Fits (luma_part p c)
  unfolding luma_part
  luma-fits = (limited-fits 4 _ 0 luma_point_limit _ (omega arith), points-fit luma_point_limit _ _ _)

  chroma-fits : (format : ℕ) → All Fits (chroma_part p format c)
  unfolding chroma_part
  chroma-fits format = (
    field_fits 1 _ _,
    (
      limited-fits 4 _ 0 chroma_point_limit _ (omega arith),
      (all_append Fits (points chroma_point_limit _ _ _) _).1 (points-fit chroma_point_limit _ _ _, (limited-fits 4 _ _ _ _ (most-low (yuv420 format && eqb c.cb_points 0)), points-fit chroma_point_limit _ _ _)),
    ),
  )

  filter-fits : All Fits (filter_part p c)
  unfolding filter_part
  filter-fits = (
    raised-fits 2 _ 8 _,
    (
      field_fits 2 _ _,
      (all_append Fits (coeffs neighbour_limit _ _) _).1 (coeffs-fit neighbour_limit _ _, (all_append Fits (coeffs order_limit _ _) _).1 (coeffs-fit order_limit _ _, coeffs-fit order_limit _ _)),
    ),
  )

  closing-fits : All Fits (closing p c)
  unfolding closing
  closing-fits = (
    raised-fits 2 _ 6 _,
    (
      field_fits 2 _ _,
      (
        field_fits 8 _ _,
        (
          field_fits 8 _ _,
          (field_fits 9 _ _, (field_fits 8 _ _, (field_fits 8 _ _, (field_fits 9 _ _, (field_fits 1 _ _, (field_fits 1 _ _, tt)))))),
        ),
      ),
    ),
  )

pub rows_fit : (p : FilmGrainParams) (inter : Bool) (format : ℕ) → All Fits (rows p inter format)
unfolding rows table
rows_fit p inter format =
    let c : Counts = counts_of p format in
    let f = (all_append Fits (filter_part p c) (closing p c)).1 (filter-fits p c, closing-fits p c) in
    let h = (all_append Fits (chroma_part p format c) _).1 (chroma-fits p c format, f) in
    (all_append Fits (opening p inter) _).1 (opening-fits p inter, (all_append Fits (luma_part p c) _).1 (luma-fits p c, h))

-- ---- what an allowed row's bits say

module _ (r : Row) (f : Fits r) (e : allowed r.present r.least r.most r.stored ≡ true) where
  pub code_fits : r.present ≡ true → (r.off ≤ r.stored) × (code r < 2 ^ r.bits)
  unfolding code
  code_fits here =
      let q = row_kept r e here in
      (omega (arith, q.0, f.low), omega (arith, q.0, q.1, f.low, f.high))

  -- no bit is cut
  pub code-said : r.present ≡ true → number (digits (width r) (code r)) ≡ code r
  unfolding width code
  code-said here = digits_number (width r) (code r) ∙ rw here (mod-eq_of_lt (code_fits here).1)

  pub stored-said : r.stored ≡ said r
  unfolding said code
  stored-said = go r.present refl
    where
      go : (t : Bool) → r.present ≡ t → r.stored ≡ cond r.present (r.off + number (digits (width r) (code r))) 0
      go true here = rw (code-said here, here) (omega (arith, (code_fits here).0))
      go false here = rw here (row-skipped r e here)

all_said : (l : List Row) → All Fits l → all_allowed l ≡ true → map (λ r. r.stored) l ≡ map said l
unfolding all_allowed
all_said [] f e = refl
all_said (r ∷ l) (f, g) e =
    let q = (and-eq-true_iff (allowed r.present r.least r.most r.stored) (all_allowed l)).0 e in
    ap₂ (λ (n : ℕ) (ns : List ℕ). n ∷ ns) (stored-said r f q.0) (all_said l g q.1)

-- what an accepted record stores can be read back: its bits say it, field by field and place by place
pub record-said : (p : FilmGrainParams) (inter : Bool) (format : ℕ) → all_allowed (rows p inter format) ≡ true
    → map (λ r. r.stored) (rows p inter format) ≡ map said (rows p inter format)
record-said p inter format = all_said (rows p inter format) (rows_fit p inter format)
