-- The bits of each part of the table, as they are put: field by field and list by list. Assumes nothing.
use mathlib.Core.Path.{◌≡◌, refl}
use mathlib.Core.Bool.{Bool, true, false, cond, not, ◌&&◌}
use mathlib.Core.List.{List, [], ◌∷◌, ◌++◌, append_assoc, append-nil}
use Prim.Native.Nat.{ℕ, ◌-◌}
use native.Mathlib.Omega.{arith}
use lib.Dec.{ltb}
use Rattle.laws.specs.Limits.{neighbour_limit, order_limit}
use Rattle.header.specs.Record.{FilmGrainParams}
use Rattle.header.specs.declared.counts.Counts.{Counts}
use Rattle.header.specs.Row.{Row, limited, raised, bit, width, code}
use Rattle.header.specs.Text.{luma_point_limit, chroma_point_limit, monochrome, points, coeffs, opening, luma_part, chroma_part, filter_part, closing, rest, table}
use Rattle.header.specs.Bits.{digits, bits_of}
use Rattle.header.specs.Held.{mix_bits}
use Rattle.header.proofs.Folds.{bits-append}

-- ---- a row

limited-bits : (bits : ℕ) (present : Bool) (least most stored : ℕ) (rs : List Row)
    → bits_of (limited bits present least most stored ∷ rs) ≡ digits (cond present bits 0) stored ++ bits_of rs
unfolding bits_of width code
limited-bits bits present least most stored rs = let e : stored - 0 ≡ stored = omega arith in rw e

raised-bits : (bits : ℕ) (present : Bool) (off stored : ℕ) (rs : List Row)
    → bits_of (raised bits present off stored ∷ rs) ≡ digits (cond present bits 0) (stored - off) ++ bits_of rs
unfolding bits_of width code
raised-bits bits present off stored rs = refl

none : bits_of [] ≡ []
unfolding bits_of
none = refl

last-bits : (bits : ℕ) (present : Bool) (least most stored : ℕ) → bits_of (limited bits present least most stored ∷ []) ≡ digits (cond present bits 0) stored
last-bits bits present least most stored = rw (limited-bits bits present least most stored [], none, append-nil (digits (cond present bits 0) stored))

-- update_grain has its bit on an inter frame
update-bits : (inter apply update : Bool) → digits (cond apply (bit inter) 0) (bit update - bit (not inter)) ≡ digits (cond (apply && inter) 1 0) (bit update)
unfolding digits
update-bits true true true = refl
update-bits true true false = refl
update-bits true false update = refl
update-bits false true update = refl
update-bits false false update = refl

mix-then : (present : Bool) (mult luma-mult offset : ℕ) (r : List ℕ)
    → digits (cond present 8 0) mult ++ (digits (cond present 8 0) luma-mult ++ (digits (cond present 9 0) offset ++ r)) ≡ mix_bits present mult luma-mult offset ++ r
mix-then present mult luma-mult offset r =
    rw (
      append_assoc (digits (cond present 8 0) mult) (digits (cond present 8 0) luma-mult ++ digits (cond present 9 0) offset) r,
      append_assoc (digits (cond present 8 0) luma-mult) (digits (cond present 9 0) offset) r,
    )

-- ---- the parts

pub opening-bits : (p : FilmGrainParams) (inter : Bool)
    → bits_of (opening p inter) ≡
    digits 1 (bit p.apply_grain) ++
    (digits (cond p.apply_grain 16 0) p.grain_seed ++
    (digits (cond (p.apply_grain && inter) 1 0) (bit p.update_grain) ++
    digits (cond (p.apply_grain && not p.update_grain) 3 0) p.film_grain_params_ref_idx))
unfolding opening
opening-bits p inter =
    rw (
      limited-bits _ _ _ _ _ _,
      limited-bits _ _ _ _ _ _,
      raised-bits _ _ _ _ _,
      last-bits _ _ _ _ _,
      update-bits inter p.apply_grain p.update_grain,
    )

module _ (p : FilmGrainParams) (c : Counts) where
  pub luma-bits : bits_of (luma_part p c) ≡
      digits (cond c.coded 4 0) p.num_y_points ++ bits_of (points luma_point_limit c.y_points p.point_y_value p.point_y_scaling)
  unfolding luma_part
  luma-bits = limited-bits _ _ _ _ _ _

  pub chroma-bits : (format : ℕ)
      → bits_of (chroma_part p format c) ≡
      digits (cond (c.coded && not (monochrome format)) 1 0) (bit p.chroma_scaling_from_luma) ++
      (digits (cond c.chroma 4 0) p.num_cb_points ++
      (bits_of (points chroma_point_limit c.cb_points p.point_cb_value p.point_cb_scaling) ++
      (digits (cond c.chroma 4 0) p.num_cr_points ++
      bits_of (points chroma_point_limit c.cr_points p.point_cr_value p.point_cr_scaling))))
  unfolding chroma_part
  chroma-bits format =
      rw (limited-bits _ _ _ _ _ _, limited-bits _ _ _ _ _ _, bits-append (points chroma_point_limit c.cb_points p.point_cb_value p.point_cb_scaling) _, limited-bits _ _ _ _ _ _)

  pub filter-bits : bits_of (filter_part p c) ≡
      digits (cond c.coded 2 0) (p.grain_scaling - 8) ++
      (digits (cond c.coded 2 0) p.ar_coeff_lag ++
      (bits_of (coeffs neighbour_limit c.y_coeffs p.ar_coeffs_y_plus_128) ++
      (bits_of (coeffs order_limit c.cb_coeffs p.ar_coeffs_cb_plus_128) ++
      bits_of (coeffs order_limit c.cr_coeffs p.ar_coeffs_cr_plus_128))))
  unfolding filter_part
  filter-bits =
      rw (
        raised-bits _ _ _ _ _,
        limited-bits _ _ _ _ _ _,
        bits-append (coeffs neighbour_limit c.y_coeffs p.ar_coeffs_y_plus_128) _,
        bits-append (coeffs order_limit c.cb_coeffs p.ar_coeffs_cb_plus_128) _,
      )

  pub closing-bits : bits_of (closing p c) ≡
      digits (cond c.coded 2 0) (p.ar_coeff_shift - 6) ++
      (digits (cond c.coded 2 0) p.grain_scale_shift ++
      (mix_bits (ltb 0 c.cb_points) p.cb_mult p.cb_luma_mult p.cb_offset ++
      (mix_bits (ltb 0 c.cr_points) p.cr_mult p.cr_luma_mult p.cr_offset ++
      (digits (cond c.coded 1 0) (bit p.overlap_flag) ++
      digits (cond c.coded 1 0) (bit p.clip_to_restricted_range)))))
  unfolding closing
  closing-bits =
      rw (
        raised-bits _ _ _ _ _,
        limited-bits _ _ _ _ _ _,
        limited-bits _ _ _ _ _ _,
        limited-bits _ _ _ _ _ _,
        limited-bits _ _ _ _ _ _,
        limited-bits _ _ _ _ _ _,
        limited-bits _ _ _ _ _ _,
        limited-bits _ _ _ _ _ _,
        limited-bits _ _ _ _ _ _,
        last-bits _ _ _ _ _,
        ← mix-then _ _ _ _ _,
        ← mix-then _ _ _ _ _,
      )

  pub rest-bits : (format : ℕ)
      → bits_of (rest p format c) ≡ bits_of (luma_part p c) ++ (bits_of (chroma_part p format c) ++ (bits_of (filter_part p c) ++ bits_of (closing p c)))
  rest-bits format =
      rw (
        bits-append (luma_part p c) (chroma_part p format c ++ (filter_part p c ++ closing p c)),
        bits-append (chroma_part p format c) (filter_part p c ++ closing p c),
        bits-append (filter_part p c) (closing p c),
      )

  pub table-bits : (inter : Bool) (format : ℕ) → bits_of (table p inter format c) ≡ bits_of (opening p inter) ++ bits_of (rest p format c)
  unfolding table
  table-bits inter format = bits-append (opening p inter) (rest p format c)
