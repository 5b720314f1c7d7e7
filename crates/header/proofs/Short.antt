-- A header that doesn't hold the parameters themselves: no list has a place in it, what comes after the slot is allowed where it is 0, and has no bits. Assumes nothing.
use mathlib.Core.Path.{◌≡◌, refl, ◌∙◌}
use mathlib.Core.Bool.{Bool, true, false, not, ◌&&◌, and-true}
use mathlib.Core.List.{List, [], ◌∷◌, ◌++◌}
use Prim.Native.Nat.{ℕ}
use native.Mathlib.Omega.{arith}
use lib.Dec.{eqb}
use lib.ListN.{length, length-append}
use Rattle.header.specs.Record.{FilmGrainParams}
use Rattle.header.specs.declared.counts.Counts.{Counts}
use Rattle.header.specs.Row.{bit, allowed}
use Rattle.header.specs.Text.{coded, counts_of, uncoded, points, coeffs, opening, luma_part, chroma_part, filter_part, closing, rest}
use Rattle.header.specs.Bits.{bits_of, all_allowed}
use Rattle.header.specs.Size.{opening_size, size_of}
use Rattle.header.proofs.Folds.{allowed-append}
use Rattle.header.proofs.Shapes.{three-then}
use Rattle.header.proofs.Parts.{table-bits}
use Rattle.header.proofs.Sizes.{opening-size, size_is}

-- nothing is coded
pub nothing : (p : FilmGrainParams) (format : ℕ) → coded p ≡ false → counts_of p format ≡ uncoded
unfolding counts_of
nothing p format e = rw e

pub uncoded-counts : (p : FilmGrainParams) (format : ℕ) (c : Counts) → c ≡ counts_of p format → c.coded ≡ false → c ≡ uncoded
unfolding counts_of
uncoded-counts p format c e h = e ∙ nothing p format (rw e at h)

pub uncoded-size : (p : FilmGrainParams) (inter : Bool) (format : ℕ) → opening_size p inter ≡ size_of p inter format uncoded
unfolding size_of
uncoded-size p inter format = omega arith

-- ---- allowed where it is 0

bit-zero : (b : Bool) → eqb (bit b) 0 ≡ not b
bit-zero true = refl
bit-zero false = refl

module _ (p : FilmGrainParams) where
  abbrev luma_zero : Bool
  luma_zero = eqb p.num_y_points 0 && all_allowed (points 14 0 p.point_y_value p.point_y_scaling)

  abbrev chroma_zero : Bool
  chroma_zero =
      not p.chroma_scaling_from_luma &&
      (eqb p.num_cb_points 0 &&
      (all_allowed (points 10 0 p.point_cb_value p.point_cb_scaling) &&
      (eqb p.num_cr_points 0 && all_allowed (points 10 0 p.point_cr_value p.point_cr_scaling))))

  abbrev filter_zero : Bool
  filter_zero =
      eqb p.grain_scaling 0 &&
      (eqb p.ar_coeff_lag 0 &&
      (all_allowed (coeffs 24 0 p.ar_coeffs_y_plus_128) &&
      (all_allowed (coeffs 25 0 p.ar_coeffs_cb_plus_128) && all_allowed (coeffs 25 0 p.ar_coeffs_cr_plus_128))))

  abbrev closing_zero : Bool
  closing_zero =
      eqb p.ar_coeff_shift 0 &&
      (eqb p.grain_scale_shift 0 &&
      ((eqb p.cb_mult 0 && (eqb p.cb_luma_mult 0 && eqb p.cb_offset 0)) &&
      ((eqb p.cr_mult 0 && (eqb p.cr_luma_mult 0 && eqb p.cr_offset 0)) &&
      (not p.overlap_flag && not p.clip_to_restricted_range))))

  luma-zero : all_allowed (luma_part p uncoded) ≡ luma_zero
  unfolding luma_part all_allowed allowed
  luma-zero = refl

  chroma-zero : (format : ℕ) → all_allowed (chroma_part p format uncoded) ≡ chroma_zero
  unfolding chroma_part all_allowed allowed
  chroma-zero format =
      rw (bit-zero p.chroma_scaling_from_luma, allowed-append (points 10 0 p.point_cb_value p.point_cb_scaling) _)

  filter-zero : all_allowed (filter_part p uncoded) ≡ filter_zero
  unfolding filter_part all_allowed allowed
  filter-zero =
      rw (
        allowed-append (coeffs 24 0 p.ar_coeffs_y_plus_128) _,
        allowed-append (coeffs 25 0 p.ar_coeffs_cb_plus_128) (coeffs 25 0 p.ar_coeffs_cr_plus_128),
      )

  closing-zero : all_allowed (closing p uncoded) ≡ closing_zero
  unfolding closing all_allowed allowed
  closing-zero =
      rw (
        bit-zero p.overlap_flag,
        bit-zero p.clip_to_restricted_range,
        and-true (not p.clip_to_restricted_range),
        three-then (eqb p.cb_mult 0) (eqb p.cb_luma_mult 0) (eqb p.cb_offset 0) _,
        three-then (eqb p.cr_mult 0) (eqb p.cr_luma_mult 0) (eqb p.cr_offset 0) _,
      )

  pub rest-zero : (format : ℕ) → all_allowed (rest p format uncoded) ≡ (luma_zero && (chroma_zero && (filter_zero && closing_zero)))
  rest-zero format =
      rw (
        allowed-append (luma_part p uncoded) (chroma_part p format uncoded ++ (filter_part p uncoded ++ closing p uncoded)),
        allowed-append (chroma_part p format uncoded) (filter_part p uncoded ++ closing p uncoded),
        allowed-append (filter_part p uncoded) (closing p uncoded),
        luma-zero,
        chroma-zero format,
        filter-zero,
        closing-zero,
      )

  -- ---- no bits

  empty : (l : List ℕ) → length l ≡ 0 → l ≡ []
  empty [] h = refl
  empty (x ∷ l) h = absurd (omega (arith, h))

  pub rest-none : (format : ℕ) → bits_of (rest p format uncoded) ≡ []
  rest-none format =
      let a = table-bits p uncoded false format in
      let l = length-append (bits_of (opening p false)) (bits_of (rest p format uncoded)) in
      empty (bits_of (rest p format uncoded)) (omega (arith, rw a at (size_is p false format uncoded), l, opening-size p false, uncoded-size p false format))
