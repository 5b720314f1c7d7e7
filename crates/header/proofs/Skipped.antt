-- "Skipped by the syntax and differs from `FilmGrainParams::reset`" is "skipped and not 0": all that a reset record stores is 0. It is written, with one bit; and what is 0 in any record that is written. By computation. Assumes nothing.
use mathlib.Core.Path.{◌≡◌, refl, ap, ◌∙◌}
use mathlib.Core.Bool.{Bool, true, false}
use mathlib.Core.List.{[], ◌∷◌, map}
use Prim.Native.Nat.{ℕ, ◌≤◌}
use lib.ListN.{drop, replicate}
use borrow.Author.Tests.{le-leb}
use Rattle.header.specs.Record.{FilmGrainParams}
use Rattle.header.specs.Stored.{stored}
use Rattle.header.specs.Row.{each, width, code, allowed}
use Rattle.header.specs.Text.{counts_of, point, points, coeff, coeffs, opening, luma_part, chroma_part, filter_part, closing, table, rows}
use Rattle.header.specs.Bits.{digits, number, bits_of, all_allowed}
use Rattle.header.specs.Calls.{header_bits, write_refusal}
use Rattle.header.specs.Reset.{reset}
use Rattle.header.specs.Fits.{said}
use Rattle.header.proofs.Fit.{record-said}

-- in memory it is zeros
pub reset-bytes : stored (replicate 168 0) ≡ reset
unfolding stored
reset-bytes = refl

pub reset-stored : (inter : Bool) (format : ℕ) → map (λ r. r.stored) (rows reset inter format) ≡ replicate 162 0
unfolding rows table counts_of opening luma_part chroma_part filter_part closing points point coeffs coeff each
reset-stored inter format = refl

pub reset-allowed : (inter : Bool) (format : ℕ) → all_allowed (rows reset inter format) ≡ true
unfolding rows table counts_of opening luma_part chroma_part filter_part closing points point coeffs coeff each all_allowed allowed
reset-allowed inter format = refl

pub reset-bit : (inter : Bool) (format : ℕ) → header_bits reset inter format ≡ 0 ∷ []
unfolding header_bits rows table counts_of opening luma_part chroma_part filter_part closing points point coeffs coeff each bits_of width code digits
reset-bit inter format = refl

-- on every frame, in every format, where there is a byte
pub reset-written : (inter : Bool) (format room : ℕ) → format ≤ 3 → 1 ≤ room → write_refusal reset inter format room ≡ 0
unfolding write_refusal
reset-written inter format room h l = rw (le-leb format 3 h, reset-allowed inter format, reset-bit inter format, le-leb 1 room l)

-- ---- accepted records

-- without grain all is as after a reset
pub not-applied : (p : FilmGrainParams) (inter : Bool) (format : ℕ) → p.apply_grain ≡ false → all_allowed (rows p inter format) ≡ true
    → map (λ r. r.stored) (rows p inter format) ≡ replicate 162 0
unfolding rows table counts_of opening luma_part chroma_part filter_part closing points point coeffs coeff each said width code digits number
not-applied p inter format e a = record-said p inter format a ∙ rw e

-- where a slot is named all below it is
pub slot-named : (p : FilmGrainParams) (inter : Bool) (format : ℕ) → p.apply_grain ≡ true → p.update_grain ≡ false → all_allowed (rows p inter format) ≡ true
    → map (λ r. r.stored) (drop 4 (rows p inter format)) ≡ replicate 158 0
unfolding rows table counts_of opening luma_part chroma_part filter_part closing points point coeffs coeff each said width code digits number
slot-named p inter format e u a = ap (drop 4) (record-said p inter format a) ∙ rw (e, u)
