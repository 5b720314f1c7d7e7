-- "The source's `predicted` field is neither written nor tested": the outcome is the same whatever it is. By computation. Assumes nothing.
use mathlib.Core.Path.{◌≡◌, refl}
use mathlib.Core.Bool.{Bool}
use mathlib.Core.List.{List}
use Prim.Native.Nat.{ℕ}
use Rattle.header.specs.Record.{FilmGrainParams}
use Rattle.header.specs.Text.{counts_of, opening, luma_part, chroma_part, filter_part, closing, table, rows}
use Rattle.header.specs.Calls.{header_bits, write_refusal, write_outcome}
use Rattle.header.specs.Reset.{with_predicted}

pub predicted-free : (b : Bool) (p : FilmGrainParams) (inter : Bool) (format : ℕ) (d : List ℕ) → write_outcome (with_predicted b p) inter format d ≡ write_outcome p inter format d
unfolding write_outcome write_refusal header_bits rows table counts_of opening luma_part chroma_part filter_part closing
predicted-free b p inter format d = refl
