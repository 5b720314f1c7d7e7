-- "The format is 0 to 3": the formats by their numbers.
use Rattle.std.specs.Prelude.{◌≡◌, ℕ, ◌<◌, Result, Ok, Err}
use Rattle.frame.specs.declared.refusal.Refusal.{Refusal}
use Rattle.frame.specs.declared.refusal.Refusal.TheVariants as refusal
use Rattle.header.specs.declared.format.Format.{Format}
use Rattle.header.specs.declared.format.Format.TheVariants.{Monochrome, Yuv420, Yuv422, Yuv444}

abbrev pub format_number : Format → ℕ
format_number Monochrome = 0
format_number Yuv420 = 1
format_number Yuv422 = 2
format_number Yuv444 = 3

-- the format of a number, or the refusal of one that is none
abbrev pub TellsFormat : ℕ → Result Format Refusal → Type 0
TellsFormat n (Ok format) = format_number format ≡ n
TellsFormat n (Err refused) = (refused ≡ refusal.Format) × (3 < n)
