-- "The answer is their number, fill not counted." "Errors: 10 if a field, or a place of an array, ..; 11 if the destination has too few bytes; both after 9, in this order."
use Rattle.std.specs.Prelude.{Bool, List, [], ◌∷◌, ℕ, ◌+◌, ◌/◌, leb, length, Result, Ok, Err}
use Rattle.frame.specs.Questions.{Question, first_no, accepted, format_known}
use Rattle.frame.specs.declared.refusal.Refusal.{Refusal}
use Rattle.frame.specs.Refusal.{number}
use Rattle.header.specs.Record.{FilmGrainParams}
use Rattle.header.specs.declared.Written.{Written}
use Rattle.header.specs.Row.{Row}
use Rattle.header.specs.Text.{rows}
use Rattle.header.specs.Bits.{bits_of, all_allowed, packed}

-- the bits of a record
unfoldable pub header_bits : FilmGrainParams → Bool → ℕ → List ℕ
header_bits p inter format = bits_of (rows p inter format)

-- Is every field, and every place of an array, allowed? No: 10.
abbrev pub fields_allowed : List Row → Question
fields_allowed rs = (all_allowed rs, 10)

-- Has the destination a byte for every eight bits begun? No: 11.
abbrev pub room_for : ℕ → ℕ → Question
room_for bits room = (leb ((bits + 7) / 8) room, 11)

unfoldable pub write_refusal : FilmGrainParams → Bool → ℕ → ℕ → ℕ
write_refusal p inter format room =
    first_no (format_known format ∷ fields_allowed (rows p inter format) ∷ room_for (length (header_bits p inter format)) room ∷ [])

abbrev pub written : ℕ → ℕ → Written
written refusal bits = record { refusal = refusal; bits = bits }

-- of the number of bits, or of the question whose answer is no
abbrev pub written_of : Result ℕ Refusal → Written
written_of (Ok bits) = written 0 bits
written_of (Err refusal) = written (number refusal) 0

-- `write_film_grain_params` into a destination d: its answer, and what the destination holds
unfoldable pub write_outcome : FilmGrainParams → Bool → ℕ → List ℕ → Written × List ℕ
write_outcome p inter format d =
    let n = write_refusal p inter format (length d) in
    let bs = header_bits p inter format in
    (accepted n (written 0 (length bs)) (written n 0), accepted n (packed bs d) d)
