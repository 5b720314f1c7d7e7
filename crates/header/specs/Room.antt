-- "11 if the destination has too few bytes": the most bits that a header has, and destinations that are never too short.
use Rattle.std.specs.Prelude.{Bool, ◌≢◌, ℕ}
use Rattle.header.specs.Record.{FilmGrainParams}
use Rattle.header.specs.Calls.{write_refusal}

abbrev pub most_bits : ℕ
most_bits = 1227

-- a byte for every eight of them begun
abbrev pub most_bytes : ℕ
most_bytes = 154

-- no header is refused with 11
abbrev pub Enough : ℕ → Type 0
Enough room = (p : FilmGrainParams) (inter : Bool) (format : ℕ) → write_refusal p inter format room ≢ 11
