-- Reads of a plane of 2 rows and 3 columns: within it, held at each edge; of an empty plane; and refused.
use Rattle.std.specs.Prelude.{List, [], ◌∷◌, ℕ, ℤ, pos, negsuc, Option, Some, None, Result, Ok, Err}
use Rattle.table.specs.Cases.{Case, row}
use Rattle.plane_reader.specs.Read.{sample_of}

pub record Read : Type 0 where
  pub samples : List ℕ
  pub rows : ℕ
  pub cols : ℕ
  pub row : ℤ
  pub col : ℤ

-- a sample, nothing, or the number of a refusal
abbrev pub Answer : Type 0
Answer = Result (Option ℕ) ℕ

abbrev pub read : Read → Answer
read r = sample_of r.samples r.rows r.cols r.row r.col

-- a row and a column of the plane, and what is read there
abbrev pub at : ℤ → ℤ → Answer → Case Read Answer
at r c = row (record { samples = 11 ∷ 12 ∷ 13 ∷ 14 ∷ 15 ∷ 16 ∷ []; rows = 2; cols = 3; row = r; col = c })

-- no samples, lent with a size
abbrev pub empty : ℕ → ℕ → Answer → Case Read Answer
empty rows cols = row (record { samples = []; rows = rows; cols = cols; row = pos 0; col = pos 0 })

abbrev pub reads : List (Case Read Answer)
reads =
    at (pos 1) (pos 1) (Ok (Some 15)) ∷
    at (negsuc 0) (pos 1) (Ok (Some 12)) ∷
    at (pos 2) (pos 1) (Ok (Some 15)) ∷
    at (pos 1) (negsuc 4) (Ok (Some 14)) ∷
    at (pos 0) (pos 3) (Ok (Some 13)) ∷
    empty 2 0 (Ok None) ∷
    empty 2 3 (Err 5) ∷
    empty 4097 0 (Err 1) ∷ []
