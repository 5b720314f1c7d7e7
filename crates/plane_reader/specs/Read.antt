-- "a reader record of rows, columns and the lent u16 samples": what a read answers. `PlaneBuffer::get` of loop_filter.rs holds the row and the column at the plane's edge.
use Rattle.std.specs.Prelude.{List, [], ◌∷◌, ℕ, zero, suc, ◌-◌, min, ℤ, pos, negsuc, length, Option, Some, None, Result, Ok, Err}
use Rattle.frame.specs.Questions.{first_no}
use Rattle.frame.specs.Calls.{plane_numbers}
use Rattle.denoise.specs.Denoise.{sample_at}

-- the Rust's `place.clamp(0, n - 1)`, of n places
abbrev pub held_at : ℕ → ℤ → ℕ
held_at n (pos k) = min k (n - 1)
held_at n (negsuc k) = 0

-- a read is asked about the size and the number of samples
unfoldable pub read_refusal : ℕ → ℕ → ℕ → ℕ
read_refusal rows cols n = first_no (plane_numbers cols rows (n ∷ []))

-- the answer for that number, at a plane of n samples: at 0 the sample, if there is one, else the refusal with it
abbrev pub answered : ℕ → ℕ → ℕ → Result (Option ℕ) ℕ
answered zero zero value = Ok None
answered zero (suc n) value = Ok (Some value)
answered (suc r) n value = Err (suc r)

-- the sample at a row and a column of a plane that is lent with its size
unfoldable pub sample_of : List ℕ → ℕ → ℕ → ℤ → ℤ → Result (Option ℕ) ℕ
sample_of s rows cols row col =
    answered (read_refusal rows cols (length s)) (length s) (sample_at s cols (held_at rows row) (held_at cols col))
