-- "Noise means source sample minus denoised sample, before any shift."
-- A plane is the list of its samples in row order; place (r, c) of a plane w wide is r × w + c.
use Rattle.std.specs.Prelude.{List, ℕ, ◌+◌, ◌*◌, ℤ, pos, ◌-ℤ◌, get_or, Float}
use Rattle.std.specs.Float.{binary64}
use Rattle.std.specs.Float.Ieee.{sub, of_int}

-- exactly, at a place of two planes
abbrev pub noise : List ℕ → List ℕ → ℕ → ℤ
noise source denoised i = pos (get_or source i 0) -ℤ pos (get_or denoised i 0)

-- as the Rust works it: `f64::from(a) - f64::from(b)`
abbrev pub noise_f : List ℕ → List ℕ → ℕ → Float
noise_f source denoised i =
    sub binary64 (of_int binary64 (pos (get_or source i 0))) (of_int binary64 (pos (get_or denoised i 0)))

-- the place of row r and column c
abbrev pub place : ℕ → ℕ → ℕ → ℕ
place w r c = r * w + c

-- a plane and its denoised copy
pub record Pair : Type 0 where
  pub source : List ℕ
  pub denoised : List ℕ
  pub width : ℕ
  pub height : ℕ

-- a plane w wide and h high, and its copy
abbrev pub pair : List ℕ → List ℕ → ℕ → ℕ → Pair
pair source denoised w h = record { source = source; denoised = denoised; width = w; height = h }

-- the noise at row r and column c
abbrev pub noise_of : Pair → ℕ → ℕ → ℤ
noise_of p r c = noise p.source p.denoised (place p.width r c)
