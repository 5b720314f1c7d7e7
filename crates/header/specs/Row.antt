-- "f(n) is n bits, highest first." A row of 5.9.30's table: a field, or a place of an array.
use Rattle.std.specs.Prelude.{Bool, cond, ◌&&◌, List, [], ◌∷◌, ◌++◌, ℕ, zero, suc, ◌+◌, ◌-◌, ◌^◌, leb, eqb}

-- how many bits, whether the syntax has it, what its bits leave off what is stored, the least and the most that may be stored, and what is
pub record Row : Type 0 where
  pub bits : ℕ
  pub present : Bool
  pub off : ℕ
  pub least : ℕ
  pub most : ℕ
  pub stored : ℕ

-- f(bits) with limits of its own
abbrev pub limited : ℕ → Bool → ℕ → ℕ → ℕ → Row
limited bits present least most stored = record { bits = bits; present = present; off = 0; least = least; most = most; stored = stored }

-- f(bits) of a number that is stored with so much added, and whatever its bits can say
abbrev pub raised : ℕ → Bool → ℕ → ℕ → Row
raised bits present off stored =
    record { bits = bits; present = present; off = off; least = off; most = off + (2 ^ bits - 1); stored = stored }

-- f(bits)
abbrev pub field : ℕ → Bool → ℕ → Row
field bits present stored = limited bits present 0 (2 ^ bits - 1) stored

-- a flag as it is stored and written
abbrev pub bit : Bool → ℕ
bit b = cond b 1 0

-- the rows of the places 0, 1, .., n - 1 of an array
unfoldable pub each : ℕ → (ℕ → List Row) → List Row
each zero f = []
each (suc n) f = each n f ++ f n

-- a fact of each row of a list
abbrev pub All : (Row → Type 0) → List Row → Type 0
All fact [] = Unit {0}
All fact (r ∷ rs) = fact r × All fact rs

-- ---- what a row says

-- how many bits it has in the header, and the number in them
unfoldable pub width : Row → ℕ
width r = cond r.present r.bits 0

unfoldable pub code : Row → ℕ
code r = r.stored - r.off

-- "breaks a limit .., does not fit its bits, or is skipped by the syntax and differs from `FilmGrainParams::reset`": none of these
unfoldable pub allowed : Bool → ℕ → ℕ → ℕ → Bool
allowed present least most stored = cond present (leb least stored && leb stored most) (eqb stored 0)
