-- What the writer holds on its way: whole bytes in the destination, and the bits after them in a number.
use Rattle.std.specs.Prelude.{◌≡◌, Bool, cond, List, [], ◌∷◌, ◌++◌, ℕ, ◌+◌, ◌*◌, ◌^◌, ◌<◌, length, take, drop}
use Rattle.header.specs.declared.bits.BitWriter.{BitWriter}
use Rattle.header.specs.Bits.{digits, number, packed}

-- each is 0 or 1
abbrev pub Binary : List ℕ → Type 0
Binary [] = Unit {0}
Binary (b ∷ bs) = (b < 2) × Binary bs

-- of the bits bs, put into a destination that was `from`: `at` bytes are in d, but those past its end, and `count` bits, which say `pending`, are not yet
pub record Held (from bs : List ℕ) (at count pending : ℕ) (d : List ℕ) : Type 0 where
  pub binary : Binary bs
  pub place : 8 * at + count ≡ length bs
  pub rest : pending ≡ number (drop (8 * at) bs)
  pub done : d ≡ packed (take (8 * at) bs) from

-- the same of a writer
abbrev pub Holds : List ℕ → List ℕ → BitWriter → Type 0
Holds from bs w = Held from bs w.cursor.at w.cursor.count w.cursor.pending w.bytes.now

-- from w on, `more` bits are put, and w' is left, of the same destination; of fewer than 2^64 bits, whose bytes can be counted
pub record Puts (more : List ℕ) (w w' : BitWriter) : Type 0 where
  pub same : w'.bytes.ghost_name ≡ w.bytes.ghost_name
  pub put : (from bs : List ℕ) → length (bs ++ more) < 2 ^ 64 → Holds from bs w → Holds from (bs ++ more) w'

-- the bits of a plane's multipliers and offset
abbrev pub mix_bits : Bool → ℕ → ℕ → ℕ → List ℕ
mix_bits present mult luma-mult offset =
    digits (cond present 8 0) mult ++ (digits (cond present 8 0) luma-mult ++ digits (cond present 9 0) offset)
