-- `ar_positions` of film_grain_elect.rs, step by step; and what the call answers.
use Rattle.std.specs.Prelude.{Bool, true, false, cond, ◌&&◌, List, [], ◌∷◌, ◌++◌, map, ℕ, ◌+◌, ◌-◌, ◌*◌, eqb, ℤ, pos, nat_abs, ◌-ℤ◌, length, replicate}
use Rattle.laws.specs.Limits.{neighbour_limit}
use Rattle.laws.specs.Loop.{loop}
use Rattle.frame.specs.Questions.{accepted}
use Rattle.frame.specs.Calls.{lag_refusal}
use Rattle.positions.specs.declared.Positions.{Positions}

-- ---- the Rust's steps

-- a row and a column, counted from the sample
abbrev pub Offset : Type 0
Offset = ℤ × ℤ

-- what the loop along a row holds: the list, and whether `break` has ended the loop
pub record Along : Type 0 where
  pub out : List Offset
  pub ended : Bool

-- `dr == 0 && dc == 0`; nat_abs is 0 of 0 alone
abbrev pub stops : ℤ → ℤ → Bool
stops dr dc = eqb (nat_abs dr) 0 && eqb (nat_abs dc) 0

-- `if dr == 0 && dc == 0 { break; } out.push((dr, dc));`
unfoldable pub body : ℤ → ℤ → List Offset → Along
body dr dc out = cond (stops dr dc) (record { out = out; ended = true }) (record { out = out ++ ((dr, dc) ∷ []); ended = false })

-- `for dc in -l..=l { .. }`: turn k has the number k − l
unfoldable pub turn : ℕ → ℤ → ℕ → Along → Along
turn l dr k s = cond s.ended s (body dr (pos k -ℤ pos l) s.out)

unfoldable pub row : ℕ → ℤ → List Offset → List Offset
row l dr out = (loop 0 (2 * l + 1) (turn l dr) (record { out = out; ended = false })).out

-- `for dr in -l..=0 { .. }`
unfoldable pub positions : ℕ → List Offset
positions lag = loop 0 (lag + 1) (λ k. row lag (pos k -ℤ pos lag)) []

-- ---- the call

-- these, and zeros up to the most that there are
abbrev pub padded : List ℤ → List ℤ
padded zs = zs ++ replicate (neighbour_limit - length zs) (pos 0)

-- an accepted call's: a list of places
abbrev pub listed : List Offset → Positions
listed places =
    record { refusal = 0; count = length places; rows = padded (map (λ p. p.0) places); columns = padded (map (λ p. p.1) places) }

-- "A refused call returns its number, with every other field of the answer zero."
abbrev pub refused : ℕ → Positions
refused n = record { refusal = n; count = 0; rows = replicate neighbour_limit (pos 0); columns = replicate neighbour_limit (pos 0) }

unfoldable pub positions_of : ℕ → Positions
positions_of lag = let n = lag_refusal lag in accepted n (listed (positions lag)) (refused n)
