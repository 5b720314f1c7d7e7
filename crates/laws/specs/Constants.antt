-- The f64 numbers that the Rust writes out, each by its one name: its fraction, rounded once.
use Rattle.std.specs.Prelude.{true, false, ℕ, Float}
use Rattle.std.specs.Float.{binary64}
use Rattle.std.specs.Float.Ieee.{round}

-- the f64 nearest to a / b
abbrev pub fraction : ℕ → ℕ → Float
fraction a b = round binary64 false a b

-- 1.0 and -1.0
abbrev pub one : Float
one = fraction 1 1

abbrev pub minus_one : Float
minus_one = round binary64 true 1 1

-- 4.0, 16.0 and 64.0
abbrev pub four : Float
four = fraction 4 1

abbrev pub sixteen : Float
sixteen = fraction 16 1

abbrev pub sixty_four : Float
sixty_four = fraction 64 1

-- 1e-9
abbrev pub tiny : Float
tiny = fraction 1 1_000_000_000

-- 0.75 and 0.4
abbrev pub three_quarters : Float
three_quarters = fraction 3 4

abbrev pub two_fifths : Float
two_fifths = fraction 2 5
