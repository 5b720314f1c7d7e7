-- "* Solver order 2, rows 0 1 and 1 0, right side 3, 4: 4, 3. Order 0 and 26: 8. Pivot 1e-9 passes." "No solution if a pivot's magnitude is below 1e-9; a NaN pivot passes."
use Rattle.std.specs.Prelude.{true, List, [], ◌∷◌, ◌++◌, map, ℕ, ◌-◌, pos, length, replicate, Float}
use Rattle.std.specs.Float.{nan, binary64}
use Rattle.std.specs.Float.Ieee.{neg, of_bits, of_int}
use Rattle.table.specs.Cases.{Case, row}
use Rattle.laws.specs.Scaled.{plus_zero}
use Rattle.solve.specs.Elimination.{Row, Matrix, limit}
use Rattle.solve.specs.Answer.{refused, solved_of}
use Rattle.solve.specs.declared.Solved.{Solved}

-- the matrix, the right side and the order
abbrev pub Input : Type 0
Input = Matrix × Row × ℕ

abbrev pub solved : Input → Solved
solved x = solved_of x.0 x.1 x.2

-- these, and unused ones up to 25
abbrev pub padded : {A : Type 0} → A → List A → List A
padded unused xs = xs ++ replicate (25 - length xs) unused

abbrev pub filled : Row → Row
filled = padded plus_zero

-- as many equations as the right side has values
abbrev pub equations : Matrix → Row → Input
equations a b = (padded (filled []) (map filled a), filled b, length b)

abbrev pub solution : Row → Solved
solution xs = record { refusal = 0; found = true; solution = record { order = length xs; values = filled xs } }

abbrev pub whole : ℕ → Float
whole n = of_int binary64 (pos n)

-- the next below 1e-9
abbrev pub under_limit : Float
under_limit = of_bits binary64 0x3e11_2e0b_e826_d694

-- one equation, its pivot and its right side
abbrev pub single : Float → Float → Input
single a b = equations ((a ∷ []) ∷ []) (b ∷ [])

abbrev pub cases : List (Case Input Solved)
cases =
    record {
      input = equations ((whole 0 ∷ whole 1 ∷ []) ∷ (whole 1 ∷ whole 0 ∷ []) ∷ []) (whole 3 ∷ whole 4 ∷ []);
      stated = solution (whole 4 ∷ whole 3 ∷ []);
    } ∷
    record {
      input = equations ((whole 1 ∷ whole 1 ∷ []) ∷ (whole 1 ∷ whole 1 ∷ []) ∷ []) (plus_zero ∷ plus_zero ∷ []);
      stated = refused 0;
    } ∷
    row (padded (filled []) [], filled [], 0) (refused 8) ∷
    row (padded (filled []) [], filled [], 26) (refused 8) ∷
    row (single limit limit) (solution (whole 1 ∷ [])) ∷
    row (single (neg limit) limit) (solution (neg (whole 1) ∷ [])) ∷
    row (single under_limit limit) (refused 0) ∷
    row (single nan limit) (solution (nan ∷ [])) ∷
    []
