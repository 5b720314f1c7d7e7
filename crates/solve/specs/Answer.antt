-- "The solution is a count with 25 f64 values, unused ones plus zero." "A refused call returns its number, with every other field of the answer zero."
use Rattle.std.specs.Prelude.{true, false, ℕ, replicate, Option, Some, None, Result, Ok, Err}
use Rattle.laws.specs.Limits.{order_limit}
use Rattle.laws.specs.Scaled.{plus_zero}
use Rattle.frame.specs.Questions.{accepted}
use Rattle.frame.specs.Calls.{order_refusal}
use Rattle.solve.specs.Elimination.{Row, Matrix, Stage, going, none, eliminated, substituted}
use Rattle.frame.specs.Refusal.{number}
use Rattle.frame.specs.declared.refusal.Refusal.{Refusal}
use Rattle.solve.specs.declared.Solution.{Solution}
use Rattle.solve.specs.declared.Solved.{Solved}

-- a refusal's number, with every other field zero
abbrev pub refused : ℕ → Solved
refused n = record { refusal = n; found = false; solution = record { order = 0; values = replicate order_limit plus_zero } }

-- an accepted call's: no solution, which has zeros too, or one
unfoldable pub answer_of : ℕ → Stage → Solved
answer_of order none = refused 0
answer_of order (going s) = record { refusal = 0; found = true; solution = record { order = order; values = substituted order s } }

unfoldable pub solved_of : Matrix → Row → ℕ → Solved
solved_of a b order =
    let n = order_refusal order in
    accepted n (answer_of order (eliminated order (record { matrix = a; right = b }))) (refused n)

-- the answer as C has it
abbrev pub record_of : Result (Option Solution) Refusal → Solved
record_of (Ok (Some solution)) = record { refusal = 0; found = true; solution = solution }
record_of (Ok None) = refused 0
record_of (Err refusal) = refused (number refusal)
