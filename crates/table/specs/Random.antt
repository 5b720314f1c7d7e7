-- "Seeds of hints 0, 1, 2: 20973, 61476, 36443. Register 1, 11 bits: result 1024, state 32768." "0 bits gives 0 and still steps the state." "register bits 16 and 17"
use Rattle.std.specs.Prelude.{List, [], ◌∷◌, ℕ, Result, Ok, Err}
use Rattle.table.specs.Cases.{Case, row}
use Rattle.random.specs.Register.{Step, step}
use Rattle.random.specs.declared.register.RandomRegister.{RandomRegister}

-- a hint and its seed
abbrev pub seeds : List (Case ℕ ℕ)
seeds =
    row 0 20973 ∷
    row 1 61476 ∷
    row 2 36443 ∷ []

-- a register and the bits that it is asked for; the draw, or the number of a refusal, and the state afterwards
abbrev pub asked : RandomRegister × ℕ → Step
asked (register, bits) = step register bits

abbrev pub drawn : ℕ → ℕ → Result ℕ ℕ → ℕ → Case (RandomRegister × ℕ) Step
drawn r bits draw after =
    record { input = (record { state = r }, bits); stated = record { draw = draw; register = record { state = after } } }

abbrev pub draws : List (Case (RandomRegister × ℕ) Step)
draws =
    drawn 1 11 (Ok 1024) 32768 ∷
    drawn 1 0 (Ok 0) 32768 ∷
    drawn 1 16 (Ok 32768) 32768 ∷
    drawn 1 17 (Err 9) 1 ∷ []
