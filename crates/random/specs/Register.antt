-- "Is the register asked for at most 16 bits? No: 9." "A refused call returns its number, with every other field of the answer zero; destinations, the register and any held state remain."
use Rattle.std.specs.Prelude.{ℕ, Result, Ok, Err}
use Rattle.frame.specs.Questions.{accepted}
use Rattle.frame.specs.Calls.{bits_refusal}
use Rattle.frame.specs.Refusal.{numbered}
use Rattle.random.specs.Text as text
use Rattle.random.specs.declared.register.RandomRegister.{RandomRegister}
use Rattle.random.specs.declared.register.Stepped.{Stepped}

-- a draw or the number of a refusal, and the register after it
pub record Step : Type 0 where
  pub draw : Result ℕ ℕ
  pub register : RandomRegister

-- a refused call's: the number, and the register as it was
abbrev pub refused : ℕ → RandomRegister → Step
refused n g = record { draw = Err n; register = g }

-- an accepted call's: the bits drawn, and the register as it moved
abbrev pub drawn : RandomRegister → ℕ → Step
drawn g bits = record { draw = Ok (text.answer g.state bits); register = record { state = text.moved g.state } }

-- the draw, and the register after it
abbrev pub step : RandomRegister → ℕ → Step
step g bits = accepted (bits_refusal bits) (drawn g bits) (refused (bits_refusal bits) g)

-- as the code answers it
abbrev pub step_of : Stepped → Step
step_of s = record { draw = numbered s.draw; register = s.register }
