-- What a step gives: above 16 bits the refusal and the same register, else the top bits of the register as it moved. Assumes nothing.
use Rattle.std.proofs.Common.{◌≡◌, ℕ, ◌+◌, ◌-◌, ◌/◌, ◌^◌, ◌<◌, ◌≤◌, arith, le-leb}
use native.Mathlib.Nat.{mod-one}
use borrow.Author.Tests.{lt-leb}
use lib.Pow.{shr_mod}
use Rattle.random.specs.Text.{moved, answer}
use Rattle.random.specs.Register.{refused, drawn, step}
use Rattle.random.specs.declared.register.RandomRegister.{RandomRegister}
use Rattle.std.specs.Prelude.{Ok}
use Rattle.random.proofs.Moves.{moved-lt}

pub step-refused : (g : RandomRegister) (bits : ℕ) → 16 < bits → step g bits ≡ refused 9 g
step-refused g bits h = rw (lt-leb bits 16 h)

pub step-accepted : (g : RandomRegister) (bits : ℕ) → bits ≤ 16
    → step g bits ≡ drawn g bits
step-accepted g bits h = rw (le-leb bits 16 h)

-- "0 bits gives 0 and still steps the state."
pub step-of-none : (g : RandomRegister) → step g 0 ≡ record { draw = Ok 0; register = record { state = moved g.state } }
unfolding answer
step-of-none g = rw (mod-one (moved g.state / 2 ^ 16))

-- "the result is the top bits asked for": nothing stands above them
pub answer-top : (r bits : ℕ) → r < 2 ^ 16 → bits ≤ 16 → answer r bits ≡ moved r / 2 ^ (16 - bits)
unfolding answer
answer-top r bits h l = let e : bits + (16 - bits) ≡ 16 = omega arith in shr_mod bits (16 - bits) (rw e (moved-lt r h))
