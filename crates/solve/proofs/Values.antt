-- "The solution is a count with 25 f64 values, unused ones plus zero": a found solution's count is the order, and every answer has 25 values, plus zero from its count on. Assumes nothing.
use mathlib.Core.Path.{refl, ◌∙◌}
use Prim.Native.Nat.{ℕ, zero, suc, ◌-◌, ◌≤◌, ◌<◌}
use native.Mathlib.Omega.{arith}
use lib.ListN.{replicate, length-set, length-replicate, get_or-replicate}
use lib.Seq.{get_or-set_other}
use lib.Ieee.{nan}
use Rattle.laws.specs.Scaled.{plus_zero}
use Rattle.laws.proofs.Loop.{loops-together}
use Rattle.frame.specs.Questions.{accepted}
use Rattle.frame.specs.Calls.{order_refusal}
use Rattle.solve.specs.declared.Solved.{Solved}
use Rattle.solve.specs.Elimination.{Row, Matrix, System, Stage, going, none, placed, substituted}
use Rattle.solve.specs.Words.{Padded, Whole}
use Rattle.solve.specs.Answer.{refused, answer_of, solved_of}

zeros-padded : (n : ℕ) → Padded n (replicate 25 plus_zero)
zeros-padded n = record { full = length-replicate 25 plus_zero; unused = λ k _ l. get_or-replicate 25 k plus_zero nan l }

padded-placed : (p : ℕ) (s : System) (n : ℕ) (x : Row) (u : Unit {0}) → 0 ≤ n → n < p → Padded p x → Padded p (placed p s n x)
unfolding placed
padded-placed p s n x _ _ l h =
    record {
      full = simp length-set h.full;
      unused = λ k m b. get_or-set_other x (p - 1 - n) k _ nan (λ e. omega arith) ∙ h.unused k m b;
    }

padded-substituted : (p : ℕ) (s : System) → Padded p (substituted p s)
unfolding substituted
padded-substituted p s =
    loops-together (λ _ x _. Padded p x) 0 p (placed p s) (λ _ u. u) (padded-placed p s) (omega arith) _ tt (zeros-padded p)

whole-refused : (n order : ℕ) → Whole n order (refused n)
whole-refused n order = record { numbered = refl; counted = λ e. cc; padded = zeros-padded 0 }

whole-answer : (order : ℕ) (s : Stage) → Whole 0 order (answer_of order s)
unfolding answer_of
whole-answer order none = whole-refused 0 order
whole-answer order (going s) = record { numbered = refl; counted = λ _. refl; padded = padded-substituted order s }

whole-accepted : (n order : ℕ) (x y : Solved) → Whole 0 order x → Whole n order y → Whole n order (accepted n x y)
whole-accepted zero order x y h l = h
whole-accepted (suc n) order x y h l = l

pub solved-whole : (a : Matrix) (b : Row) (order : ℕ) → Whole (order_refusal order) order (solved_of a b order)
unfolding solved_of
solved-whole a b order = whole-accepted (order_refusal order) order _ _ (whole-answer order _) (whole-refused _ order)
