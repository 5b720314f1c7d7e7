-- The answer from where the call ends: refused, at a small pivot, or with every column cleared. Assumes nothing.
use mathlib.Core.Path.{◌≡◌, sym, ap, ◌∙◌}
use mathlib.Core.Bool.{true}
use Prim.Native.Nat.{ℕ}
use Rattle.laws.specs.Loop.{loop}
use Rattle.laws.proofs.Loop.{loop-fixed}
use Rattle.laws.proofs.Turns.{Turned}
use Rattle.frame.specs.Calls.{order_refusal}
use Rattle.frame.proofs.FirstNo as refusal
use Rattle.solve.specs.declared.Solved.{Solved}
use Rattle.solve.specs.Elimination.{Matrix, Row, going, none, column, eliminated, substituted}
use Rattle.solve.specs.Answer.{refused, answer_of, solved_of}
use Rattle.solve.proofs.Column.{none_stays}

module _ (a : Matrix) (b : Row) (order r : ℕ) (e : r ≡ order_refusal order) where
  pub refused-is : (r ≡ 0 → ⊥) → refused r ≡ solved_of a b order
  unfolding solved_of
  refused-is h = rw (← e) (sym (refusal.refused r _ _ h))

  module _ (z : r ≡ 0) where
    pub accepted-is : answer_of order (eliminated order (record { matrix = a; right = b })) ≡ solved_of a b order
    unfolding solved_of
    accepted-is = sym (refusal.granted (order_refusal order) _ _ (sym e ∙ z))

    -- a pivot was too small before column k
    pub none_is : (k : ℕ) → Turned (column order) 0 order (going (record { matrix = a; right = b })) k none → refused 0 ≡ solved_of a b order
    unfolding eliminated answer_of
    none_is k h =
        ap (answer_of order) (sym (loop-fixed 0 k order (column order) _ none (none_stays order) h.first h.count (sym h.state))) ∙ accepted-is

    -- every column was cleared
    pub found-is : (m : Matrix) (d x : Row)
        → going (record { matrix = m; right = d }) ≡ loop 0 order (column order) (going (record { matrix = a; right = b }))
        → x ≡ substituted order (record { matrix = m; right = d })
        → ◌≡◌ {A = Solved} (record { refusal = 0; found = true; solution = record { order = order; values = x } }) (solved_of a b order)
    unfolding eliminated answer_of
    found-is m d x l h = rw h (ap (answer_of order) l ∙ accepted-is)
