-- "No number is given for another cause": an answer is the number of a question answered no, after questions answered yes, and such a question gives its number. By induction over the questions. Assumes nothing.
use mathlib.Core.Path.{◌≡◌, refl}
use mathlib.Core.Bool.{true, false}
use mathlib.Core.List.{List, [], ◌∷◌, ◌++◌}
use Prim.Native.Nat.{ℕ}
use Rattle.frame.specs.Questions.{Question, first_no}
use Rattle.frame.specs.Cause.{Passed, FirstNo}

pub cause : (qs : List Question) → (first_no qs ≡ 0 → ⊥) → FirstNo qs (first_no qs)
cause [] h = absurd (h refl)
cause ((true, n) ∷ qs) h =
    let f = cause qs h in
    record { before = (true, n) ∷ f.before; after = f.after; split = rw (← f.split); passes = (refl, f.passes) }
cause ((false, n) ∷ qs) h = record { before = []; after = qs; split = refl; passes = tt }

passes_on : (before after : List Question) (n : ℕ) → Passed before → first_no (before ++ ((false, n) ∷ after)) ≡ n
passes_on [] after n h = refl
passes_on ((b, k) ∷ before) after n h = rw h.0 (passes_on before after n h.1)

pub caused : (qs : List Question) (n : ℕ) → FirstNo qs n → first_no qs ≡ n
caused qs n f = rw f.split (passes_on f.before f.after n f.passes)
