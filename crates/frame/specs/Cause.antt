-- "Any other call returns the number of the first question failed"; "No number is given for another cause."
use Rattle.std.specs.Prelude.{◌≡◌, true, false, List, [], ◌∷◌, ◌++◌, ℕ}
use Rattle.frame.specs.Questions.{Question}

-- all answers are yes
abbrev pub Passed : List Question → Type 0
Passed [] = Unit {0}
Passed ((b, n) ∷ qs) = (b ≡ true) × Passed qs

-- the number is that of a question answered no, and those before it are answered yes
pub record FirstNo (qs : List Question) (n : ℕ) : Type 0 where
  pub before : List Question
  pub after : List Question
  pub split : qs ≡ before ++ ((false, n) ∷ after)
  pub passes : Passed before
