-- "Of the starred cases we want proof about the definitions, as rows of a table under a common statement." A row is an input with the result that is stated for it.
use Rattle.std.specs.Prelude.{◌≡◌, List, [], ◌∷◌}

pub record Case (A B : Type 0) : Type 0 where
  pub input : A
  pub stated : B

abbrev pub row : {A B : Type 0} → A → B → Case A B
row input stated = record { input = input; stated = stated }

-- f gives the stated result at every row
abbrev pub Right : {A B : Type 0} → (A → B) → List (Case A B) → Type 0
Right f [] = Unit {0}
Right f (c ∷ cs) = (f c.input ≡ c.stated) × Right f cs
