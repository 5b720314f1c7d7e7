-- "* Lag 1 order: (−1,−1) (−1,0) (−1,1) (0,−1)." "Lag 4: 7."
use Rattle.std.specs.Prelude.{List, [], ◌∷◌, ℕ, pos, negsuc}
use Rattle.positions.specs.Positions.{Offset, refused}
use Rattle.positions.specs.declared.Positions.{Positions}
use Rattle.table.specs.Cases.{Case, row}

-- a lag and its neighbours
abbrev pub orders : List (Case ℕ (List Offset))
orders =
    row 0 [] ∷
    row 1 ((negsuc 0, negsuc 0) ∷ (negsuc 0, pos 0) ∷ (negsuc 0, pos 1) ∷ (pos 0, negsuc 0) ∷ []) ∷ []

abbrev pub refusals : List (Case ℕ Positions)
refusals = row 4 (refused 7) ∷ []
