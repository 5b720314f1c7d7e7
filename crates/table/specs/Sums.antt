-- "The f64 sum is plus zero where the exact sum is 0, so also over no positions." And past 2 ^ 53 the order counts: the law of sums needs its limit.
use Rattle.std.specs.Prelude.{false, List, [], ◌∷◌, ◌^◌, pos, negsuc, Float}
use Rattle.std.specs.Float.{fin}
use Rattle.table.specs.Cases.{Case, row}
use Rattle.laws.specs.Scaled.{plus_zero, of_scaled}

abbrev pub sum_cases : List (Case (List Float) Float)
sum_cases =
    row [] plus_zero
    ∷ row (of_scaled 4 (pos 3) ∷ of_scaled 4 (negsuc 2) ∷ []) plus_zero
    ∷ row (of_scaled 0 (pos (2 ^ 53)) ∷ of_scaled 0 (pos 9) ∷ of_scaled 0 (pos 5) ∷ []) (fin false 2251799813685251 (pos 2))
    ∷ row (of_scaled 0 (pos 9) ∷ of_scaled 0 (pos 5) ∷ of_scaled 0 (pos (2 ^ 53)) ∷ []) (fin false 4503599627370503 (pos 1))
    ∷ []
