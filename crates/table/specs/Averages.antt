-- "Chroma correlation, 4:2:0, width 3, height 1, luma noise 0,4,8, ..: averages 2 and 8". Then a last line that is repeated, and each format on a plane of 4 × 4.
use Rattle.std.specs.Prelude.{false, true, List, [], ◌∷◌, ℕ, ℤ, pos, negsuc, replicate, Float}
use Rattle.std.specs.Float.{fin}
use Rattle.table.specs.Cases.{Case, row}
use Rattle.laws.specs.Window.{Place}
use Rattle.frame.specs.Size.{sub_x, sub_y}
use Rattle.noise.specs.Noise.{Pair, pair}
use Rattle.noise.specs.Average.{Luma, average_f, quarters}

-- the average at a chroma place, in f64 and in quarters
abbrev pub average_at : Luma × Place → Float × ℤ
average_at (luma, (r, c)) = (average_f luma r c, quarters luma r c)

-- a plane denoised to its copy, in a format
abbrev in_format : ℕ → Pair → Luma
in_format format plane = record { plane = plane; sampling = record { across = sub_x format; down = sub_y format } }

abbrev pub line : Luma
line = in_format 1 (pair (0 ∷ 4 ∷ 8 ∷ []) (0 ∷ 0 ∷ 0 ∷ []) 3 1)

abbrev pub column : Luma
column = in_format 1 (pair (1 ∷ 2 ∷ 0 ∷ []) (0 ∷ 0 ∷ 7 ∷ []) 1 3)

abbrev pub block : ℕ → Luma
block format = in_format format (pair (0 ∷ 4 ∷ 8 ∷ 1 ∷ 2 ∷ 3 ∷ 5 ∷ 6 ∷ 7 ∷ 9 ∷ 1 ∷ 2 ∷ 4 ∷ 0 ∷ 3 ∷ 5 ∷ []) (replicate 16 0) 4 4)

abbrev pub cases : List (Case (Luma × Place) (Float × ℤ))
cases =
    row (line, (0, 0)) (fin false 1 (pos 1), pos 8)
    ∷ row (line, (0, 1)) (fin false 1 (pos 3), pos 32)
    ∷ row (column, (0, 0)) (fin false 3 (negsuc 0), pos 6)
    ∷ row (column, (1, 0)) (fin true 7 (pos 0), negsuc 27)
    ∷ row (block 1, (0, 0)) (fin false 9 (negsuc 1), pos 9)
    ∷ row (block 1, (0, 1)) (fin false 5 (pos 0), pos 20)
    ∷ row (block 1, (1, 0)) (fin false 5 (pos 0), pos 20)
    ∷ row (block 1, (1, 1)) (fin false 11 (negsuc 1), pos 11)
    ∷ row (block 2, (1, 1)) (fin false 11 (negsuc 0), pos 22)
    ∷ row (block 3, (2, 1)) (fin false 9 (pos 0), pos 36)
    ∷ []
