-- "Denoise 1×1 [7]: [7]. Width 2, height 1 [0,16]: [4,12]. 3×3, centre 16, rest 0: 1 2 1 2 4 2 1 2 1."
use Rattle.std.specs.Prelude.{List, [], ◌∷◌, ℕ}
use Rattle.table.specs.Cases.{Case, row}
use Rattle.denoise.specs.Denoise.{denoised}

pub record Plane : Type 0 where
  pub width : ℕ
  pub height : ℕ
  pub samples : List ℕ

abbrev pub denoised_plane : Plane → List ℕ
denoised_plane p = denoised p.samples p.width p.height

abbrev pub cases : List (Case Plane (List ℕ))
cases =
    row (record { width = 1; height = 1; samples = 7 ∷ [] }) (7 ∷ []) ∷
    row (record { width = 2; height = 1; samples = 0 ∷ 16 ∷ [] }) (4 ∷ 12 ∷ []) ∷
    record {
      input = record { width = 3; height = 3; samples = 0 ∷ 0 ∷ 0 ∷ 0 ∷ 16 ∷ 0 ∷ 0 ∷ 0 ∷ 0 ∷ [] };
      stated = 1 ∷ 2 ∷ 1 ∷ 2 ∷ 4 ∷ 2 ∷ 1 ∷ 2 ∷ 1 ∷ [];
    } ∷ []
