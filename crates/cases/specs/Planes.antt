-- What is said of the planes of a recorded call.
use Rattle.std.specs.Prelude.{◌≡◌, ◌+◌, ◌≤◌, ◌⊎◌, ℕ, min}
use Rattle.cases.specs.declared.case.Case.{Case}
use Rattle.cases.specs.declared.plane.Size.{Size}
use Rattle.cases.specs.declared.plane.Size.TheVariants.{Luma, Chroma}
use Rattle.cases.specs.declared.plane.PairNumber.{PairNumber}
use Rattle.cases.specs.declared.plane.PairNumber.TheVariants.{First, Second, Third}
use Rattle.cases.specs.declared.plane.Plane.{Plane}
use Rattle.cases.specs.declared.plane.Plane.TheVariants.{Source, Denoised}
use Rattle.cases.specs.declared.plane.Layout.{Layout}
use Rattle.cases.specs.declared.plane.Layout.TheVariants.{Frame, Lumas, Chromas}

-- a depth that a line names, 16 where a call takes none
abbrev pub IsDepth : ℕ → Type 0
IsDepth depth = (depth ≡ 8) ⊎ (depth ≡ 10) ⊎ (depth ≡ 12) ⊎ (depth ≡ 16)

-- the samples that the shape asks for
abbrev pub samples_of : Case → Size → ℕ
samples_of c Luma = c.luma
samples_of c Chroma = c.chroma

-- as many as a plane's room holds
abbrev pub room_of : Case → Size → ℕ
room_of c size = min (samples_of c size) 8256

-- n is a count, or one less, or one more
abbrev pub IsWithinOne : ℕ → ℕ → Type 0
IsWithinOne count n = (n ≤ count + 1) × (count ≤ n + 1)

abbrev pub pair_of : Plane → PairNumber
pair_of (Source pair) = pair
pair_of (Denoised pair) = pair

-- which size the planes of a pair have
abbrev pub size_of : Layout → PairNumber → Size
size_of Frame First = Luma
size_of Frame Second = Chroma
size_of Frame Third = Chroma
size_of Lumas First = Luma
size_of Lumas Second = Luma
size_of Lumas Third = Chroma
size_of Chromas pair = Chroma
