-- "Luma gate, width 4, height 1, 8 bits: noise 1,1,1,1 gives no (3/4). Noise 1,1,1,−1 then 1,−1,1,1: yes.
-- Width 10, height 1: noise 1,1,−1,−1,1,1,−1,−1,1,1, second frame with 3 signs turned: 4/10, no; with 4 turned: yes."
-- "Comparing 25×cross² with 4×e0×e1: near 0.4 the rounded test may say otherwise."
use Rattle.std.specs.Prelude.{List, [], ◌∷◌, map, ℕ, suc, ◌*◌, Bool, true, false, ltb, ℤ, pos, negsuc, neg_ℤ, nat_abs, ◌*ℤ◌, length, get_or, Float}
use Rattle.std.specs.Float.{fin, binary64}
use Rattle.std.specs.Float.Ieee.{of_int}
use Rattle.laws.specs.Sums.{sum_to}
use Rattle.noise.specs.Noise.{Pair, pair}
use Rattle.table.specs.Cases.{Case, row}
use Rattle.table.specs.Questions.{at, within}
use Rattle.frame.specs.Planes.{whole_frame}
use Rattle.frame.specs.declared.Rectangle.{Rectangle}
use Rattle.frame.specs.declared.Shape.{Shape}
use Rattle.profile.specs.Steps.{plane_sigma16}
use Rattle.gate.specs.RowCorrelation.{row_correlation}
use Rattle.gate.specs.Tests.{time_test}
use Rattle.gate.specs.Answers.{luma_answer, chroma_answer}
use Rattle.gate.specs.declared.Gate.{Gate}

-- samples with this noise
abbrev source : ℤ → ℕ
source (pos n) = n
source (negsuc n) = 0

abbrev denoised : ℤ → ℕ
denoised (pos n) = 0
denoised (negsuc n) = suc n

-- planes of one row
abbrev height : ℕ
height = 1

abbrev plane : List ℤ → Pair
plane noise = pair (map source noise) (map denoised noise) (length noise) height

pub record Frames : Type 0 where
  pub first : List ℤ
  pub second : List ℤ

-- 1 and −1
abbrev plus : ℤ
plus = pos 1

abbrev minus : ℤ
minus = negsuc 0

-- 4:4:4
abbrev shape : ℕ → Frames → Shape
shape depth f = whole_frame (length f.first) height depth 3

abbrev sigma16 : Frames → ℕ
sigma16 f = plane_sigma16 0 (plane f.first).source (plane f.first).denoised

abbrev luma : Shape → Frames → Gate
luma s f =
    let p = plane f.first in
    let q = plane f.second in
    luma_answer s p.source p.denoised q.source q.denoised

abbrev chroma : Shape → Frames → ℕ → Gate
chroma s f sigma16 =
    let p = plane f.first in
    let q = plane f.second in
    chroma_answer s p.source p.denoised q.source q.denoised sigma16

-- 8 bits
abbrev pub luma_found : Frames → Gate
luma_found f = luma (shape 8 f) f

-- handed luma's sigma16
abbrev pub chroma_found : Frames → Gate
chroma_found f = chroma (shape 8 f) f (sigma16 f)

abbrev yes : Gate
yes = record { refusal = 0; yes = true }

abbrev no : Gate
no = record { refusal = 0; yes = false }

abbrev ten : List ℤ
ten = plus ∷ plus ∷ minus ∷ minus ∷ plus ∷ plus ∷ minus ∷ minus ∷ plus ∷ plus ∷ []

abbrev pub cases : List (Case Frames Gate)
cases =
    row (record { first = plus ∷ plus ∷ plus ∷ plus ∷ []; second = plus ∷ plus ∷ plus ∷ plus ∷ [] }) no ∷
    row (record { first = plus ∷ plus ∷ plus ∷ minus ∷ []; second = plus ∷ minus ∷ plus ∷ plus ∷ [] }) yes ∷
    row (record { first = ten; second = minus ∷ minus ∷ plus ∷ minus ∷ plus ∷ plus ∷ minus ∷ minus ∷ plus ∷ plus ∷ [] }) no ∷
    row (record { first = ten; second = minus ∷ minus ∷ plus ∷ plus ∷ plus ∷ plus ∷ minus ∷ minus ∷ plus ∷ plus ∷ [] }) yes ∷ []

-- ---- in an active rectangle: both gates, chroma's handed 16
abbrev pub active_found : Rectangle × Frames → Gate × Gate
active_found (active, f) =
    let s = within (length f.first) height 3 active in
    (luma s f, chroma s f 16)

-- the second row above, between columns that stand still: no in the whole frame, yes inside
abbrev still : Frames
still = record {
  first = pos 9 ∷ plus ∷ plus ∷ plus ∷ minus ∷ pos 9 ∷ [];
  second = pos 9 ∷ plus ∷ minus ∷ plus ∷ plus ∷ pos 9 ∷ [];
}

abbrev pub active_cases : List (Case (Rectangle × Frames) (Gate × Gate))
active_cases =
    row (at 0 0 6 1, still) (no, no) ∷
    row (at 1 0 4 1, still) (yes, yes) ∷ []

-- the row correlation at lag 1: 3/4, 1/4, and a plane that is as wide as the lag
abbrev pub row_found : List ℤ → Float
row_found noise = row_correlation (plane noise) 1

abbrev pub row_cases : List (Case (List ℤ) Float)
row_cases =
    row (plus ∷ plus ∷ plus ∷ plus ∷ []) (fin false 3 (negsuc 1)) ∷
    row (plus ∷ plus ∷ plus ∷ minus ∷ []) (fin false 1 (negsuc 1)) ∷
    row (plus ∷ []) (fin false 0 (pos 0)) ∷ []

-- ---- the temporal test, and the comparison of squares that it is not
pub record Sums : Type 0 where
  pub cross : ℕ
  pub e₀ : ℕ
  pub e₁ : ℕ

abbrev squares_below : Sums → Bool
squares_below s = ltb (25 * (s.cross * s.cross)) (4 * (s.e₀ * s.e₁))

-- 25×cross² is below 4×e0×e1; the test passes
abbrev pub tests : Sums → Bool × Bool
tests s = (squares_below s, time_test (of_int binary64 (pos s.cross)) (of_int binary64 (pos s.e₀)) (of_int binary64 (pos s.e₁)))

abbrev pub test_cases : List (Case Sums (Bool × Bool))
test_cases =
    row (record { cross = 40000002; e₀ = 1258; e₁ = 7949126391097 }) (true, false) ∷
    row (record { cross = 27034772; e₀ = 67974517; e₁ = 67201553 }) (true, false) ∷
    row (record { cross = 39; e₀ = 100; e₁ = 100 }) (true, true) ∷
    row (record { cross = 40; e₀ = 100; e₁ = 100 }) (false, false) ∷ []

-- two frames of 12 bits, by their exact sums and by the gate
abbrev exact_dot : List ℤ → List ℤ → ℕ
exact_dot a b = nat_abs (sum_to (λ i. get_or a i (pos 0) *ℤ get_or b i (pos 0)) (length a))

abbrev pub near_found : Frames → Bool × Gate
near_found f =
    (squares_below (record { cross = exact_dot f.first f.second; e₀ = exact_dot f.first f.first; e₁ = exact_dot f.second f.second }), luma (shape 12 f) f)

-- their sums are those of the second row above
abbrev pub near_cases : List (Case Frames (Bool × Gate))
near_cases =
    row (record {
      first = neg_ℤ (pos 3132) ∷ neg_ℤ (pos 2989) ∷ pos 2584 ∷ pos 4071 ∷ neg_ℤ (pos 3793) ∷ neg_ℤ (pos 3405) ∷ pos 1 ∷ pos 0 ∷ pos 0 ∷ pos 0 ∷ pos 0 ∷ [];
      second = neg_ℤ (pos 1170) ∷ neg_ℤ (pos 1369) ∷ pos 769 ∷ pos 1263 ∷ neg_ℤ (pos 1729) ∷ neg_ℤ (pos 1642) ∷ pos 515 ∷ pos 3410 ∷ pos 4080 ∷ pos 3806 ∷ pos 3614 ∷ [];
    }) (true, no) ∷ []
