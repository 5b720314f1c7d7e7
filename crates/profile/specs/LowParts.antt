-- A lone plane and its copy, and a part of both: question 6 is asked of each part, and answers for the plane.
use Rattle.std.specs.Prelude.{◌≡◌, cond, Option, Some, None, List, [], ◌∷◌, ℕ, ◌≤◌, length}
use Rattle.frame.specs.Questions.{all_low}

-- two lists of one length, at most `most`, and a depth
pub record Copied (most depth : ℕ) (source denoised : List ℕ) : Type 0 where
  pub same : length source ≡ length denoised
  pub few : length source ≤ most
  pub least-depth : 8 ≤ depth
  pub most-depth : depth ≤ 12

-- question 6 is answered of both: where the answer is yes, by a sum
abbrev pub LowThen : Option ℕ → ℕ → List ℕ → List ℕ → ℕ → Type 0
LowThen answer depth source denoised sum = answer ≡ cond (all_low depth (source ∷ denoised ∷ [])) (Some sum) None
