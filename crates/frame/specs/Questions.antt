-- "A call is asked, in this order, only about things it receives." A question is its answer, with the number that a refusal gives.
use Rattle.std.specs.Prelude.{Bool, true, cond, ◌&&◌, ◌||◌, List, [], ◌∷◌, ℕ, zero, suc, ◌+◌, ◌*◌, ◌%◌, ◌^◌, leb, ltb, eqb}
use Rattle.laws.specs.Limits.{side_limit, lag_limit, order_limit}
use Rattle.frame.specs.Planes.{samples_of}
use Rattle.frame.specs.declared.Shape.{Shape}
use Rattle.frame.specs.declared.view.Component.TheVariants.{Y, CbCr}

abbrev pub Question : Type 0
Question = Bool × ℕ

-- the number of the first question whose answer is no; 0 where there is none
abbrev pub first_no : List Question → ℕ
first_no [] = 0
first_no ((answer, n) ∷ qs) = cond answer (first_no qs) n

-- what a destination holds after a call that answers this number: the new contents where it is accepted, the old where it is refused
abbrev pub accepted {ℓ} : {A : Type ℓ} → ℕ → A → A → A
accepted zero new old = new
accepted (suc n) new old = old

-- every length is n
unfoldable pub each : ℕ → List ℕ → Bool
each n [] = true
each n (l ∷ ls) = eqb l n && each n ls

-- every sample of a plane is below 2^depth, and so in every plane of a list
unfoldable pub low : ℕ → List ℕ → Bool
low depth [] = true
low depth (x ∷ xs) = ltb x (2 ^ depth) && low depth xs

unfoldable pub all_low : ℕ → List (List ℕ) → Bool
all_low depth [] = true
all_low depth (p ∷ ps) = low depth p && all_low depth ps

-- ---- the questions

-- Are width and height each at most 4,096? No: 1.
abbrev pub small : ℕ → ℕ → Question
small w h = (leb w side_limit && leb h side_limit, 1)

-- In a frame call (profile, fit, chroma correlation, gate, frame denoise), are both at least 1? No: 2.
abbrev pub present : ℕ → ℕ → Question
present w h = (leb 1 w && leb 1 h, 2)

-- Is the depth 8, 10 or 12? No: 3.
abbrev pub depth_known : ℕ → Question
depth_known depth = (eqb depth 8 || (eqb depth 10 || eqb depth 12), 3)

-- Is the format 0 to 3? No: 4.
abbrev pub format_known : ℕ → Question
format_known format = (leb format 3, 4)

-- Is the active rectangle not empty, does it end within the frame, and does it start at an even place in a direction that the format halves (both for 1, across for 2, none for 0 and 3)? No: 12. Along one direction, and along both.
abbrev pub is_part : Bool → ℕ → ℕ → ℕ → Bool
is_part halved start size side = leb 1 size && (leb (start + size) side && cond halved (eqb (start % 2) 0) true)

abbrev pub halves_across : ℕ → Bool
halves_across format = eqb format 1 || eqb format 2

abbrev pub halves_down : ℕ → Bool
halves_down format = eqb format 1

abbrev pub active_inside : Shape → Question
active_inside s = (
  is_part (halves_across s.format) s.active.left s.active.width s.width &&
      is_part (halves_down s.format) s.active.top s.active.height s.height,
  12,
)

-- Has every lent plane, destinations included, exactly its number of samples? No: 5. Of planes of one size; and of the luma and the chroma planes of a frame. A plane stands by its length.
abbrev pub filled : ℕ → ℕ → List ℕ → Question
filled w h planes = (each (w * h) planes, 5)

abbrev pub frame_filled : Shape → List ℕ → List ℕ → Question
frame_filled s luma chroma = (each (samples_of s Y) luma && each (samples_of s CbCr) chroma, 5)

-- In a call with a depth, is every source and denoised sample below 2^depth? No: 6.
abbrev pub samples_low : ℕ → List (List ℕ) → Question
samples_low depth planes = (all_low depth planes, 6)

-- Is a fit's lag at most 3? No: 7.
abbrev pub lag_known : ℕ → Question
lag_known lag = (leb lag lag_limit, 7)

-- Is the solver's order 1 to 25? No: 8.
abbrev pub order_known : ℕ → Question
order_known order = (leb 1 order && leb order order_limit, 8)

-- Is the register asked for at most 16 bits? No: 9.
abbrev pub bits_known : ℕ → Question
bits_known bits = (leb bits 16, 9)
