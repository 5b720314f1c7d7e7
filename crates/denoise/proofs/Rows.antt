-- Rows of a plane: where they lie, what they hold; and a destination that is filled row by row. Assumes nothing.
use mathlib.Core.Path.{◌≡◌, refl, ◌∙◌}
use mathlib.Core.List.{List, ◌++◌}
use Prim.Native.Nat.{ℕ, ◌+◌, ◌*◌, ◌/◌, ◌%◌, ◌<◌, ◌≤◌}
use native.Mathlib.Nat.{mul_comm, zero-mul, suc-mul, mul-le-mul_right}
use native.Mathlib.Numerals.{add-one}
use native.Mathlib.Omega.{arith}
use lib.Arith.{digits_div, digits_mod}
use lib.ListN.{length, get_or, take}
use Rattle.laws.specs.Table.{tabulate}
use Rattle.laws.proofs.Table.{tabulate-same, tabulate-at, tabulate-whole, tabulate-ends}
use Rattle.laws.proofs.Parts.{get_d_part, tabulate-part}
use Rattle.denoise.specs.Denoise.{sample_at, smoothed, denoised}
use Rattle.denoise.specs.Line.{row_of}

pub row_within : (w h r : ℕ) → r < h → r * w + w ≤ w * h
row_within w h r l = rw (← suc-mul r w, mul_comm w h) (mul-le-mul_right w l)

pub row_at : (s : List ℕ) (w r c : ℕ) → c < w → get_or (row_of s w r) c 0 ≡ sample_at s w r c
row_at s w r c l = get_d_part s (r * w) w c 0 l

-- entry i of the denoised plane
abbrev pub entry : List ℕ → ℕ → ℕ → ℕ → ℕ
entry s w h i = smoothed s w h (i / w) (i % w)

-- row r of the result is the plane's entries from r * w on
pub row-entries : (s : List ℕ) (w h r : ℕ) → tabulate w (smoothed s w h r) ≡ tabulate w (λ c. entry s w h (r * w + c))
row-entries s w h r = tabulate-same w _ _ (λ c l. rw (digits_div r l, digits_mod r l))

-- rows of no columns
pub rows_none : (s : List ℕ) (w h : ℕ) (d : List ℕ) → w ≡ 0 → length d ≡ w * h → d ≡ denoised s w h
unfolding denoised
rows_none s w h d e l = tabulate-ends d 0 (w * h) (entry s w h) l (omega arith) (rw (e, zero-mul) (omega arith)) refl

-- a row more
pub rows_more : (s : List ℕ) (w h r : ℕ) (d q rest : List ℕ) → r * w ≤ length d → take (r * w) d ≡ tabulate (r * w) (entry s w h) → q ≡ tabulate w (smoothed s w h r)
    → take ((r + 1) * w) (take (r * w) d ++ (q ++ rest)) ≡ tabulate ((r + 1) * w) (entry s w h)
rows_more s w h r d q rest l p e = rw (add-one, suc-mul) (tabulate-part d q rest (r * w) w (entry s w h) l p (e ∙ row-entries s w h r))

-- all rows
pub rows_all : (s : List ℕ) (w h r : ℕ) (d : List ℕ) → r ≤ h → h ≤ r → length d ≡ w * h → take (r * w) d ≡ tabulate (r * w) (entry s w h) → d ≡ denoised s w h
unfolding denoised
rows_all s w h r d a b l p = let e : r ≡ h = omega arith in tabulate-whole d (w * h) (entry s w h) l (tabulate-at d (entry s w h) (r * w) (w * h) (rw e (mul_comm h w)) p)
