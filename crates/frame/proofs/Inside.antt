-- The active rectangle's part of a plane lies in the plane: along each direction its start and its size, halved or not, end where the plane does or before. And chroma's part lies over luma's: its first column and row are over luma's first. By the formats. Assumes nothing.
use mathlib.Core.Path.{◌≡◌, refl}
use mathlib.Core.Bool.{true, false}
use Prim.Native.Nat.{ℕ, zero, suc, ◌+◌, ◌*◌, ◌/◌, ◌%◌, ◌^◌, ◌≤◌}
use native.Mathlib.Nat.{not-suc-le-zero, mul-one}
use native.Mathlib.Omega.{arith}
use borrow.Author.Tests.{lt-leb, ne_eqb}
use lib.Dec.{leb, eqb}
use Rattle.frame.specs.Size.{chroma_width, chroma_height, sub_x, sub_y}
use Rattle.frame.specs.Questions.{halves_across, halves_down}
use Rattle.frame.specs.Planes.{columns_of, rows_of, width_of, height_of, active_of}
use Rattle.frame.specs.declared.Shape.{Shape}
use Rattle.frame.specs.declared.view.Component.{Component}
use Rattle.frame.specs.declared.view.Component.TheVariants.{Y, CbCr}
use Rattle.frame.proofs.Facts.{Part, Known}

halves : (start size side : ℕ) → start + size ≤ side → start % 2 ≡ 0 → (start + 1) / 2 + (size + 1) / 2 ≤ (side + 1) / 2
halves start size side l e = omega arith

columns-end : (format : ℕ) (component : Component) (start size side : ℕ) → Part (halves_across format) start size side
    → columns_of format component start + columns_of format component size ≤ columns_of format component side
unfolding chroma_width
columns-end format Y start size side p = p.ends
columns-end zero CbCr start size side p = omega arith
columns-end (suc zero) CbCr start size side p = halves start size side p.ends (p.even refl)
columns-end (suc (suc zero)) CbCr start size side p = halves start size side p.ends (p.even refl)
columns-end (suc (suc (suc n))) CbCr start size side p =
    let f = suc (suc (suc n)) in
    let a : eqb f 0 ≡ false = ne_eqb f 0 (λ e. omega arith) in
    let b : leb f 2 ≡ false = lt-leb f 2 (omega arith) in
    rw (a, b) p.ends

rows_end : (format : ℕ) (component : Component) (start size side : ℕ) → Part (halves_down format) start size side
    → rows_of format component start + rows_of format component size ≤ rows_of format component side
unfolding chroma_height
rows_end format Y start size side p = p.ends
rows_end zero CbCr start size side p = omega arith
rows_end (suc zero) CbCr start size side p = halves start size side p.ends (p.even refl)
rows_end (suc (suc n)) CbCr start size side p =
    let f = suc (suc n) in
    let a : eqb f 0 ≡ false = ne_eqb f 0 (λ e. omega arith) in
    let b : eqb f 1 ≡ false = ne_eqb f 1 (λ e. omega arith) in
    rw (a, b) p.ends

module _ (s : Shape) (component : Component) (k : Known s) where
  pub active-across : (active_of s component).left + (active_of s component).width ≤ width_of s component
  active-across = columns-end s.format component s.active.left s.active.width s.width k.across

  pub active-down : (active_of s component).top + (active_of s component).height ≤ height_of s component
  active-down = rows_end s.format component s.active.top s.active.height s.height k.down

-- ---- chroma over luma
even-half : (x : ℕ) → x % 2 ≡ 0 → (x + 1) / 2 * 2 ≡ x
even-half x e = omega arith

columns-over : (format start : ℕ) → 1 ≤ format → (halves_across format ≡ true → start % 2 ≡ 0) → chroma_width format start * 2 ^ sub_x format ≡ start
unfolding chroma_width
columns-over zero start f e = absurd (not-suc-le-zero f)
columns-over (suc zero) start f e = even-half start (e refl)
columns-over (suc (suc zero)) start f e = even-half start (e refl)
columns-over (suc (suc (suc n))) start f e =
    let f = suc (suc (suc n)) in
    let a : eqb f 0 ≡ false = ne_eqb f 0 (λ e. omega arith) in
    let b : leb f 2 ≡ false = lt-leb f 2 (omega arith) in
    rw (a, b) (mul-one start)

rows-over : (format start : ℕ) → 1 ≤ format → (halves_down format ≡ true → start % 2 ≡ 0) → chroma_height format start * 2 ^ sub_y format ≡ start
unfolding chroma_height
rows-over zero start f e = absurd (not-suc-le-zero f)
rows-over (suc zero) start f e = even-half start (e refl)
rows-over (suc (suc n)) start f e =
    let f = suc (suc n) in
    let a : eqb f 0 ≡ false = ne_eqb f 0 (λ e. omega arith) in
    let b : eqb f 1 ≡ false = ne_eqb f 1 (λ e. omega arith) in
    let c : leb f 1 ≡ false = lt-leb f 1 (omega arith) in
    rw (a, b, c) (mul-one start)

pub chroma-over : (s : Shape) → Known s → 1 ≤ s.format
    → ((active_of s CbCr).left * 2 ^ sub_x s.format ≡ s.active.left) × ((active_of s CbCr).top * 2 ^ sub_y s.format ≡ s.active.top)
chroma-over s k f = (columns-over s.format s.active.left f k.across.even, rows-over s.format s.active.top f k.down.even)
