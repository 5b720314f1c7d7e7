-- The formats and their chroma sizes are those of the specification. By cases on the format. Assumes nothing.
use mathlib.Core.Path.{◌≡◌, refl}
use mathlib.Core.Bool.{true}
use Prim.Native.Nat.{ℕ, zero, suc}
use native.Mathlib.Omega.{arith}
use borrow.Author.Tests.{leb-true}
use Rattle.frame.specs.Size.{chroma_width, chroma_height}
use Rattle.frame.specs.Size as scope
use Rattle.frame.specs.Text.{Format, monochrome, yuv420, yuv422, yuv444, sub_x, sub_y, columns, rows, number}
use Rattle.frame.specs.Questions.{format_known}

pub columns-are : (f : Format) (w : ℕ) → chroma_width (number f) w ≡ columns f w
unfolding chroma_width columns sub_x
columns-are monochrome w = refl
columns-are yuv420 w = refl
columns-are yuv422 w = refl
columns-are yuv444 w = omega arith

pub rows_are : (f : Format) (h : ℕ) → chroma_height (number f) h ≡ rows f h
unfolding chroma_height rows sub_y
rows_are monochrome h = refl
rows_are yuv420 h = refl
rows_are yuv422 h = omega arith
rows_are yuv444 h = omega arith

-- what a format halves
pub sub-x-is : (f : Format) → scope.sub_x (number f) ≡ sub_x f
unfolding sub_x
sub-x-is monochrome = refl
sub-x-is yuv420 = refl
sub-x-is yuv422 = refl
sub-x-is yuv444 = refl

pub sub-y-is : (f : Format) → scope.sub_y (number f) ≡ sub_y f
unfolding sub_y
sub-y-is monochrome = refl
sub-y-is yuv420 = refl
sub-y-is yuv422 = refl
sub-y-is yuv444 = refl

-- the syntax counts monochrome as 4:2:0
pub monochrome-counted : (sub_x monochrome ≡ sub_x yuv420) × (sub_y monochrome ≡ sub_y yuv420)
unfolding sub_x sub_y
monochrome-counted = (refl, refl)

-- the formats that question 4 passes are the four of the text
pub format-passes : (f : Format) → (format_known (number f)).0 ≡ true
format-passes monochrome = refl
format-passes yuv420 = refl
format-passes yuv422 = refl
format-passes yuv444 = refl

pub record Named (n : ℕ) : Type 0 where
  pub format : Format
  pub is : number format ≡ n

pub format-named : (n : ℕ) → (format_known n).0 ≡ true → Named n
format-named zero e = record { format = monochrome; is = refl }
format-named (suc zero) e = record { format = yuv420; is = refl }
format-named (suc (suc zero)) e = record { format = yuv422; is = refl }
format-named (suc (suc (suc zero))) e = record { format = yuv444; is = refl }
format-named (suc (suc (suc (suc n)))) e = absurd (omega (arith, leb-true (suc (suc (suc (suc n)))) 3 e))
