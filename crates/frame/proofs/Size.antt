-- Chroma is no larger than luma, and a plane whose sides are at most a limit has at most its square of samples. Assumes nothing.
use mathlib.Core.Path.{◌≡◌}
use mathlib.Core.Bool.{Bool, true, false, cond}
use Prim.Native.Nat.{ℕ, ◌+◌, ◌*◌, ◌≤◌}
use native.Mathlib.Nat.{le_trans, mul-le-mul, add-le-add, lt_of_le_of_lt}
use native.Mathlib.Omega.{arith}
use lib.Dec.{eqb, leb, lit<}
use mir.Syntax.{w64}
use mir.Val.{Fits}
use Rattle.laws.specs.Limits.{side_limit}
use Rattle.frame.specs.Size.{chroma_width, chroma_height}
use Rattle.frame.specs.Planes.{columns_of, rows_of, width_of, height_of, active_of}
use Rattle.frame.specs.Inside.{Inside}
use Rattle.frame.specs.declared.Shape.{Shape}
use Rattle.frame.specs.declared.view.Component.{Component}
use Rattle.frame.specs.declared.view.Component.TheVariants.{Y, CbCr}

cond-le : (b : Bool) {x y l : ℕ} → x ≤ l → y ≤ l → cond b x y ≤ l
cond-le true p q = p
cond-le false p q = q

pub chroma-width-le : (f w : ℕ) → chroma_width f w ≤ w
unfolding chroma_width
chroma-width-le f w = cond-le (eqb f 0) (omega arith) (cond-le (leb f 2) (omega arith) (omega arith))

pub chroma-height-le : (f h : ℕ) → chroma_height f h ≤ h
unfolding chroma_height
chroma-height-le f h = cond-le (eqb f 0) (omega arith) (cond-le (eqb f 1) (omega arith) (omega arith))

-- a plane whose sides are at most a limit
pub area-le : (l : ℕ) {w h : ℕ} → w ≤ l → h ≤ l → w * h ≤ l * l
area-le l p q = mul-le-mul p q

pub area-fits : {w h : ℕ} → w ≤ side_limit → h ≤ side_limit → Fits w64 (w * h)
area-fits p q = record { fits = lt_of_le_of_lt (area-le side_limit p q) (lit< tt) }

-- no plane has more columns or rows than luma
pub columns-le : (format : ℕ) (component : Component) {x l : ℕ} → x ≤ l → columns_of format component x ≤ l
columns-le format Y h = h
columns-le format CbCr {x} h = le_trans (chroma-width-le format x) h

pub rows-le : (format : ℕ) (component : Component) {x l : ℕ} → x ≤ l → rows_of format component x ≤ l
rows-le format Y h = h
rows-le format CbCr {x} h = le_trans (chroma-height-le format x) h

-- the samples of a frame's plane
pub samples_fit : (s : Shape) (component : Component) {w h : ℕ} → (s.width ≤ side_limit) × (s.height ≤ side_limit) → w ≡ width_of s component → h ≡ height_of s component → Fits w64 (w * h)
samples_fit s component l a b = rw (a, b) (area-fits (columns-le s.format component l.0) (rows-le s.format component l.1))

-- where the active rectangle begins in a plane: its row, and its place
row-le : (s : Shape) (component : Component) → Inside s → (active_of s component).top * width_of s component ≤ side_limit * side_limit
row-le s component h = let l : s.active.top ≤ side_limit = omega (arith, h.down, h.high) in area-le side_limit (rows-le s.format component l) (columns-le s.format component h.wide)

pub row_fits : (s : Shape) (component : Component) {top step : ℕ} → Inside s → top ≡ (active_of s component).top → step ≡ width_of s component → Fits w64 (top * step)
row_fits s component h a b = rw (a, b) (record { fits = lt_of_le_of_lt (row-le s component h) (lit< tt) })

-- its place, of any row's length
pub start_fits : {w top left : ℕ} → w ≤ side_limit → top ≤ side_limit → left ≤ side_limit → Fits w64 (top * w + left)
start_fits {w} {top} {left} a b c = record { fits = lt_of_le_of_lt (add-le-add (area-le side_limit b a) c) (lit< tt) }

pub active_fits : (s : Shape) (component : Component) {top step left : ℕ} → Inside s → top ≡ (active_of s component).top → step ≡ width_of s component → left ≡ (active_of s component).left
    → Fits w64 (top * step + left)
active_fits s component h a b c =
    let t : s.active.top ≤ side_limit = omega (arith, h.down, h.high) in
    let l : s.active.left ≤ side_limit = omega (arith, h.across, h.wide) in
    rw (a, b, c) (start_fits (columns-le s.format component h.wide) (rows-le s.format component t) (columns-le s.format component l))
