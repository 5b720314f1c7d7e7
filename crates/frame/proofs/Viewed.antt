-- A view's samples, by row and column: they alone tell what it shows, and are low where the plane's are; and the view of a whole plane is the plane. By the laws of `tabulate`, and of quotient and remainder. Assumes nothing.
use mathlib.Core.Path.{◌≡◌, sym, ap, ◌∙◌}
use mathlib.Core.Bool.{true}
use mathlib.Core.List.{List}
use Prim.Native.Nat.{ℕ, zero, suc, ◌+◌, ◌*◌, ◌/◌, ◌%◌, ◌^◌, ◌<◌}
use native.Mathlib.Nat.{le_of_eq, lt_of_lt_of_le, not-suc-le-zero, mul_comm, zero-mul, div-lt_iff_lt-mul, div-add-mod', mod-lt}
use native.Mathlib.Omega.{arith}
use lib.Arith.{digits_lt, digits_div, digits_mod}
use lib.ListN.{length, get_or}
use lib.Seq.{ext_get_or}
use Rattle.laws.proofs.Table.{length-tabulate, get_d_tabulate, tabulate-same}
use Rattle.frame.specs.View.{place_at, viewed, whole, part}
use Rattle.frame.specs.Questions.{low}
use Rattle.frame.specs.declared.view.View.{View}
use Rattle.frame.proofs.Samples.{below-low}

pub viewed-length : (v : View) (plane : List ℕ) → length (viewed v plane) ≡ v.width * v.height
unfolding viewed
viewed-length v plane = length-tabulate _ _

-- the sample at row r and column c
pub viewed-at : (v : View) (plane : List ℕ) (r c : ℕ) → r < v.height → c < v.width → get_or (viewed v plane) (r * v.width + c) 0 ≡ get_or plane (place_at v r c) 0
unfolding viewed
viewed-at v plane r c l m =
    get_d_tabulate _ _ _ 0 (lt_of_lt_of_le (digits_lt l m) (le_of_eq (mul_comm v.height v.width)))
    ∙ ap (λ (n : ℕ). get_or plane n 0) (λ i. place_at v (digits_div r m i) (digits_mod r m i))

-- the row and the column of place i of what is shown
pub row-column : (w h i : ℕ) → i < w * h → (i / w < h) × (i % w < w)
row-column zero h i l = absurd (not-suc-le-zero (lt_of_lt_of_le l (le_of_eq (zero-mul h))))
row-column (suc w) h i l = let wide : 0 < suc w = omega arith in ((div-lt_iff_lt-mul wide).1 (lt_of_lt_of_le l (le_of_eq (mul_comm (suc w) h))), mod-lt i wide)

-- planes that are the same where a view looks are the same to it
pub viewed-same : (v : View) (a b : List ℕ) → ((r c : ℕ) → r < v.height → c < v.width → get_or a (place_at v r c) 0 ≡ get_or b (place_at v r c) 0) → viewed v a ≡ viewed v b
unfolding viewed
viewed-same v a b e = tabulate-same _ _ _ (λ i l. let p = row-column v.width v.height i l in e (i / v.width) (i % v.width) p.0 p.1)

-- it shows no sample that is not the plane's
pub viewed-low : (v : View) (depth : ℕ) (plane : List ℕ) → ((i : ℕ) → get_or plane i 0 < 2 ^ depth) → low depth (viewed v plane) ≡ true
unfolding viewed
viewed-low v depth plane h =
    below-low depth (viewed v plane)
    (λ i l.
    let shown : get_or (viewed v plane) i 0 ≡ get_or plane (place_at v (i / v.width) (i % v.width)) 0 = get_d_tabulate _ _ i 0 (lt_of_lt_of_le l (le_of_eq (viewed-length v plane))) in
    rw shown (h _))

-- a rectangle that is all of a plane is the whole of it
pub part-whole : (w h : ℕ) {left top : ℕ} → left ≡ 0 → top ≡ 0 → part w (record { left = left; top = top; width = w; height = h }) ≡ whole w h
part-whole w h {left} {top} e f = let z : top * w + left ≡ 0 = rw (e, f) (simp zero-mul) in λ i. record { start = z i; step = w; stride = 1; width = w; height = h }

-- the view of a whole plane is the plane
pub viewed-whole : (w h : ℕ) (plane : List ℕ) → length plane ≡ w * h → viewed (whole w h) plane ≡ plane
unfolding viewed
viewed-whole w h plane e =
    ext_get_or 0 (viewed (whole w h) plane) plane (viewed-length (whole w h) plane ∙ sym e)
    (λ i l. get_d_tabulate _ _ i 0 (lt_of_lt_of_le l (le_of_eq (viewed-length (whole w h) plane))) ∙ ap (λ (n : ℕ). get_or plane n 0) (back i))
  where
    back : (i : ℕ) → 0 + i / w * w + i % w * 1 ≡ i
    back i = omega (arith, div-add-mod' i w)
