-- Chroma over luma: the size of an average, one at every place of a chroma plane, and what a fit's factors are limited by. Every frame that has a shape lies so. By the two cases of each direction, and by the formats. Assumes nothing.
use mathlib.Core.Path.{◌≡◌, refl, sym, ◌∙◌}
use mathlib.Core.Bool.{Bool, true, false, cond}
use mathlib.Core.List.{List}
use Prim.Native.Nat.{ℕ, zero, suc, ◌+◌, ◌*◌, ◌^◌, ◌≤◌, ◌<◌}
use native.Mathlib.Nat.{le_of_eq, lt_of_lt_of_le, not-suc-le-zero, div-one, add-zero}
use native.Mathlib.Omega.{arith}
use borrow.Author.Tests.{lt-leb, ne_eqb}
use lib.Dec.{leb, eqb, lit≤}
use lib.IntN.{nat_abs}
use Rattle.laws.specs.Limits.{plane_limit, sample_limit}
use Rattle.frame.specs.Size.{chroma_width, chroma_height, sub_x, sub_y, sampled}
use Rattle.frame.specs.View.{viewed}
use Rattle.frame.specs.Planes.{geometry_of}
use Rattle.frame.specs.declared.Shape.{Shape}
use Rattle.frame.specs.declared.view.View.{View}
use Rattle.frame.specs.declared.view.Geometry.{Geometry}
use Rattle.noise.specs.Lines.{noise_limit}
use Rattle.noise.specs.Seen.{seen, Seen, Over}
use Rattle.noise.specs.Average.{luma_seen, quarters}
use Rattle.noise.specs.Products.{average, Exists}
use Rattle.noise.specs.Claim.{Samples, Limited}
use Rattle.noise.specs.Steps.{InFit, tap}
use Rattle.noise.proofs.Halving.{bit, within}
use Rattle.noise.proofs.Averages.{quarters-le}
use Rattle.noise.proofs.Products.{plane-samples}
use Rattle.noise.proofs.Seen.{seen-plane}

-- what a view shows is within the claim's limit: of the noise of its places, these are the samples
pub seen-samples : {v : View} {source denoised : List ℕ} → Seen v source denoised → Samples plane_limit sample_limit (viewed v source) (viewed v denoised) (v.width * v.height)
seen-samples S = plane-samples _ _ _ _ S.narrow S.low (seen-plane S)

module _ {g : Geometry} (O : Over g) where
  -- a chroma place lies over luma
  column-in : {r c : ℕ} → r < g.chroma.height → c < g.chroma.width → c < sampled g.sampling.across g.luma.width
  column-in l m = lt_of_lt_of_le m (le_of_eq (O.columns (omega arith)))

  pub average-exists : (y y-denoised : List ℕ) (r c : ℕ) → r < g.chroma.height → c < g.chroma.width → Exists (average (luma_seen g y y-denoised)) (r, c)
  average-exists y y-denoised r c l m = (within g.sampling.down g.luma.height r (bit _ O.down) (O.rows r l), column-in l m)

  pub tap-over : (y y-denoised c c-denoised : List ℕ) (lag : ℕ) → InFit (seen g.chroma c c-denoised) lag (average (luma_seen g y y-denoised))
  tap-over y y-denoised c c-denoised lag = tap (luma_seen g y y-denoised) (average-exists y y-denoised)

  module _ {y y-denoised : List ℕ} (S : Seen g.luma y y-denoised) where
    pub luma-limited : Limited plane_limit sample_limit (average (luma_seen g y y-denoised))
    luma-limited = (seen-samples S, O.across, O.down)

    pub average-le : {r : ℕ} → r < g.chroma.height → (c : ℕ) → c < g.chroma.width → nat_abs (quarters (luma_seen g y y-denoised) r c) ≤ 4 * noise_limit
    average-le {r} l c m =
        quarters-le (luma_seen g y y-denoised) r
        (record { plane = seen-plane S; across = bit _ O.across; down = bit _ O.down; row = O.rows r l })
        c (column-in l m)

-- ---- of a shape
sub-le : (b : Bool) → cond b 1 0 ≤ 1
sub-le true = lit≤ tt
sub-le false = lit≤ tt

-- a chroma row begins at a luma row, and has its columns
lies : (format w h r : ℕ) → r < chroma_height format h → (r * 2 ^ sub_y format < h) × (chroma_width format w ≡ sampled (sub_x format) w)
unfolding chroma_width chroma_height
lies zero w h r l = absurd (not-suc-le-zero l)
lies (suc zero) w h r l = (omega arith, refl)
lies (suc (suc zero)) w h r l = (omega arith, refl)
lies (suc (suc (suc n))) w h r l =
    let f = suc (suc (suc n)) in
    let a : leb f 2 ≡ false = lt-leb f 2 (omega arith) in
    let b : leb f 1 ≡ false = lt-leb f 1 (omega arith) in
    let c : eqb f 0 ≡ false = ne_eqb f 0 (λ e. omega arith) in
    let d : eqb f 1 ≡ false = ne_eqb f 1 (λ e. omega arith) in
    let k : r < h = rw (c, d) at l in
    (rw b (omega arith), rw (c, a) (sym (div-one (w + 0) ∙ add-zero w)))

pub shape-over : (s : Shape) → Over (geometry_of s)
shape-over s = record {
  across = sub-le (leb s.format 2);
  down = sub-le (leb s.format 1);
  rows = λ r l. (lies s.format s.active.width s.active.height r l).0;
  columns = λ l. (lies s.format s.active.width s.active.height 0 l).1;
}
