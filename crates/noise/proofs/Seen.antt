-- What a view shows of a plane and its copy is a plane and its copy, with the noise of the view's places. A rectangle of two planes is seen so, and the whole of them. Assumes nothing.
use mathlib.Core.Path.{◌≡◌, refl, sym, ap, subst, ◌∙◌}
use mathlib.Core.List.{List}
use Prim.Native.Nat.{ℕ, ◌+◌, ◌-◌, ◌*◌, ◌/◌, ◌%◌, ◌≤◌, ◌<◌}
use native.Mathlib.Nat.{le_of_eq, le_trans, lt_of_lt_of_le, mul_comm, add-mul, suc-mul, mul-le-mul_right}
use native.Mathlib.Omega.{arith}
use lib.Arith.{digits_lt}
use lib.IntN.{ℤ, pos, nat_abs, ◌-ℤ◌, ◌*ℤ◌}
use lib.ListN.{length, get_or}
use Rattle.laws.specs.Limits.{side_limit, sample_limit}
use Rattle.laws.proofs.Sums.{sum-ext}
use Rattle.laws.proofs.Table.{get_d_tabulate}
use Rattle.frame.specs.View.{place_at, viewed, whole, part}
use Rattle.frame.specs.declared.Rectangle.{Rectangle}
use Rattle.frame.specs.declared.view.View.{View}
use Rattle.frame.proofs.Viewed.{viewed-length, viewed-at, row-column, part-whole, viewed-whole}
use Rattle.noise.specs.Noise.{noise, place, pair, noise_of}
use Rattle.noise.specs.Lines.{noise_limit, Places, Plane}
use Rattle.noise.specs.Seen.{seen, noise_at, Seen, sum_over, squared, SumsOf, CrossOf}
use Rattle.noise.specs.declared.sums.PlaneSums.{PlaneSums}
use Rattle.noise.specs.declared.rows.PairSums.{PairSums}
use Rattle.noise.proofs.Lines.{noise-small}

-- ---- a plane and its copy
module _ {w h : ℕ} {source denoised : List ℕ} (P : Plane w h source denoised) where
  pub place_in : {r c : ℕ} → r < h → c < w → place w r c < length source
  place_in l m = lt_of_lt_of_le (digits_lt l m) (le_of_eq (mul_comm h w ∙ sym P.source-size))

  pub plane-noise-le : (r c : ℕ) → r < h → c < w → nat_abs (noise source denoised (place w r c)) ≤ noise_limit
  plane-noise-le r c l m =
      let k = place_in l m in
      let o = lt_of_lt_of_le k (le_of_eq (P.source-size ∙ sym P.denoised-size)) in
      noise-small source denoised (place w r c) (record { in_source = k; in-denoised = o; source-low = P.source-low _ k; denoised-low = P.denoised-low _ o })

  -- a rectangle of them
  pub seen-part : (a : Rectangle) → a.left + a.width ≤ w → a.top + a.height ≤ h → w ≤ side_limit → h ≤ side_limit → Seen (part w a) source denoised
  seen-part a across down n o =
      record {
        narrow = omega arith;
        low = omega arith;
        rows = λ r l.
            let at : a.top * w + a.left + r * w ≡ place w (a.top + r) a.left = omega (arith, add-mul a.top r w) in
            let row : a.top + r < h = omega arith in
            record {
              same = P.source-size ∙ sym P.denoised-size;
              begins =
                  let all : (a.top + r) * w + w ≤ h * w = le_trans (le_of_eq (sym (suc-mul (a.top + r) w))) (mul-le-mul_right w row) in
                  omega (arith, P.source-size, mul_comm h w);
              inside = λ i k. let b : place w (a.top + r) (a.left + i) < length source = place_in row (omega arith) in omega arith;
              source-low = P.source-low;
              denoised-low = P.denoised-low;
            };
      }

  -- the whole of them
  pub seen_all : w ≤ side_limit → h ≤ side_limit → Seen (whole w h) source denoised
  seen_all n o = subst (λ (v : View). Seen v source denoised) (part-whole w h refl refl) (seen-part (record { left = 0; top = 0; width = w; height = h }) (omega arith) (omega arith) n o)

  pub seen-whole : seen (whole w h) source denoised ≡ pair source denoised w h
  seen-whole = λ i. pair (viewed-whole w h source P.source-size i) (viewed-whole w h denoised P.denoised-size i) w h

-- ---- a view of them
module _ {v : View} {source denoised : List ℕ} (S : Seen v source denoised) where
  -- place i of what is shown, by its row and column
  module _ (i : ℕ) (l : i < v.width * v.height) where
    here : Places sample_limit source denoised (v.start + i / v.width * v.step) v.stride v.width
    here = S.rows (i / v.width) (row-column v.width v.height i l).0

    inside : place_at v (i / v.width) (i % v.width) < length source
    inside = here.inside (i % v.width) (row-column v.width v.height i l).1

    shown : (plane : List ℕ) → get_or (viewed v plane) i 0 ≡ get_or plane (place_at v (i / v.width) (i % v.width)) 0
    unfolding viewed
    shown plane = get_d_tabulate _ _ i 0 l

  count : (plane : List ℕ) (i : ℕ) → i < length (viewed v plane) → i < v.width * v.height
  count plane i l = lt_of_lt_of_le l (le_of_eq (viewed-length v plane))

  pub seen-plane : Plane v.width v.height (viewed v source) (viewed v denoised)
  seen-plane =
      record {
        source-size = viewed-length v source;
        denoised-size = viewed-length v denoised;
        source-low = λ i l. let k = count source i l in rw (shown i k source) ((here i k).source-low _ (inside i k));
        denoised-low = λ i l. let k = count denoised i l in rw (shown i k denoised) ((here i k).denoised-low _ (lt_of_lt_of_le (inside i k) (le_of_eq (here i k).same)));
      }

pub noise-seen : (v : View) (source denoised : List ℕ) (r c : ℕ) → r < v.height → c < v.width → noise_at source denoised v r c ≡ noise_of (seen v source denoised) r c
noise-seen v source denoised r c l m = λ i. pos (sym (viewed-at v source r c l m) i) -ℤ pos (sym (viewed-at v denoised r c l m) i)

-- ---- sums over it
over : (rows columns : ℕ) (f g : ℕ → ℕ → ℤ) → ((r c : ℕ) → r < rows → c < columns → f r c ≡ g r c) → sum_over rows columns f ≡ sum_over rows columns g
over rows columns f g e = sum-ext _ _ rows (λ r l. sum-ext _ _ columns (λ c m. e r c l m))

module _ {rows columns : ℕ} {n m : ℕ → ℕ → ℤ} (e : (r c : ℕ) → r < rows → c < columns → n r c ≡ m r c) where
  pub sums_same : {lag shift : ℕ} {s : PlaneSums} → SumsOf n rows columns lag shift s → SumsOf m rows columns lag shift s
  sums_same {lag} {shift} s =
      record {
        squares = s.squares ∙ over rows columns _ _ (λ r c l k. ap (squared shift) (e r c l k));
        energy = s.energy ∙ over rows columns _ _ (λ r c l k i. e r c l k i *ℤ e r c l k i);
        lagged = s.lagged ∙ over rows (columns - lag) _ _ (λ r c l k i. e r c l (omega arith) i *ℤ e r (c + lag) l (omega arith) i);
      }

  pub cross-same : {n' m' : ℕ → ℕ → ℤ} → ((r c : ℕ) → r < rows → c < columns → n' r c ≡ m' r c) → {s : PairSums} → CrossOf n n' rows columns s → CrossOf m m' rows columns s
  cross-same d s =
      record {
        second = s.second ∙ over rows columns _ _ (λ r c l k i. d r c l k i *ℤ d r c l k i);
        cross = s.cross ∙ over rows columns _ _ (λ r c l k i. e r c l k i *ℤ d r c l k i);
      }
