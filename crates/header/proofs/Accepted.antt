-- Question 10 lets a record pass exactly if it keeps every limit of the semantics, fits its bits, and is as reset where the syntax skips it. Assumes nothing.
use mathlib.Core.Path.{◌≡◌, refl, sym}
use mathlib.Core.Bool.{Bool, true, false, cond, not, ◌&&◌, ◌||◌, false≢true}
use mathlib.Core.List.{List, ◌++◌}
use mathlib.Core.Logic.{◌↔◌}
use Prim.Native.Nat.{ℕ, zero, suc, ◌+◌, ◌-◌, ◌^◌, ◌<◌, ◌≤◌}
use native.Mathlib.Omega.{arith}
use lib.Dec.{ltb, eqb}
use lib.Pow.{pow_pos}
use borrow.Author.Tests.{ltb-false, lt-ltb, le-ltb, ne_eqb}
use Rattle.laws.specs.Limits.{neighbour_limit, order_limit}
use Rattle.positions.proofs.Filter.{luma-most}
use Rattle.header.specs.Record.{FilmGrainParams}
use Rattle.header.specs.declared.counts.Counts.{Counts}
use Rattle.header.specs.Row.{limited, raised, field, bit, All}
use Rattle.header.specs.Text.{monochrome, yuv420, coded, chroma, y_points_of, luma_coeffs, chroma_coeffs, counts_of, points, coeffs, opening, luma_part, chroma_part, filter_part, closing, table, rows}
use Rattle.header.specs.Bits.{all_allowed}
use Rattle.header.specs.Allowed.{Allowed}
use Rattle.header.specs.Semantics.{PointLimits, MixLimits, Limits}
use Rattle.header.specs.Skipped.{PointsReset, MixReset, AsReset}
use Rattle.header.proofs.Folds.{all_append}
use Rattle.header.proofs.Causes.{rows-allowed}
use Rattle.header.proofs.Listed.{coeffs-allowed, points-allowed}

-- ---- a row

-- at most so much, whether the syntax has it or not
limited-allowed : (bits : ℕ) (present : Bool) (most n : ℕ) → Allowed (limited bits present 0 most n) ↔ ((n ≤ most) × (present ≡ false → n ≡ 0))
limited-allowed bits present most n = (λ a. (low present refl a, a.skipped), λ h. record { kept = λ e. (omega arith, h.0); skipped = h.1 })
  where
    low : (t : Bool) → present ≡ t → Allowed (limited bits present 0 most n) → n ≤ most
    low true e a = (a.kept e).1
    low false e a = omega (arith, a.skipped e)

field-allowed : (bits : ℕ) (present : Bool) (n : ℕ) → Allowed (field bits present n) ↔ ((n < 2 ^ bits) × (present ≡ false → n ≡ 0))
field-allowed bits present n =
    let q = limited-allowed bits present (2 ^ bits - 1) n in
    let l = pow_pos bits in
    (λ a. (omega (arith, (q.0 a).0), (q.0 a).1), λ h. q.1 (omega (arith, h.0), h.1))

-- a flag
bit-low : (b : Bool) → bit b ≤ 1
bit-low true = omega arith
bit-low false = omega arith

bit-zero : (b : Bool) → (bit b ≡ 0) ↔ (b ≡ false)
bit-zero true = (λ e. absurd (omega arith), λ e. absurd (false≢true (sym e)))
bit-zero false = (λ e. refl, λ e. refl)

bit-one : (b : Bool) → (1 ≤ bit b) ↔ (b ≡ true)
bit-one true = (λ l. refl, λ e. omega arith)
bit-one false = (λ l. absurd (omega arith), λ e. absurd (false≢true e))

flag-allowed : (present b : Bool) → Allowed (field 1 present (bit b)) ↔ (present ≡ false → b ≡ false)
flag-allowed present b = (
  λ a e. (bit-zero b).0 (a.skipped e),
  λ h. record { kept = λ e. (omega arith, bit-low b); skipped = λ e. (bit-zero b).1 (h e) },
)

-- update_grain
update-allowed : (apply inter update : Bool)
    → Allowed (raised (bit inter) apply (bit (not inter)) (bit update)) ↔ ((apply ≡ false → update ≡ false) × (apply ≡ true → inter ≡ false → update ≡ true))
update-allowed apply true update = (
  λ a. (λ e. (bit-zero update).0 (a.skipped e), λ e i. absurd (false≢true (sym i))),
  λ h. record { kept = λ e. (omega arith, bit-low update); skipped = λ e. (bit-zero update).1 (h.0 e) },
)
update-allowed apply false update = (
  λ a. (λ e. (bit-zero update).0 (a.skipped e), λ e i. (bit-one update).0 (a.kept e).0),
  λ h. record { kept = λ e. ((bit-one update).1 (h.1 e refl), bit-low update); skipped = λ e. (bit-zero update).1 (h.0 e) },
)

-- num_cr_points, and what 4:2:0 asks of it
cr-allowed : (subsampled present : Bool) (cb cr : ℕ) → (present ≡ false → cb ≡ 0)
    → Allowed (limited 4 present (bit (subsampled && ltb 0 cb)) (cond (subsampled && eqb cb 0) 0 10) cr)
    ↔ (Allowed (limited 4 present 0 10 cr) × (subsampled ≡ true → (cb ≡ 0) ↔ (cr ≡ 0)))
cr-allowed false present cb cr z = (λ a. (a, λ e. absurd (false≢true e)), λ h. h.0)
cr-allowed true false cb cr z = (
  λ a. (record { kept = λ e. absurd (false≢true e); skipped = a.skipped }, λ e. (λ f. a.skipped refl, λ f. z refl)),
  λ h. record { kept = λ e. absurd (false≢true e); skipped = h.0.skipped },
)
cr-allowed true true zero cr z = (
  λ a. let l : cr ≤ 0 = (a.kept refl).1 in (record { kept = λ e. (omega arith, omega arith); skipped = a.skipped }, λ e. (λ f. omega arith, λ f. refl)),
  λ h. record { kept = λ e. (omega arith, omega (arith, (h.1 refl).0 refl)); skipped = h.0.skipped },
)
cr-allowed true true (suc cb) cr z =
    rw (lt-ltb 0 (suc cb) (omega arith), ne_eqb (suc cb) 0 (λ e. absurd (omega arith))) (above cr)
  where
    some : (n : ℕ) → (n ≡ 0 → suc cb ≡ 0) → 1 ≤ n
    some zero f = absurd (omega (arith, f refl))
    some (suc n) f = omega arith

    above : (n : ℕ) → Allowed (limited 4 true 1 10 n) ↔ (Allowed (limited 4 true 0 10 n) × (true ≡ true → (suc cb ≡ 0) ↔ (n ≡ 0)))
    above n = (
      λ a. let l = a.kept refl in (record { kept = λ e. (omega arith, l.1); skipped = a.skipped }, λ e. (λ f. absurd (omega arith), λ f. absurd (omega arith))),
      λ h. record { kept = λ e. (some n (h.1 refl).1, (h.0.kept e).1); skipped = h.0.skipped },
    )

-- ---- a list

-- the number of a list that the syntax may skip
number-kept : (present : Bool) (n : ℕ) → (present ≡ false → n ≡ 0) → cond present n 0 ≡ n
number-kept true n z = refl
number-kept false n z = sym (z refl)

-- num_cr_points, with the number of Cb's points that the syntax has
cr-kept : (subsampled present : Bool) (cb cr : ℕ) → (present ≡ false → cb ≡ 0)
    → Allowed (limited 4 present (bit (subsampled && ltb 0 (cond present cb 0))) (cond (subsampled && eqb (cond present cb 0) 0) 0 10) cr)
    ↔ (Allowed (limited 4 present 0 10 cr) × (subsampled ≡ true → (cb ≡ 0) ↔ (cr ≡ 0)))
cr-kept subsampled present cb cr z = rw (number-kept present cb z) (cr-allowed subsampled present cb cr z)

-- a plane's number of points, and its points
plane-allowed : (present : Bool) (places n : ℕ) (values scalings : List ℕ)
    → (Allowed (limited 4 present 0 places n) × All Allowed (points places (cond present n 0) values scalings))
    ↔ (PointLimits places n values scalings × PointsReset present places n values scalings)
plane-allowed present places n values scalings = (
  λ h.
      let k = (limited-allowed 4 present places n).0 h.0 in
      let q = (points-allowed places n values scalings k.0).0 (rw (number-kept present n k.1) at h).1 in (
        record { count = k.0; rising = q.0.0; value = q.0.1.0; scaling = q.1.0 },
        record { count = k.1; value = q.0.1.1; scaling = q.1.1 },
      ),
  λ h.
      let k = h.0 in
      let s = h.1 in (
        (limited-allowed 4 present places n).1 (k.count, s.count),
        rw (number-kept present n s.count) ((points-allowed places n values scalings k.count).1 ((k.rising, (k.value, s.value)), (k.scaling, s.scaling))),
      ),
)

-- a chroma plane's field is skipped where the plane has no points
plane-field : (bits : ℕ) (present : Bool) (points n : ℕ) → (present ≡ false → points ≡ 0)
    → Allowed (field bits (ltb 0 (cond present points 0)) n) ↔ ((n < 2 ^ bits) × (points ≡ 0 → n ≡ 0))
plane-field bits present points n z =
    let q = field-allowed bits (ltb 0 points) n in
    rw (number-kept present points z) (
      λ a. ((q.0 a).0, λ e. (q.0 a).1 (le-ltb 0 points (omega arith))),
      λ h. q.1 (h.0, λ e. let k = ltb-false 0 points e in h.1 (omega arith)),
    )

mix-allowed : (present : Bool) (points mult lumaMult offset : ℕ) → (present ≡ false → points ≡ 0)
    → (Allowed (field 8 (ltb 0 (cond present points 0)) mult) × (Allowed (field 8 (ltb 0 (cond present points 0)) lumaMult) × Allowed (field 9 (ltb 0 (cond present points 0)) offset)))
    ↔ (MixLimits mult lumaMult offset × MixReset points mult lumaMult offset)
mix-allowed present points mult lumaMult offset z =
    let m = plane-field 8 present points mult z in
    let l = plane-field 8 present points lumaMult z in
    let o = plane-field 9 present points offset z in (
      λ a. (((m.0 a.0).0, ((l.0 a.1.0).0, (o.0 a.1.1).0)), λ e. ((m.0 a.0).1 e, ((l.0 a.1.0).1 e, (o.0 a.1.1).1 e))),
      λ h. (m.1 (h.0.0, λ e. (h.1 e).0), (l.1 (h.0.1.0, λ e. (h.1 e).1.0), o.1 (h.0.1.1, λ e. (h.1 e).1.1))),
    )

-- no more coefficients than an array has places
at_most : (t : Bool) (n most : ℕ) → n ≤ most → cond t n 0 ≤ most
at_most true n most l = l
at_most false n most l = omega arith

luma-places : (p : FilmGrainParams) → p.ar_coeff_lag ≤ 3 → luma_coeffs p ≤ neighbour_limit
luma-places p l = at_most (ltb 0 (y_points_of p)) _ _ (luma-most p.ar_coeff_lag l)

chroma-places : (p : FilmGrainParams) (points : ℕ) → p.ar_coeff_lag ≤ 3 → chroma_coeffs p points ≤ order_limit
chroma-places p points l = at_most (coded p && p.chroma_scaling_from_luma || ltb 0 points) _ _ (tap (ltb 0 (y_points_of p)) _ (luma-most p.ar_coeff_lag l))
  where
    tap : (t : Bool) (n : ℕ) → n ≤ neighbour_limit → cond t (n + 1) n ≤ order_limit
    tap true n k = omega arith
    tap false n k = omega arith

-- ---- the record

-- its five parts
parts : (p : FilmGrainParams) (inter : Bool) (format : ℕ) → All Allowed (rows p inter format)
    ↔ (All Allowed (opening p inter) × (All Allowed (luma_part p (counts_of p format)) × (All Allowed (chroma_part p format (counts_of p format)) × (All Allowed (filter_part p (counts_of p format)) × All Allowed (closing p (counts_of p format))))))
unfolding rows table
parts p inter format =
    let c : Counts = counts_of p format in
    let o = all_append Allowed (opening p inter) (luma_part p c ++ (chroma_part p format c ++ (filter_part p c ++ closing p c))) in
    let l = all_append Allowed (luma_part p c) (chroma_part p format c ++ (filter_part p c ++ closing p c)) in
    let h = all_append Allowed (chroma_part p format c) (filter_part p c ++ closing p c) in
    let f = all_append Allowed (filter_part p c) (closing p c) in (
      λ a.
          let b = o.0 a in
          let d = l.0 b.1 in
          let e = h.0 d.1 in
          (b.0, (d.0, (e.0, f.0 e.1))),
      λ a. o.1 (a.0, l.1 (a.1.0, h.1 (a.1.1.0, f.1 a.1.1.1))),
    )

-- each row's law once; then from the rows to the words, and back
pub accepted-exactly : (p : FilmGrainParams) (inter : Bool) (format : ℕ) → (all_allowed (rows p inter format) ≡ true) ↔ (Limits p format × AsReset p inter format)
unfolding counts_of opening luma_part chroma_part filter_part closing
accepted-exactly p inter format =
    let c : Counts = counts_of p format in
    let apply = flag-allowed true p.apply_grain in
    let seed = field-allowed 16 p.apply_grain p.grain_seed in
    let update = update-allowed p.apply_grain inter p.update_grain in
    let slot = field-allowed 3 (p.apply_grain && not p.update_grain) p.film_grain_params_ref_idx in
    let y = plane-allowed (coded p) 14 p.num_y_points p.point_y_value p.point_y_scaling in
    let from-luma = flag-allowed (coded p && not (monochrome format)) p.chroma_scaling_from_luma in
    let cb = plane-allowed (chroma p format) 10 p.num_cb_points p.point_cb_value p.point_cb_scaling in
    let after-cb = all_append Allowed (points 10 c.cb_points p.point_cb_value p.point_cb_scaling) _ in
    let cr-count = cr-kept (yuv420 format) (chroma p format) p.num_cb_points p.num_cr_points in
    let cr = plane-allowed (chroma p format) 10 p.num_cr_points p.point_cr_value p.point_cr_scaling in
    let lag = limited-allowed 2 (coded p) 3 p.ar_coeff_lag in
    let y-coeffs = coeffs-allowed neighbour_limit c.y_coeffs p.ar_coeffs_y_plus_128 in
    let cb-coeffs = coeffs-allowed order_limit c.cb_coeffs p.ar_coeffs_cb_plus_128 in
    let cr-coeffs = coeffs-allowed order_limit c.cr_coeffs p.ar_coeffs_cr_plus_128 in
    let after-y-coeffs = all_append Allowed (coeffs neighbour_limit c.y_coeffs p.ar_coeffs_y_plus_128) _ in
    let after-cb-coeffs = all_append Allowed (coeffs order_limit c.cb_coeffs p.ar_coeffs_cb_plus_128) _ in
    let scale-shift = limited-allowed 2 (coded p) 3 p.grain_scale_shift in
    let cb-mix = mix-allowed (chroma p format) p.num_cb_points p.cb_mult p.cb_luma_mult p.cb_offset in
    let cr-mix = mix-allowed (chroma p format) p.num_cr_points p.cr_mult p.cr_luma_mult p.cr_offset in
    let overlap = flag-allowed (coded p) p.overlap_flag in
    let clip = flag-allowed (coded p) p.clip_to_restricted_range in (
      λ e.
          let a = (parts p inter format).0 ((rows-allowed (rows p inter format)).0 e) in
          let seed-of = seed.0 a.0.1.0 in
          let update-of = update.0 a.0.1.1.0 in
          let slot_of = slot.0 a.0.1.1.1.0 in
          let y_of = y.0 a.1.0 in
          let h = a.1.1.0 in
          let pairs = after-cb.0 h.1.1 in
          let cb-of = cb.0 (h.1.0, pairs.0) in
          let cr-row = (cr-count cb-of.1.count).0 pairs.1.0 in
          let cr-of = cr.0 (cr-row.0, pairs.1.1) in
          let f = a.1.1.1.0 in
          let lag-of = lag.0 f.1.0 in
          let filter = after-y-coeffs.0 f.1.1 in
          let chroma-filter = after-cb-coeffs.0 filter.1 in
          let y-coeffs-of = (y-coeffs (luma-places p lag-of.0)).0 filter.0 in
          let cb-coeffs-of = (cb-coeffs (chroma-places p c.cb_points lag-of.0)).0 chroma-filter.0 in
          let cr-coeffs-of = (cr-coeffs (chroma-places p c.cr_points lag-of.0)).0 chroma-filter.1 in
          let z = a.1.1.1.1 in
          let scale-shift-of = scale-shift.0 z.1.0 in
          let m = z.1.1 in
          let n = m.1.1.1 in
          let cb-mix-of = (cb-mix cb-of.1.count).0 (m.0, (m.1.0, m.1.1.0)) in
          let cr-mix-of = (cr-mix cr-of.1.count).0 (n.0, (n.1.0, n.1.1.0)) in
          let flags = n.1.1.1 in (
            record {
              seed = seed-of.0;
              slot = slot_of.0;
              y-points = y_of.0;
              cb-points = cb-of.0;
              cr-points = cr-of.0;
              both = cr-row.1;
              scaling = f.0.kept;
              lag = lag-of.0;
              y-coeffs = y-coeffs-of.0;
              cb-coeffs = cb-coeffs-of.0;
              cr-coeffs = cr-coeffs-of.0;
              shift = z.0.kept;
              scale-shift = scale-shift-of.0;
              cb-mix = cb-mix-of.0;
              cr-mix = cr-mix-of.0;
            },
            record {
              seed = seed-of.1;
              update-unapplied = update-of.0;
              update_other = update-of.1;
              slot = slot_of.1;
              y-points = y_of.1;
              from-luma = from-luma.0 h.0;
              cb-points = cb-of.1;
              cr-points = cr-of.1;
              scaling = f.0.skipped;
              lag = lag-of.1;
              y-coeffs = y-coeffs-of.1;
              cb-coeffs = cb-coeffs-of.1;
              cr-coeffs = cr-coeffs-of.1;
              shift = z.0.skipped;
              scale-shift = scale-shift-of.1;
              cb-mix = cb-mix-of.1;
              cr-mix = cr-mix-of.1;
              overlap = overlap.0 flags.0;
              clip = clip.0 flags.1.0;
            },
          ),
      λ q.
          let k = q.0 in
          let s = q.1 in
          let cb-to = cb.1 (k.cb-points, s.cb-points) in
          let cr-to = cr.1 (k.cr-points, s.cr-points) in
          let y-coeffs-to = (y-coeffs (luma-places p k.lag)).1 (k.y-coeffs, s.y-coeffs) in
          let cb-coeffs-to = (cb-coeffs (chroma-places p c.cb_points k.lag)).1 (k.cb-coeffs, s.cb-coeffs) in
          let cr-coeffs-to = (cr-coeffs (chroma-places p c.cr_points k.lag)).1 (k.cr-coeffs, s.cr-coeffs) in
          let m = (cb-mix s.cb-points.count).1 (k.cb-mix, s.cb-mix) in
          let n = (cr-mix s.cr-points.count).1 (k.cr-mix, s.cr-mix) in
          let o : All Allowed (opening p inter) = (apply.1 (λ e. absurd (false≢true (sym e))), (seed.1 (k.seed, s.seed), (update.1 (s.update-unapplied, s.update_other), (slot.1 (k.slot, s.slot), tt)))) in
          let h : All Allowed (chroma_part p format c) = (from-luma.1 s.from-luma, (cb-to.0, after-cb.1 (cb-to.1, ((cr-count s.cb-points.count).1 (cr-to.0, k.both), cr-to.1)))) in
          let f : All Allowed (filter_part p c) = (record { kept = k.scaling; skipped = s.scaling }, (lag.1 (k.lag, s.lag), after-y-coeffs.1 (y-coeffs-to, after-cb-coeffs.1 (cb-coeffs-to, cr-coeffs-to)))) in
          let z : All Allowed (closing p c) = (record { kept = k.shift; skipped = s.shift }, (scale-shift.1 (k.scale-shift, s.scale-shift), (m.0, (m.1.0, (m.1.1, (n.0, (n.1.0, (n.1.1, (overlap.1 s.overlap, (clip.1 s.clip, tt)))))))))) in
          (rows-allowed (rows p inter format)).1 ((parts p inter format).1 (o, (y.1 (k.y-points, s.y-points), (h, (f, z))))),
    )
