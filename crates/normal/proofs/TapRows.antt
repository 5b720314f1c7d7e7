-- A row's sums with the luma averages, filled for each row of neighbours, the last of which ends with the sample: the state after each. Assumes nothing.
use mathlib.Core.Path.{◌≡◌, refl, sym, ap, ◌∙◌, subst}
use mathlib.Core.List.{List, ◌++◌}
use mathlib.Core.Logic.{⊎_elim}
use Prim.Native.Nat.{ℕ, ◌+◌, ◌-◌, ◌*◌, ◌^◌, ◌≤◌, ◌<◌, min}
use native.Mathlib.Nat.{le_trans, le_of_eq, lt_of_lt_of_le, mul-le-mul_right, min-eq_left, min-eq_right, min-le_left, min-le_right}
use native.Mathlib.Omega.{arith}
use lib.IntN.{ℤ, nat_abs, ◌+ℤ◌}
use lib.ListN.{length, take, drop}
use Rattle.laws.specs.Table.{tabulate}
use Rattle.laws.proofs.Table.{tabulate-same}
use Rattle.std.proofs.lemmas.Bool.{cases_lt}
use Rattle.frame.specs.declared.view.View.{View}
use Rattle.noise.specs.Lines.{at}
use Rattle.noise.specs.Seen.{Seen, noise_at}
use Rattle.noise.specs.PlanePair.{noise_in}
use Rattle.noise.specs.declared.plane_pair.PlanePair.{PlanePair}
use Rattle.noise.proofs.LineSums.{entry, size}
use Rattle.positions.specs.Counts.{side, factors}
use Rattle.positions.proofs.Counts.{factors-le, factors-rows}
use Rattle.normal.specs.Normal.{Picture}
use Rattle.normal.specs.Calls.{Window}
use Rattle.normal.specs.Starts.{start_sum, Noisy}
use Rattle.normal.specs.Blocks.{Addable}
use Rattle.normal.specs.Taps.{tap_of, row_tap, plus_taps, TapRow, TapAdd}
use Rattle.normal.proofs.Places.{row-end}
use Rattle.normal.proofs.Overlaps.{start-ext}
use Rattle.normal.proofs.Reached.{Reached, reached-ends, part-long}
use Rattle.normal.proofs.Filling.{filling}
use Rattle.normal.proofs.RowLines.{line_small}

-- the neighbours of u rows have their sums
pub record Tapping (f : Picture) (q : ℕ → ℤ) (w lag y : ℕ) (before row : List ℤ) (u : ℕ) : Type 0 where
  pub sized : length before ≡ factors lag
  pub reached : Reached (row_tap f q w lag y) before row (min (u * side lag) (factors lag))

module _ {f : Picture} {q : ℕ → ℤ} {w lag y : ℕ} {before row : List ℤ} {u : ℕ} (T : Tapping f q w lag y before row u) where
  abbrev s : ℕ
  s = side lag

  pub tapping-ends : lag + 1 ≤ u → row ≡ tabulate (factors lag) (row_tap f q w lag y)
  tapping-ends h =
      reached-ends _ before _ T.reached (le_of_eq (T.sized ∙ sym (min-eq_right all_in)))
      ∙ ap (λ (m : ℕ). tabulate m (row_tap f q w lag y)) T.sized
    where
      all_in : factors lag ≤ u * s
      all_in = le_trans (factors-le lag) (mul-le-mul_right s h)

  -- ---- neighbours in row u: m of them
  module _ (hu : u ≤ lag) where
    pub first-in : u * s ≤ factors lag
    first-in = omega (arith, mul-le-mul_right s hu, factors-rows lag)

    module _ {m : ℕ} (e : m ≡ min s (factors lag - u * s)) where
      pub part_in : u * s + m ≤ factors lag
      part_in = omega (arith, first-in, min-le_right s (factors lag - u * s))

      pub columns-in : m ≤ s
      columns-in = le_trans (le_of_eq e) (min-le_left s (factors lag - u * s))

      next : u * s + m ≡ min ((u + 1) * s) (factors lag)
      next = ⊎_elim short full (cases_lt (factors lag - u * s) s)
        where
          short : factors lag - u * s < s → u * s + m ≡ min ((u + 1) * s) (factors lag)
          short l =
              let a : factors lag - u * s ≤ s = omega arith in
              let b : factors lag ≤ (u + 1) * s = omega (arith, row-end s u) in
              ap (λ (k : ℕ). u * s + k) (e ∙ min-eq_right a) ∙ omega (arith, first-in, min-eq_right b)

          full : s ≤ factors lag - u * s → u * s + m ≡ min ((u + 1) * s) (factors lag)
          full l =
              let b : (u + 1) * s ≤ factors lag = omega (arith, row-end s u, first-in) in
              ap (λ (k : ℕ). u * s + k) (e ∙ min-eq_left l) ∙ sym (row-end s u) ∙ sym (min-eq_left b)

      here : Reached (row_tap f q w lag y) before row (u * s)
      here = subst (λ (k : ℕ). Reached (row_tap f q w lag y) before row k) (min-eq_left first-in) T.reached

      in-before : u * s + m ≤ length before
      in-before = le_trans part_in (le_of_eq (sym T.sized))

      pub part_end : u * s + m ≤ length row
      part_end = part-long _ before (u * s) here m in-before

      pub tapping-turn : {new : List ℤ} → new ≡ tabulate m (tap_of f q w lag y u) → Tapping f q w lag y before (take (u * s) row ++ (new ++ drop (u * s + m - u * s) (drop (u * s) row))) (u + 1)
      tapping-turn {new} d = record { sized = T.sized; reached = rw (sym next) (filling s (tap_of f q w lag y) before u m here columns-in in-before d) }

-- ---- a line that holds row y + u
module _ {v : View} {source denoised : List ℕ} {y lag : ℕ} {averages : List ℤ} {row : ℕ} (S : Seen v source denoised) (W : Window v.width v.height lag) (T : TapRow v y lag averages row)
    {u : ℕ} (hu : u ≤ lag) {p : List ℤ} (e : p ≡ tabulate v.width (noise_at source denoised v (y + u))) where
  abbrev noises : ℕ → ℤ
  noises = noise_at source denoised v (y + u)

  pub line-noisy : (c : ℕ) → c < side lag → Noisy p averages (v.width - 2 * lag) c lag
  line-noisy c l =
      record {
        up-long = omega (arith, size v.width noises e, W.columns);
        lo-long = omega (arith, T.averages-length, W.columns);
        few = omega (arith, S.narrow);
        up_small = line_small S (y + u) (omega (arith, T.inside)) e;
        lo_small = T.averages-small;
      }

  pub line-taps : {new : List ℤ} (k m : ℕ) → k ≡ m → m ≤ side lag → new ≡ tabulate k (λ c. start_sum (at p) (at averages) (v.width - 2 * lag) c lag)
      → new ≡ tabulate m (tap_of (noise_at source denoised v) (at averages) v.width lag y u)
  line-taps k m q l d =
      d ∙ ap (λ (j : ℕ). tabulate j (λ c. start_sum (at p) (at averages) (v.width - 2 * lag) c lag)) q ∙ tabulate-same m _ _ (λ c k.
      start-ext (at p) (at averages) (v.width - 2 * lag) c lag noises (at averages)
      (λ x h. entry v.width noises e (c + x) (omega (arith, W.columns))) (λ x h. refl))

-- ---- a row's sums, added to those of the rows before
module _ {p : PlanePair} {y lag : ℕ} {averages taps : List ℤ} (A : TapAdd p y lag averages taps)
    {r : List ℤ} (e : r ≡ tabulate (factors lag) (row_tap (noise_in p) (at averages) p.view.width lag y)) where
  abbrev gain : ℕ → ℤ
  gain = row_tap (noise_in p) (at averages) p.view.width lag y

  pub taps-addable : Addable taps r
  taps-addable =
      record {
        same = A.tap-row.row-length ∙ sym (size (factors lag) gain e);
        small = λ i h. let l = lt_of_lt_of_le h (le_of_eq A.tap-row.row-length) in
            subst (λ (z : ℤ). nat_abs (at taps i +ℤ z) < 2 ^ 63) (sym (entry (factors lag) gain e i l)) (A.small i l);
      }

  pub taps-added : {new : List ℤ} → new ≡ tabulate (length taps) (λ i. at taps i +ℤ at r i) → new ≡ plus_taps (noise_in p) (at averages) p.view.width lag y taps
  taps-added d =
      d ∙ ap (λ (m : ℕ). tabulate m (λ i. at taps i +ℤ at r i)) A.tap-row.row-length
      ∙ tabulate-same (factors lag) _ _ (λ i l. ap (λ (z : ℤ). at taps i +ℤ z) (entry (factors lag) gain e i l))
