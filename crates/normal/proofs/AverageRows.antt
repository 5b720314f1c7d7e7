-- A line of a chroma row's luma averages: its numbers, their size, and the sum of their squares. Assumes nothing.
use mathlib.Core.Path.{◌≡◌, sym, ap, ◌∙◌, subst}
use mathlib.Core.List.{List}
use Prim.Native.Nat.{ℕ, ◌+◌, ◌-◌, ◌*◌, ◌≤◌, ◌<◌}
use native.Mathlib.Omega.{arith}
use lib.Dec.{lit<}
use lib.IntN.{ℤ}
use lib.ListN.{length, take, drop}
use Rattle.laws.specs.Limits.{side_limit}
use Rattle.laws.specs.Sums.{sum_to}
use Rattle.laws.specs.Table.{tabulate}
use Rattle.frame.specs.Size.{sampled}
use Rattle.frame.specs.declared.view.Geometry.{Geometry}
use Rattle.noise.specs.Lines.{at, AtMost, product, Lines}
use Rattle.noise.specs.Seen.{Seen, Over}
use Rattle.noise.specs.Average.{luma_seen, quarters}
use Rattle.noise.proofs.Over.{average-le}
use Rattle.noise.proofs.LineSums.{entry, size}
use Rattle.normal.specs.Starts.{start_sum, average_limit, Overlap}
use Rattle.normal.specs.Taps.{AverageRoom}
use Rattle.normal.proofs.Stored.{part}
use Rattle.normal.proofs.Overlaps.{start-ext, overlap-lines, overlap-sum}
use Rattle.normal.proofs.RowLines.{at_most}

pub averages-small : {g : Geometry} {source denoised : List ℕ} → Over g → Seen g.luma source denoised → {r : ℕ} → r < g.chroma.height
    → {p : List ℤ} → p ≡ tabulate g.chroma.width (quarters (luma_seen g source denoised) r) → AtMost average_limit p
averages-small O S l e = at_most _ average_limit _ e (average-le O S l)

module _ {g : Geometry} {source denoised : List ℕ} (O : Over g) (S : Seen g.luma source denoised) (few : g.chroma.width ≤ side_limit)
    {r averages : ℕ} (A : AverageRoom g r averages) where
  abbrev average : ℕ → ℤ
  average = quarters (luma_seen g source denoised) r

  -- as the line is filled, and as it is counted here
  pub averages-are : {p : List ℤ} → p ≡ tabulate (sampled g.sampling.across g.luma.width) average → p ≡ tabulate g.chroma.width average
  averages-are e = e ∙ ap (λ (m : ℕ). tabulate m average) (sym (O.columns (omega (arith, A.row))))

  module _ (lag : ℕ) (wide : 2 * lag ≤ g.chroma.width) {p : List ℤ} (e : p ≡ tabulate g.chroma.width average) where
    abbrev n : ℕ
    n = g.chroma.width - 2 * lag

    -- the window's columns, as the code takes them
    abbrev middle : List ℤ
    middle = take (length p - lag - lag) (drop lag p)

    long : lag + n ≤ length p
    long = omega (arith, size g.chroma.width average e, wide)

    overlap : Overlap average_limit average_limit p p n lag lag
    overlap =
        record {
          up-long = long;
          lo-long = long;
          few = omega (arith, few);
          up_small = averages-small O S A.row e;
          lo_small = averages-small O S A.row e;
        }

    middle-is : part p lag n ≡ middle
    middle-is = let d : lag + n - lag ≡ length p - lag - lag = omega (arith, size g.chroma.width average e) in ap (λ (k : ℕ). take k (drop lag p)) d

    pub averages-lines : Lines 8 middle middle
    averages-lines = subst (λ (q : List ℤ). Lines 8 q q) middle-is (overlap-lines overlap 8 (lit< tt))

    pub averages-squares : sum_to (product middle middle) (length middle) ≡ start_sum average average n lag lag
    averages-squares =
        ap (λ (q : List ℤ). sum_to (product q q) (length q)) (sym middle-is)
        ∙ overlap-sum overlap
        ∙ start-ext (at p) (at p) n lag lag average average one one
      where
        one : (x : ℕ) → x < n → at p (lag + x) ≡ average (lag + x)
        one x k = entry g.chroma.width average e (lag + x) (omega (arith, wide))
