-- The figures of a profile from its tables: the plane's squares are those of its bins, added up. Assumes nothing.
use mathlib.Core.Path.{◌≡◌, refl, subst, sym, ap, ◌∙◌}
use mathlib.Core.List.{List}
use Prim.Native.Nat.{ℕ, zero, suc, ◌+◌, ◌-◌, ◌*◌, ◌^◌, ◌≤◌, ◌<◌}
use native.Mathlib.Omega.{arith}
use lib.ListN.{length, get_or, take}
use lib.Seq.{take_all}
use Rattle.std.proofs.Common.{sum, sum_by}
use Rattle.std.proofs.lemmas.List.Sums.{sum_by_more}
use Rattle.laws.specs.Sums.{total, sum_n, sum_of}
use Rattle.laws.specs.Table.{tabulate}
use Rattle.laws.proofs.SumsN.{sum_bound, sum_more}
use Rattle.float.specs.Steps.{sigma16_of}
use Rattle.profile.specs.Shifted.{shifted_noise, square}
use Rattle.profile.specs.Bins.{count_of_bin, squares_of_bin}
use Rattle.profile.specs.Steps.{plane_squares, totals, least_count, sigma_of_bin, Profile, profile}
use Rattle.profile.specs.Words.{InRange, LowSamples}
use Rattle.profile.specs.Parts.{square_limit}
use Rattle.profile.specs.Runs.{Profiled}
use Rattle.profile.proofs.Range.{shifted-range, range_small}
use Rattle.profile.proofs.Squares.{square_le}
use Rattle.profile.proofs.StepSums.{plane-sum, totals-are}
use Rattle.profile.proofs.AddUp.{totals-sum, squares-sum}

-- the first n of a list, added up by its fold and place by place
summed : (xs : List ℕ) (n : ℕ) → n ≤ length xs → sum_by (λ x. x) (take n xs) ≡ sum_n (λ i. get_or xs i 0) n
unfolding total
summed xs zero h = refl
summed xs (suc n) h =
    let l : n < length xs = omega arith in
    let e : n + 1 ≡ suc n = omega arith in
    subst (λ (k : ℕ). sum_by (λ x. x) (take k xs) ≡ sum_n (λ i. get_or xs i 0) k) e (sum_by_more (λ x. x) xs n 0 l ∙ ap (λ (k : ℕ). k + get_or xs n 0) (summed xs n (omega arith)) ∙ sum_more _ n)

pub added-up : (xs : List ℕ) → sum xs ≡ sum_of xs
unfolding sum_of
added-up xs = ap (sum_by (λ x. x)) (sym (take_all (length xs) xs (omega arith))) ∙ summed xs (length xs) (omega arith)

-- the tables that the Rust's loop makes
module _ (bits shift : ℕ) (source denoised : List ℕ) where
  pub totals-count : (totals bits shift source denoised).bin_n ≡ tabulate (2 ^ bits) (count_of_bin bits shift source)
  unfolding count_of_bin
  totals-count = (totals-are bits shift source denoised).bin-n

  pub totals-squares : (totals bits shift source denoised).bin_sq ≡ tabulate (2 ^ bits) (squares_of_bin bits shift source denoised)
  unfolding squares_of_bin
  totals-squares = (totals-are bits shift source denoised).bin-sq

module _ {depth : ℕ} {source denoised : List ℕ} (L : LowSamples depth source denoised) where
  pub ranges : (i : ℕ) → i < length source → InRange (shifted_noise (depth - 8) source denoised i)
  ranges i l = shifted-range depth L.least-depth source denoised i (L.source-low i l) (L.denoised-low i l)

  pub square-small : (i : ℕ) → i < length source → square (depth - 8) source denoised i ≤ square_limit
  square-small i l = square_le (shifted_noise (depth - 8) source denoised i) (range_small _ (ranges i l))

  pub plane-small : plane_squares (depth - 8) source denoised ≤ square_limit * length source
  plane-small = rw (plane-sum (depth - 8) source denoised) (sum_bound square_limit _ (length source) square-small)

  pub bins-fit : (bits : ℕ) {squares : List ℕ} → squares ≡ tabulate (2 ^ bits) (squares_of_bin bits (depth - 8) source denoised) → sum_of squares < 2 ^ 64
  bins-fit bits e =
      rw (e ∙ sym (totals-squares bits (depth - 8) source denoised), squares-sum bits (depth - 8) source denoised)
      (omega (arith, plane-small, L.few))

module _ (bits least shift : ℕ) (source denoised : List ℕ) where
  pub figures : {n m enough plane : ℕ} {sigma count squares : List ℕ}
      → count ≡ tabulate (2 ^ bits) (count_of_bin bits shift source) → squares ≡ tabulate (2 ^ bits) (squares_of_bin bits shift source denoised)
      → n ≡ length source → plane ≡ sigma16_of (sum_of squares) n → enough ≡ least_count least n → m ≡ 2 ^ bits
      → sigma ≡ tabulate m (λ j. sigma_of_bin enough plane (get_or squares j 0) (get_or count j 0))
      → Profiled (profile bits least shift source denoised) plane sigma count squares
  unfolding profile
  figures {plane = plane} c s l p e d f =
      let t = totals bits shift source denoised in
      let count-is = c ∙ sym (totals-count bits shift source denoised) in
      let squares-is = s ∙ sym (totals-squares bits shift source denoised) in
      let q : plane ≡ sigma16_of t.sq_sum (length source) = p ∙ (λ i. sigma16_of ((ap sum_of squares-is ∙ squares-sum bits shift source denoised ∙ sym (totals-sum bits shift source denoised)) i) (l i)) in
      record {
        plane-is = q;
        sigma-is = f ∙ (λ i. tabulate (d i) (λ j. sigma_of_bin ((e ∙ ap (least_count least) l) i) (q i) (get_or (squares-is i) j 0) (get_or (count-is i) j 0)));
        count-is = count-is;
        squares-is = squares-is;
      }

-- the figures make up the profile
pub profile-is : {p : Profile} {plane : ℕ} {sigma count squares : List ℕ} → Profiled p plane sigma count squares
    → record { sigma16 = plane; sigma16_of_bin = sigma; count = count; squares = squares } ≡ p
profile-is P = λ i. record { sigma16 = P.plane-is i; sigma16_of_bin = P.sigma-is i; count = P.count-is i; squares = P.squares-is i }
