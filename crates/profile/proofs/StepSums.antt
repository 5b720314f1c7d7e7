-- The Rust's loops are the sums: of a plane's squares, and of what lies in each bin. By induction over the turns. Assumes nothing.
use mathlib.Core.Path.{◌≡◌, refl, sym, ap, ◌∙◌, subst}
use mathlib.Core.List.{List}
use Prim.Native.Nat.{ℕ, zero, suc, ◌+◌, ◌^◌, ◌<◌, zero-le}
use native.Mathlib.Numerals.{add-one}
use native.Mathlib.Omega.{arith}
use lib.ListN.{length, get_or, replicate, length-replicate, get_or-replicate}
use lib.Pow.{pow_pos}
use Rattle.laws.specs.Loop.{loop}
use Rattle.laws.specs.Table.{tabulate}
use Rattle.laws.proofs.Loop.{loop-none, loop-more}
use Rattle.laws.proofs.Table.{tabulate-same}
use Rattle.laws.specs.Sums.{total, sum_n}
use Rattle.profile.specs.Shifted.{square}
use Rattle.profile.specs.Bins.{bin_of, bin_at, in_bin}
use Rattle.profile.specs.Steps.{plane_squares, Totals, added, totalled, no_totals, totals}
use Rattle.laws.proofs.SumsN.{sum_more}
use Rattle.profile.proofs.Tables.{by_entries, added-table}

-- what holds of a loop's state at the start, and after a turn of what held before it, holds at the end
pub loop-ind : {S : Type 0} (P : ℕ → S → Type 0) (f : ℕ → S → S) (s : S) → P 0 s → ((k : ℕ) (t : S) → P k t → P (k + 1) (f k t)) → (n : ℕ) → P n (loop 0 n f s)
loop-ind P f s starts turn zero = subst (P 0) (sym (loop-none 0 0 f s zero-le)) starts
loop-ind P f s starts turn (suc n) =
    subst (λ (m : ℕ). P m (loop 0 m f s)) (add-one n) (subst (P (n + 1)) (sym (loop-more 0 n f s zero-le)) (turn n (loop 0 n f s) (loop-ind P f s starts turn n)))

pub plane-sum : (shift : ℕ) (source denoised : List ℕ) → plane_squares shift source denoised ≡ sum_n (square shift source denoised) (length source)
unfolding plane_squares total
plane-sum shift source denoised =
    let f = square shift source denoised in
    loop-ind (λ k sq. sq ≡ sum_n f k) (λ i sq. sq + f i) 0 refl (λ k t e. ap (λ (x : ℕ). x + f k) e ∙ sum_more f k) (length source)

-- ---- by bins

pub bin-lt : (bits shift a : ℕ) → bin_of bits shift a < 2 ^ bits
bin-lt bits shift a = omega (arith, pow_pos bits)

-- a table that sums g by bins, over the first k samples
abbrev pub binned : (ℕ → ℕ) → (ℕ → ℕ) → ℕ → ℕ → List ℕ
binned bin g n k = tabulate n (λ j. sum_n (in_bin bin j g) k)

pub binned-none : (bin g : ℕ → ℕ) (n : ℕ) → replicate n 0 ≡ binned bin g n 0
unfolding total
binned-none bin g n = by_entries (replicate n 0) n (λ j. 0) (length-replicate n 0) (λ i l. get_or-replicate n i 0 0 l)

binned-more : (bin g : ℕ → ℕ) (n k : ℕ) (xs : List ℕ) → bin k < n → xs ≡ binned bin g n k → added xs (bin k) (g k) ≡ binned bin g n (k + 1)
binned-more bin g n k xs h e =
    added-table xs n (bin k) (g k) (λ j. sum_n (in_bin bin j g) k) e h
    ∙ tabulate-same n (λ j. sum_n (in_bin bin j g) k + in_bin bin j g k) (λ j. sum_n (in_bin bin j g) (k + 1)) (λ j l. sum_more (in_bin bin j g) k)

pub record TotalsAre (bits shift : ℕ) (source denoised : List ℕ) (k : ℕ) (t : Totals) : Type 0 where
  pub sq-sum : t.sq_sum ≡ sum_n (square shift source denoised) k
  pub bin-sq : t.bin_sq ≡ binned (bin_at bits shift source) (square shift source denoised) (2 ^ bits) k
  pub bin-n : t.bin_n ≡ binned (bin_at bits shift source) (λ i. 1) (2 ^ bits) k

pub totals-are : (bits shift : ℕ) (source denoised : List ℕ) → TotalsAre bits shift source denoised (length source) (totals bits shift source denoised)
unfolding totals total
totals-are bits shift source denoised =
    let f = square shift source denoised in
    let bin = bin_at bits shift source in
    loop-ind (TotalsAre bits shift source denoised) (totalled bits shift source denoised) (no_totals bits)
    (record { sq-sum = refl; bin-sq = binned-none bin f (2 ^ bits); bin-n = binned-none bin (λ i. 1) (2 ^ bits) })
    (λ k t T. record {
      sq-sum = ap (λ (x : ℕ). x + f k) T.sq-sum ∙ sum_more f k;
      bin-sq = binned-more bin f (2 ^ bits) k t.bin_sq (bin-lt bits shift (get_or source k 0)) T.bin-sq;
      bin-n = binned-more bin (λ i. 1) (2 ^ bits) k t.bin_n (bin-lt bits shift (get_or source k 0)) T.bin-n;
    })
    (length source)
