-- The Rust's steps of `plane_sigma16` and of `noise_estimate` over a plane: a loop over the samples that adds to totals, and sigma16 of each bin by the least count.
use Rattle.std.specs.Prelude.{cond, List, ℕ, ◌+◌, ◌/◌, ◌^◌, max, leb, length, get_or, set, replicate}
use Rattle.laws.specs.Loop.{loop}
use Rattle.laws.specs.Table.{tabulate}
use Rattle.float.specs.Steps.{sigma16_of}
use Rattle.profile.specs.Shifted.{square}
use Rattle.profile.specs.Bins.{bin_at}

-- ---- plane_sigma16

-- `for (&x, &y) in a.iter().zip(b) { sq += (d * d) as u64; }`
unfoldable pub plane_squares : ℕ → List ℕ → List ℕ → ℕ
unfolding loop
plane_squares shift source denoised = loop 0 (length source) (λ i sq. sq + square shift source denoised i) 0

-- 0 for an empty plane, as `sigma16_of` has it for a count of 0
unfoldable pub plane_sigma16 : ℕ → List ℕ → List ℕ → ℕ
unfolding plane_squares sigma16_of
plane_sigma16 shift source denoised = sigma16_of (plane_squares shift source denoised) (length source)

-- ---- noise_estimate

-- `sq_sum`, `bin_sq` and `bin_n`
pub record Totals : Type 0 where
  pub sq_sum : ℕ
  pub bin_sq : List ℕ
  pub bin_n : List ℕ

-- `xs[i] += v;`
abbrev pub added : List ℕ → ℕ → ℕ → List ℕ
added xs i v = set xs i (get_or xs i 0 + v)

-- the turn of sample i
abbrev pub totalled : ℕ → ℕ → List ℕ → List ℕ → ℕ → Totals → Totals
totalled bits shift source denoised i t =
    record {
      sq_sum = t.sq_sum + square shift source denoised i;
      bin_sq = added t.bin_sq (bin_at bits shift source i) (square shift source denoised i);
      bin_n = added t.bin_n (bin_at bits shift source i) 1;
    }

abbrev pub no_totals : ℕ → Totals
no_totals bits = record { sq_sum = 0; bin_sq = replicate (2 ^ bits) 0; bin_n = replicate (2 ^ bits) 0 }

unfoldable pub totals : ℕ → ℕ → List ℕ → List ℕ → Totals
unfolding loop
totals bits shift source denoised = loop 0 (length source) (totalled bits shift source denoised) (no_totals bits)

-- `(n / 100).max(least)`
abbrev pub least_count : ℕ → ℕ → ℕ
least_count least n = max (n / 100) least

-- "A bin gives its own sigma16 if its count is at least [that] ..; else the plane's."
unfoldable pub sigma_of_bin : ℕ → ℕ → ℕ → ℕ → ℕ
unfolding sigma16_of
sigma_of_bin enough plane squares count = cond (leb enough count) (sigma16_of squares count) plane

pub record Profile : Type 0 where
  pub sigma16 : ℕ
  pub sigma16_of_bin : List ℕ
  pub count : List ℕ
  pub squares : List ℕ

abbrev pub profiled : ℕ → ℕ → ℕ → Totals → Profile
profiled bits least n t =
    let plane = sigma16_of t.sq_sum n in
    record {
      sigma16 = plane;
      sigma16_of_bin = tabulate (2 ^ bits) (λ j. sigma_of_bin (least_count least n) plane (get_or t.bin_sq j 0) (get_or t.bin_n j 0));
      count = t.bin_n;
      squares = t.bin_sq;
    }

-- 2 ^ bits bins, and the least count of a bin in a small plane. For luma the Rust has n = `y.len().max(1)`: an accepted frame has a luma sample.
unfoldable pub profile : ℕ → ℕ → ℕ → List ℕ → List ℕ → Profile
unfolding totals
profile bits least shift source denoised = profiled bits least (length source) (totals bits shift source denoised)
