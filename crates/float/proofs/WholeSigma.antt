-- `whole_sigma16 s n` is the whole number nearest to 16 × root(s / n), halves up, for every s and every n above 0 (`whole-sigma16-nearest`), and there is one such number (`nearest16-unique`).
-- The root r of 1024s / n cut to a whole number counts half units, and half of r + 1 is nearest. Assumes nothing.
use Rattle.std.proofs.Common.{◌≡◌, ℕ, suc, ◌+◌, ◌-◌, ◌*◌, ◌/◌, ◌<◌, ◌≤◌, le_trans, lt_of_lt_of_le, mul-le-mul_right, div-lt_iff_lt-mul, mul-le-mul, le-div_iff_mul-le, arith}
use Rattle.float.specs.Root.{whole_root}
use Rattle.float.specs.Sigma.{Nearest16, whole_sigma16}
use Rattle.float.proofs.Unique.{only_one}
use Rattle.float.proofs.WholeRoot.{root-low, root-high}

pub nearest16-unique : (s n j k : ℕ) → Nearest16 s n j → Nearest16 s n k → j ≡ k
nearest16-unique s n j k p q = only_one (λ h. h * h * n) (λ a b h. mul-le-mul_right n (mul-le-mul h h)) (1024 * s) j k p.above p.below q.above q.below

pub whole-sigma16-nearest : (s n : ℕ) → 0 < n → Nearest16 s n (whole_sigma16 s n)
unfolding whole_sigma16
whole-sigma16-nearest s n N =
    let r = whole_root (1024 * s / n) in
    let k = (r + 1) / 2 in
    let up : suc r ≤ 2 * k + 1 = omega arith in
    record {
      above = lt_of_lt_of_le ((div-lt_iff_lt-mul N).0 (root-high (1024 * s / n))) (mul-le-mul_right n (mul-le-mul up up));
      below = λ h.
          let down : 2 * k - 1 ≤ r = omega arith in
          (le-div_iff_mul-le N).0 (le_trans (mul-le-mul down down) (root-low (1024 * s / n)));
    }
