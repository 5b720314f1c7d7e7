-- How far a number of fewer than 53 digits is moved up, by the zeros before it in 64 (`leads`). Assumes nothing.
use Rattle.std.proofs.Common.{◌≡◌, ℕ, suc, ◌+◌, ◌-◌, ◌*◌, ◌^◌, ◌<◌, ◌≤◌, sym, refl, ap, ◌∙◌, le_trans, le_of_eq, lt_of_lt_of_le, mul-le-mul_right, lt_of_not-le, not-le_of_lt, arith, pow_mono, pow-add, shl_lt}
use Rattle.std.proofs.lemmas.Nat.{leading_top}
use lib.Count.{count_leading_zeros}

pub record Leads (m h : ℕ) : Type 0 where
  pub zeros : count_leading_zeros 64 m ≡ 11 + h
  pub most : h ≤ 52
  pub lead : 2 ^ 52 ≤ m * 2 ^ h
  pub few : m * 2 ^ h < 2 ^ 53

-- m has j + 1 digits, and z zeros before them
moved-up : (m j z : ℕ) → count_leading_zeros 64 m ≡ z → z + suc j ≡ 64 → 2 ^ j ≤ m → m < 2 ^ suc j → m < 2 ^ 52 → Leads m (z - 11)
moved-up m j z is e a b l =
    let short : j < 52 = lt_of_not-le (λ (g : 52 ≤ j). not-le_of_lt l (le_trans (pow_mono g) a)) in
    let first : j + (z - 11) ≡ 52 = omega arith in
    let all : suc j + (z - 11) ≡ 53 = omega arith in
    record {
      zeros = omega arith;
      most = omega arith;
      lead = le_trans (le_of_eq (sym (ap (λ (x : ℕ). 2 ^ x) first) ∙ pow-add 2 j (z - 11))) (mul-le-mul_right (2 ^ (z - 11)) a);
      few = lt_of_lt_of_le (shl_lt (suc j) (z - 11) b) (le_of_eq (ap (λ (x : ℕ). 2 ^ x) all));
    }

pub leads : (m : ℕ) → 0 < m → m < 2 ^ 52 → Leads m (count_leading_zeros 64 m - 11)
leads m p l =
    let t = leading_top 64 m p (omega arith) in
    moved-up m t.0 _ refl t.1 t.2 t.3 l
