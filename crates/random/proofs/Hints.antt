-- Any 65,536 successive hints give different seeds, also where the hints wrap: 0x9e37 × 30599 is 1 modulo 2^16, so hints with equal seeds have equal low 16 bits. Assumes nothing.
use Rattle.std.proofs.Common.{◌≡◌, ℕ, ◌+◌, ◌*◌, ◌/◌, ◌%◌, ◌^◌, ◌<◌, ◌≢◌, sym, refl, ap, ◌∙◌, arith}
use native.Mathlib.Nat.{add-mul-mod_self_left}
use lib.Pow.{mod-mod-pow}
use Rattle.random.specs.Seed.{seed}

-- the wraps at 2^32 leave the low 16 bits as they are
pub seed-low : (hint : ℕ) → seed hint ≡ (hint * 0x9e37 + 0x51ed) % 2 ^ 16
seed-low hint = omega arith

inverse : 0x9e37 * 30599 ≡ 1 + 2 ^ 16 * 18911
inverse = refl

-- both seeds' equations times the inverse
same_low : (x y : ℕ) → seed x ≡ seed y → x % 2 ^ 16 ≡ y % 2 ^ 16
same_low x y same =
    let p = (x * 0x9e37 + 0x51ed) / 2 ^ 16 in
    let q = (y * 0x9e37 + 0x51ed) / 2 ^ 16 in
    let k = x * 18911 + q * 30599 in
    let l = y * 18911 + p * 30599 in
    let s : (x * 0x9e37 + 0x51ed) % 2 ^ 16 ≡ (y * 0x9e37 + 0x51ed) % 2 ^ 16 = sym (seed-low x) ∙ same ∙ seed-low y in
    let e : x + 2 ^ 16 * k ≡ y + 2 ^ 16 * l = omega arith in
    sym (add-mul-mod_self_left x (2 ^ 16) k) ∙ ap (λ (n : ℕ). n % 2 ^ 16) e ∙ add-mul-mod_self_left y (2 ^ 16) l

-- numbers below 2^16 that are equal modulo 2^16 after the same is added are equal
same_step : (a i j : ℕ) → i < 2 ^ 16 → j < 2 ^ 16 → (a + i) % 2 ^ 16 ≡ (a + j) % 2 ^ 16 → i ≡ j
same_step a i j hi hj e = omega arith

-- "Any 65,536 successive hints give different seeds": from any hint on, and across the wrap of 32 bits
pub seeds-differ : (a i j : ℕ) → i < 2 ^ 16 → j < 2 ^ 16 → i ≢ j → seed ((a + i) % 2 ^ 32) ≢ seed ((a + j) % 2 ^ 32)
seeds-differ a i j hi hj differ same =
    let low = same_low ((a + i) % 2 ^ 32) ((a + j) % 2 ^ 32) same in
    differ (same_step a i j hi hj (rw (mod-mod-pow (a + i) 16 16, mod-mod-pow (a + j) 16 16) at low))
