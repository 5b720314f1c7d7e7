-- The quantiser's steps are the words: `quant_ar c` is `coefficient c` for every f64 (`quant-is-coefficient`), and what it gives can be written in 8 bits (`quant-written`, `coefficient-written`).
-- A hold to 32 bits before the hold to 8 changes nothing (`hold-side`). Assumes nothing.
use Rattle.std.proofs.Common.{◌≡◌, ℕ, zero, suc, ◌+◌, ◌-◌, ◌*◌, ◌^◌, ◌<◌, ◌≤◌, min, Bool, true, false, cond, T, ℤ, pos, negsuc, ◌+ℤ◌, ◌-ℤ◌, neg_ℤ, sym, refl, ap, ◌∙◌, subst, lt_of_not-le, arith, lit<, le-ltb, lt-ltb}
use native.Mathlib.Decide.{dec_le}
use lib.IntN.{+ℤ_comm, +ℤ-neg_ℤ_cancel, pos-+ℤ-pos}
use lib.Ieee.{Float, nan, inf, fin, binary64, up, down, mul, fits, round, to_signed}
use Rattle.laws.specs.Constants.{sixty_four}
use Rattle.float.specs.Clamp.{clamp_of}
use Rattle.float.specs.Round.{half_up, round_half_away}
use Rattle.float.specs.Steps.{quant_ar}
use Rattle.float.specs.Coefficient.{times64, held, coefficient, Written}
use Rattle.float.proofs.Cut.{side}
use Rattle.float.proofs.Rounded64.{rounded-is}

-- ---- held to −128..127
abbrev hold : ℤ → ℤ
hold z = clamp_of z (neg_ℤ (pos 128)) (pos 127)

-- n with a sign, held: the smaller of it and the end
abbrev ends : Bool → ℕ → ℤ
ends s n = cond s (neg_ℤ (pos (min n 128))) (pos (min n 127))

hold-pos : (n : ℕ) → hold (pos n) ≡ pos (min n 127)
unfolding clamp_of
hold-pos n =
    elim (dec_le n 127) [
      | yes h ↦ rw (le-ltb 127 n h) (ap pos (low n h))
      | no f ↦ let h : 127 < n = lt_of_not-le f in rw (lt-ltb 127 n h) (ap pos (high n h))
    ]
  where
    low : (n : ℕ) → n ≤ 127 → n ≡ min n 127
    low n h = omega arith

    high : (n : ℕ) → 127 < n → 127 ≡ min n 127
    high n h = omega arith

hold-neg : (n : ℕ) → hold (neg_ℤ (pos n)) ≡ neg_ℤ (pos (min n 128))
unfolding clamp_of
hold-neg zero = refl
hold-neg (suc n) =
    elim (dec_le n 127) [
      | yes h ↦ rw (le-ltb 127 n h) (ap (λ (x : ℕ). neg_ℤ (pos x)) (low n h))
      | no f ↦ let h : 127 < n = lt_of_not-le f in rw (lt-ltb 127 n h) (ap (λ (x : ℕ). neg_ℤ (pos x)) (high n h))
    ]
  where
    low : (n : ℕ) → n ≤ 127 → suc n ≡ min (suc n) 128
    low n h = omega arith

    high : (n : ℕ) → 127 < n → 128 ≡ min (suc n) 128
    high n h = omega arith

hold-signed : (s : Bool) (n : ℕ) → hold (cond s (neg_ℤ (pos n)) (pos n)) ≡ ends s n
hold-signed true n = hold-neg n
hold-signed false n = hold-pos n

hold-side : (s : Bool) (n : ℕ) → hold (side 31 s n) ≡ ends s n
hold-side true n = hold-neg (min n (2 ^ 31)) ∙ ap (λ (x : ℕ). neg_ℤ (pos x)) (twice n)
  where
    twice : (n : ℕ) → min (min n (2 ^ 31)) 128 ≡ min n 128
    twice n = omega arith
hold-side false n = hold-pos (min n (2 ^ 31 - 1)) ∙ ap pos (twice n)
  where
    twice : (n : ℕ) → min (min n (2 ^ 31 - 1)) 127 ≡ min n 127
    twice n = omega arith

-- ---- the steps
finite-steps : (s : Bool) (m : ℕ) (e : ℤ) → T (fits binary64 (fin s m e)) → quant_ar (fin s m e) ≡ coefficient (fin s m e)
unfolding quant_ar coefficient times64 held
finite-steps s m e t =
    let k = half_up (64 * (m * up e)) (down e) in
    ap hold (rounded-is s m e t) ∙ hold-side s k ∙ sym (hold-signed s k)

pub quant-is-coefficient : (c : Float) → T (fits binary64 c) → quant_ar c ≡ coefficient c
unfolding quant_ar round mul round_half_away to_signed clamp_of coefficient times64 held
quant-is-coefficient nan t = refl
quant-is-coefficient (inf true) t = refl
quant-is-coefficient (inf false) t = refl
quant-is-coefficient (fin s m e) t = finite-steps s m e t

-- ---- 8 bits
written : (z : ℤ) (n : ℕ) → n < 2 ^ 8 → z +ℤ pos 128 ≡ pos n → Written z
written z n h e = record { field = n; bits = h; is = sym (+ℤ-neg_ℤ_cancel z (pos 128)) ∙ ap (λ (y : ℤ). y -ℤ pos 128) e }

ends-written : (s : Bool) (n : ℕ) → Written (ends s n)
ends-written true n = below (min n 128) (small n)
  where
    small : (n : ℕ) → min n 128 ≤ 128
    small n = omega arith

    below : (j : ℕ) → j ≤ 128 → Written (neg_ℤ (pos j))
    below j h =
        let back : 128 - j + j ≡ 128 = omega arith in
        written (neg_ℤ (pos j)) (128 - j) (omega arith)
        (+ℤ_comm (neg_ℤ (pos j)) (pos 128) ∙ ap (λ (x : ℕ). pos x -ℤ pos j) (sym back) ∙ ap (λ (y : ℤ). y -ℤ pos j) (sym (pos-+ℤ-pos (128 - j) j)) ∙ +ℤ-neg_ℤ_cancel (pos (128 - j)) (pos j))
ends-written false n = written (pos (min n 127)) (min n 127 + 128) (small n) (pos-+ℤ-pos (min n 127) 128)
  where
    small : (n : ℕ) → min n 127 + 128 < 2 ^ 8
    small n = omega arith

hold-written : (z : ℤ) → Written (hold z)
hold-written (pos n) = subst Written (sym (hold-pos n)) (ends-written false n)
hold-written (negsuc n) = subst Written (sym (hold-neg (suc n))) (ends-written true (suc n))

pub quant-written : (c : Float) → Written (quant_ar c)
unfolding quant_ar
quant-written c = hold-written (to_signed 31 (round_half_away (mul binary64 c sixty_four)))

pub coefficient-written : (c : Float) → Written (coefficient c)
unfolding coefficient times64 held
coefficient-written nan = record { field = 128; bits = lit< tt; is = refl }
coefficient-written (inf true) = record { field = 0; bits = lit< tt; is = refl }
coefficient-written (inf false) = record { field = 255; bits = lit< tt; is = refl }
coefficient-written (fin s m e) = let n = half_up (64 * (m * up e)) (down e) in hold-written (cond s (neg_ℤ (pos n)) (pos n))
