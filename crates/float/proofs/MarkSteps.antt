-- The mark is told by the rounded value as an i32, unless that comes of a NaN (`mark-steps`), and so by the tests that the code makes. Assumes nothing.
use Rattle.std.proofs.Common.{◌≡◌, ℕ, zero, suc, ◌-◌, ◌*◌, ◌^◌, ◌<◌, min, Bool, true, false, cond, T, ltb, ℤ, pos, neg_ℤ, sym, refl, ap, ◌∙◌, subst, true≢false, lt_of_not-le, arith, le-ltb, lt-ltb}
use native.Mathlib.Decide.{dec_le}
use lib.Signed.{lt_z}
use lib.Ieee.{Float, nan, inf, fin, binary64, up, down, mul, fits, round, to_signed, is_nan}
use Rattle.float.specs.Coefficient.{nearest, times64}
use Rattle.float.specs.Mark.{mark_of, mark}
use Rattle.float.specs.declared.quant.Mark.TheVariants.{Inside, HeldLow, HeldHigh, NotANumber}
use Rattle.float.specs.Round.{half_up, round_half_away}
use Rattle.float.specs.Steps.{rounded64}
use Rattle.float.proofs.Cut.{side}
use Rattle.float.proofs.Rounded64.{rounded-is}

-- a hold to 32 bits changes no mark
above-end : (n : ℕ) → ltb 127 (min n (2 ^ 31 - 1)) ≡ ltb 127 n
above-end n =
    elim (dec_le n 127) [
      | yes h ↦ le-ltb 127 (min n (2 ^ 31 - 1)) (omega arith) ∙ sym (le-ltb 127 n h)
      | no f ↦ let h : 127 < n = lt_of_not-le f in lt-ltb 127 (min n (2 ^ 31 - 1)) (omega arith) ∙ sym (lt-ltb 127 n h)
    ]

mark-side : (s : Bool) (n : ℕ) → mark_of (nearest (side 31 s n)) ≡ mark_of (nearest (cond s (neg_ℤ (pos n)) (pos n)))
unfolding mark_of
mark-side false n = ap (λ (b : Bool). cond b HeldHigh Inside) (above-end n)
mark-side true zero = refl
mark-side true (suc n) =
    ap (λ (x : ℕ). mark_of (nearest (neg_ℤ (pos x)))) (down-one n)
    ∙ ap (λ (b : Bool). cond b HeldLow Inside) (above-end n)
  where
    down-one : (n : ℕ) → min (suc n) (2 ^ 31) ≡ suc (min n (2 ^ 31 - 1))
    down-one n = omega arith

mark-steps : (c : Float) → fits binary64 c ≡ true → is_nan c ≡ false → mark_of (nearest (rounded64 c)) ≡ mark c
unfolding mark_of mark times64 mul round round_half_away to_signed is_nan
mark-steps nan t f = absurd (true≢false f)
mark-steps (inf true) t f = refl
mark-steps (inf false) t f = refl
mark-steps (fin s m e) t f = ap (λ (z : ℤ). mark_of (nearest z)) (rounded-is s m e (subst T (sym t) tt)) ∙ mark-side s (half_up (64 * (m * up e)) (down e))

-- ---- as the code comes to it: the rounded value and its tests
pub no_number : (c : Float) → is_nan c ≡ true → NotANumber ≡ mark c
unfolding mark mark_of times64 is_nan
no_number nan e = refl
no_number (inf s) e = absurd (true≢false (sym e))
no_number (fin s m d) e = absurd (true≢false (sym e))

module _ (c : Float) (t : fits binary64 c ≡ true) (f : is_nan c ≡ false) (z : ℤ) (is : z ≡ rounded64 c) where
  marked : mark_of (nearest z) ≡ mark c
  marked = ap (λ (x : ℤ). mark_of (nearest x)) is ∙ mark-steps c t f

  pub low_end : lt_z z (neg_ℤ (pos 128)) ≡ true → HeldLow ≡ mark c
  unfolding mark_of
  low_end a = rw a at marked

  pub high_end : lt_z z (neg_ℤ (pos 128)) ≡ false → lt_z (pos 127) z ≡ true → HeldHigh ≡ mark c
  unfolding mark_of
  high_end a b = rw (a, b) at marked

  pub between : lt_z z (neg_ℤ (pos 128)) ≡ false → lt_z (pos 127) z ≡ false → Inside ≡ mark c
  unfolding mark_of
  between a b = rw (a, b) at marked
