-- The coefficient is the rounded value exactly where the mark is inside (`inside-exactly`), and no number is marked NaN (`number-marked`). Assumes nothing.
use Rattle.std.proofs.Common.{◌≡◌, ◌*◌, Bool, true, false, cond, T, ℤ, pos, neg_ℤ, sym, refl, ap, ◌∙◌, true≢false, arith}
use lib.Signed.{lt_z}
use lib.Ieee.{Float, nan, inf, fin, binary64, up, down, fits, is_nan}
use Rattle.float.specs.Clamp.{clamp_of}
use Rattle.float.specs.Coefficient.{Times64, of_no_number, below, above, nearest, times64, held, coefficient}
use Rattle.float.specs.Mark.{mark_of, mark, number, InsideExactly}
use Rattle.float.specs.declared.quant.Mark.TheVariants.{Inside, HeldLow, HeldHigh, NotANumber}
use Rattle.float.specs.Round.{half_up}
use Rattle.float.proofs.Coefficient.{quant-is-coefficient}

module _ (z : ℤ) where
  abbrev low : ℤ
  low = neg_ℤ (pos 128)

  abbrev high : ℤ
  high = pos 127

  unheld-of : (a b : Bool) → lt_z z low ≡ a → lt_z high z ≡ b → cond a HeldLow (cond b HeldHigh Inside) ≡ Inside → z ≡ cond a low (cond b high z)
  unheld-of true b p q e = cc
  unheld-of false true p q e = cc
  unheld-of false false p q e = refl

  inside_of : (a b : Bool) → lt_z z low ≡ a → lt_z high z ≡ b → z ≡ cond a low (cond b high z) → cond a HeldLow (cond b HeldHigh Inside) ≡ Inside
  inside_of true b p q e = let l : lt_z z low ≡ false = ap (λ (x : ℤ). lt_z x low) e in cc
  inside_of false true p q e = let l : lt_z high z ≡ false = ap (λ (x : ℤ). lt_z high x) e in cc
  inside_of false false p q e = refl

unheld : (t : Times64) → mark_of t ≡ Inside → t ≡ nearest (held t)
unfolding mark_of held clamp_of
unheld of_no_number e = cc
unheld below e = cc
unheld above e = cc
unheld (nearest z) e = ap nearest (unheld-of z _ _ refl refl e)

stays-inside : (t : Times64) → t ≡ nearest (held t) → mark_of t ≡ Inside
unfolding mark_of held clamp_of
stays-inside of_no_number e = cc
stays-inside below e = cc
stays-inside above e = cc
stays-inside (nearest z) e = inside_of z _ _ refl refl cc

pub inside-exactly : (c : Float) → T (fits binary64 c) → InsideExactly c
unfolding mark coefficient
inside-exactly c t =
    let q = quant-is-coefficient c t in
    record {
      rounded = λ e. unheld (times64 c) e ∙ ap nearest (sym q);
      unheld = λ e. stays-inside (times64 c) (e ∙ ap nearest q);
    }

-- what is not NaN is not marked so
held_number : (a b : Bool) → number (cond a HeldLow (cond b HeldHigh Inside)) ≡ number NotANumber → ⊥
held_number true b e = omega arith
held_number false true e = omega arith
held_number false false e = omega arith

pub number-marked : (x : Float) → is_nan x ≡ false → number (mark x) ≡ number NotANumber → ⊥
unfolding is_nan mark
number-marked nan n e = true≢false n
number-marked (inf true) n e = omega arith
number-marked (inf false) n e = omega arith
number-marked (fin s m d) n e =
    let k = half_up (64 * (m * up d)) (down d) in
    let z = cond s (neg_ℤ (pos k)) (pos k) in
    held_number (lt_z z (neg_ℤ (pos 128))) (lt_z (pos 127) z) e
