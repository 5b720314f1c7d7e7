-- `round_half_away` is right: the result is a whole number with the sign of x, nearest to x, halves away from zero (`round-nearest`), and there is one such number (`nearest-whole-unique`).
-- * The nearest number to a / c is the quotient of 2a + c by 2c.
-- * From 2 ^ 53 on an f64 is whole already. Below, the number has 53 digits at most. So it is an f64, and rounding it to one changes nothing.
-- Assumes nothing.
use Rattle.std.proofs.Common.{◌≡◌, ℕ, suc, ◌+◌, ◌-◌, ◌*◌, ◌/◌, ◌%◌, ◌^◌, ◌<◌, ◌≤◌, Bool, T, ℤ, pos, negsuc, sym, refl, ap, ◌∙◌, subst, le_of_suc-le-suc, mul-le-mul_right, mod-lt, mul_assoc, mul_comm, div-lt_iff_lt-mul, add-mul, one-mul, div-add-mod', mul-one, mul_left_comm, arith, lit<, pow_pos}
use lib.Ieee.{Float, nan, inf, fin, binary64, up, down, round, fits}
use lib.Ieee.Fits.{down_pos, round-fits}
use lib.Ieee.Exact.{HasValue}
use lib.Ieee.Back.{round_whole, whole_unique}
use lib.Ieee.Nearest.{div_same}
use Rattle.float.specs.Round.{half_up, round_half_away, NearestWhole}
use Rattle.float.proofs.Units.{Fit, fit}
use Rattle.float.proofs.Times.{exact}
use Rattle.float.proofs.Unique.{only_one}

two_pos : {c : ℕ} → 0 < c → 0 < 2 * c
two_pos C = omega arith

-- ---- `half_up`
odd-times : (k c : ℕ) → (2 * k + 1) * c ≡ k * (2 * c) + c
odd-times k c = add-mul (2 * k) 1 c ∙ rw (one-mul c, mul_assoc 2 k c, mul_left_comm 2 k c)

pub half-nearest : (a c : ℕ) → 0 < c → NearestWhole a c (half_up a c)
unfolding half_up
half-nearest a c C =
    let k = (2 * a + c) / (2 * c) in
    let whole : k * (2 * c) + (2 * a + c) % (2 * c) ≡ 2 * a + c = div-add-mod' (2 * a + c) (2 * c) in
    let part : (2 * a + c) % (2 * c) < 2 * c = mod-lt (2 * a + c) (two_pos C) in
    record {
      above = omega (arith, odd-times k c);
      below = λ h.
          let less : (2 * k - 1) * c + c ≡ k * (2 * c) = ap (λ (x : ℕ). (2 * k - 1) * c + x) (sym (one-mul c)) ∙ sym (add-mul (2 * k - 1) 1 c) ∙ back k h c in
          omega arith;
    }
  where
    back : (k : ℕ) → 0 < k → (c : ℕ) → (2 * k - 1 + 1) * c ≡ k * (2 * c)
    back k h c = let e : 2 * k - 1 + 1 ≡ 2 * k = omega arith in ap (λ (x : ℕ). x * c) e ∙ mul_assoc 2 k c ∙ mul_left_comm 2 k c

pub nearest-whole-unique : (a c j k : ℕ) → NearestWhole a c j → NearestWhole a c k → j ≡ k
nearest-whole-unique a c j k p q = only_one (λ h. h * c) (λ x y h. mul-le-mul_right c h) (2 * a) j k p.above p.below q.above q.below

pub half-same : (a c b d : ℕ) → 0 < c → 0 < d → a * d ≡ b * c → half_up a c ≡ half_up b d
unfolding half_up
half-same a c b d C D e =
    let l : (2 * a + c) * (2 * d) ≡ 4 * (a * d) + 2 * (c * d) = opened a c d in
    let r : (2 * b + d) * (2 * c) ≡ 4 * (b * c) + 2 * (d * c) = opened b d c in
    div_same (2 * a + c) (2 * c) (2 * b + d) (2 * d) (two_pos C) (two_pos D) (omega (arith, mul_comm c d))
  where
    opened : (a c d : ℕ) → (2 * a + c) * (2 * d) ≡ 4 * (a * d) + 2 * (c * d)
    opened a c d =
        let p : 2 * a * (2 * d) ≡ 2 * (2 * (a * d)) = mul_assoc 2 a (2 * d) ∙ ap (λ (x : ℕ). 2 * x) (mul_left_comm a 2 d) in
        add-mul (2 * a) c (2 * d) ∙ omega (arith, mul_left_comm c 2 d)

-- ---- the rounded number is an f64
at-whole : (v : ℕ) → half_up v 1 ≡ v
unfolding half_up
at-whole v = omega arith

short : (m d : ℕ) → m < 2 ^ 53 → 0 < d → half_up (m * 1) d ≤ 2 ^ 53
unfolding half_up
short m d M D = le_of_suc-le-suc ((div-lt_iff_lt-mul (two_pos D)).1 (omega arith))

pub whole-value : (s : Bool) (m : ℕ) (e : ℤ) → Fit m e → HasValue (round_half_away (fin s m e)) s (half_up (m * up e) (down e)) 1
unfolding round_half_away
whole-value s m (pos k) f =
    let one : m * 2 ^ k * 1 ≡ m * 2 ^ k = mul-one (m * 2 ^ k) in
    rw (at-whole (m * 2 ^ k))
    (subst (λ (v : ℕ). HasValue (round binary64 s v 1) s v 1) one (exact 0 s m (pos k) f (rw one f.small)))
whole-value s m (negsuc k) f = round_whole binary64 s (half_up (m * 1) (2 ^ suc k)) (short m (2 ^ suc k) f.few (pow_pos (suc k)))

pub round-nearest : (x : Float) (s : Bool) (a c : ℕ) → T (fits binary64 x) → 0 < c → HasValue x s a c
    → HasValue (round_half_away x) s (half_up a c) 1 × NearestWhole a c (half_up a c)
round-nearest nan s a c t C v = absurd v
round-nearest (inf r) s a c t C v = absurd v
round-nearest (fin r m e) s a c t C v = (
  subst (λ (k : ℕ). HasValue (round_half_away (fin r m e)) s k 1) (half-same (m * up e) (down e) a c (down_pos e) C v.1)
      (subst (λ (b : Bool). HasValue (round_half_away (fin r m e)) b (half_up (m * up e) (down e)) 1) v.0 (whole-value r m e (fit r m e t))),
  half-nearest a c C,
)

-- a whole number is its own nearest
pub whole-stays : (x : Float) (s : Bool) (c : ℕ) → T (fits binary64 x) → HasValue x s c 1 → x ≡ round_half_away x
unfolding round_half_away
whole-stays nan s c t v = refl
whole-stays (inf r) s c t v = refl
whole-stays (fin r m e) s c t v =
    whole_unique binary64 (fin r m e) (round_half_away (fin r m e)) s c t (round-fits binary64 r _ 1) v
    (subst (λ (k : ℕ). HasValue (round_half_away (fin r m e)) s k 1) (at-whole c) (round-nearest (fin r m e) s c 1 t (lit< tt) v).0)
