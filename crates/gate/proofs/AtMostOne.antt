-- "The answer .. lies from −1 to 1": the exact quotient does, and rounding keeps the order. Assumes nothing.
use Rattle.std.proofs.Common.{◌≡◌, ℕ, zero, suc, ◌+◌, ◌*◌, ◌^◌, ◌<◌, ◌≤◌, Bool, true, false, cond, not, ◌&&◌, ◌||◌, T, eqb, ltb, ℤ, pos, nat_abs, sym, refl, subst, inl, inr, zero-le, le_trans, le_of_eq, eq-or-lt_of_le, one-mul, mul-one, arith, lit<, lit≤, eqb→eq, ltb→lt, lt→ltb}
use lib.Signed.{non_neg}
use lib.Ieee.{Float, nan, inf, fin, binary64, low, odd, units, round, up, down, unlike, div, le}
use lib.Ieee.Fits.{round_is, down_pos, eq→eqb}
use lib.Ieee.Order.{kept, drop, round_mono}
use Rattle.laws.specs.Scaled.{of_scaled}
use Rattle.laws.proofs.Finite.{scaled-val, div-at}
use Rattle.laws.specs.Constants.{one}
use Rattle.gate.specs.AtMostOne.{AtMostOne}

-- finite, of sign s, and at most 1 in size
abbrev UpToOne : Bool → Float → Type 0
UpToOne s nan = ⊥
UpToOne s (inf t) = ⊥
UpToOne s (fin t m e) = (t ≡ s) × (m * up e ≤ down e)

-- ---- a small number lies within
or_left : (x y : Bool) → T x → (x || y) ≡ true
or_left true y t = refl
or_left false y t = absurd t

or_right : (x y : Bool) → T y → (x || (y && true)) ≡ true
or_right true y t = refl
or_right false true t = refl
or_right false false t = absurd t

-- "less, or equal", in either order of the second test
level : (a b : ℕ) (y : Bool) → a ≤ b → (a ≡ b → T y) → (ltb a b || (y && true)) ≡ true
level a b y h k = elim (eq-or-lt_of_le h) [ inl p ↦ or_right (ltb a b) y (k p) | inr q ↦ or_left (ltb a b) (y && true) (lt→ltb a b q) ]

up-to-within : (s : Bool) (x : Float) → UpToOne s x → AtMostOne x
unfolding le round
up-to-within s nan v = absurd v
up-to-within s (inf t) v = absurd v
up-to-within s (fin true m e) v =
    let h : m * up e * 1 ≤ 1 * down e = omega (arith, v.1) in
    let p : 0 < m * up e * 1 + 1 * down e = omega (arith, down_pos e) in
    record { least = level (m * up e * 1) (1 * down e) (eqb (1 * down e) (m * up e * 1)) h (λ q. eq→eqb (sym q)); most = or_left (ltb 0 (m * up e * 1 + 1 * down e)) (eqb (m * up e * 1) (1 * down e) && eqb (m * up e * 1) 0) (lt→ltb 0 (m * up e * 1 + 1 * down e) p) }
up-to-within s (fin false m e) v =
    let h : m * up e * 1 ≤ 1 * down e = omega (arith, v.1) in
    let p : 0 < 1 * down e + m * up e * 1 = omega (arith, down_pos e) in
    record { least = or_left (ltb 0 (1 * down e + m * up e * 1)) (eqb (1 * down e) (m * up e * 1) && eqb (1 * down e) 0) (lt→ltb 0 (1 * down e + m * up e * 1) p); most = level (m * up e * 1) (1 * down e) (eqb (m * up e * 1) (1 * down e)) h (λ q. eq→eqb q) }

-- ---- rounding a fraction of at most 1
at_most : (a b : ℕ) → T (ltb a b || (eqb a b && true)) → a ≤ b
at_most a b t = go (ltb a b) (eqb a b) (ltb→lt a b) (eqb→eq a b) t
  where
    go : (x y : Bool) → (T x → a < b) → (T y → a ≡ b) → T (x || (y && true)) → a ≤ b
    go true y p q t = let h = p tt in omega arith
    go false true p q t = le_of_eq (q tt)
    go false false p q t = absurd t

up-to-fin : (s : Bool) (m : ℕ) (e : ℤ) → T (le (fin false m e) one) → UpToOne s (fin s m e)
unfolding le round
up-to-fin s m e t = (refl, omega (arith, at_most (m * up e * 1) (1 * down e) t))

up-to-odd : (d : ℕ) (s : Bool) (q k l : ℕ) → T (le (odd d false q k l) one) → UpToOne s (odd d s q k l)
unfolding odd
up-to-odd d s zero k l t = (refl, zero-le)
up-to-odd d s (suc q) k l t = up-to-fin s _ _ t

up-to-units : (s : Bool) (q k : ℕ) → T (le (units binary64 false q k) one) → UpToOne s (units binary64 s q k)
unfolding units le round
up-to-units s q k t = go (ltb (q * 2 ^ k) (2 ^ 2098)) t
  where
    go : (b : Bool) → T (le (cond b (odd 54 false q k 1074) (inf false)) one) → UpToOne s (cond b (odd 54 s q k 1074) (inf s))
    go true t = up-to-odd 54 s q k 1074 t
    go false t = absurd t

up-to-round : (s : Bool) (a b : ℕ) → 0 < b → a ≤ b → UpToOne s (round binary64 s a b)
unfolding round
up-to-round s a b B h =
    subst (UpToOne s) (sym (round_is binary64 s a b))
    (up-to-units s (kept 53 (a * 2 ^ low binary64) b) (drop 53 (a * 2 ^ low binary64) b) (subst (λ (x : Float). T (le x one)) (round_is binary64 false a b) (round_mono binary64 a b 1 1 B (lit< tt) (omega arith))))

-- ---- the quotient of two sums
pub quotient-within : (a : ℤ) (b : ℕ) → 0 < b → b ≤ 2 ^ 53 → nat_abs a ≤ b → AtMostOne (div binary64 (of_scaled 0 a) (of_scaled 0 (pos b)))
unfolding of_scaled
quotient-within a b B most h =
    let s = not (non_neg a) in
    subst AtMostOne
    (sym (div-at binary64 _ _ s (nat_abs a) 1 false b 1 (lit< tt) (lit< tt) B (scaled-val binary64 s (nat_abs a) 0 (le_trans h most) (lit≤ tt)) (scaled-val binary64 false b 0 most (lit≤ tt))))
    (up-to-within (unlike s false) _ (up-to-round (unlike s false) (nat_abs a * 1) (1 * b) (le_trans B (le_of_eq (sym (one-mul b)))) (le_trans (le_of_eq (mul-one (nat_abs a))) (le_trans h (le_of_eq (sym (one-mul b)))))))
