-- An operation on two finite floats is the rounding of the exact result, whatever fractions the floats are written as: `add_at`, `mul_at`, `div-at`.
-- A whole number of 2 ^ k-ths, up to 2 ^ prec of them, is a value of the format: `scaled-val`. Assumes nothing.
use mathlib.Core.Path.{◌≡◌, refl, sym, ap, ◌∙◌, subst}
use mathlib.Core.Logic.{◌⊎◌, inl, inr}
use Prim.Native.Nat.{ℕ, zero, suc, ◌+◌, ◌-◌, ◌*◌, ◌^◌, ◌≤◌, ◌<◌}
use native.Mathlib.Nat.{le_trans, le_of_eq, lt_of_le_of_lt, eq-or-lt_of_le, mul-le-mul_right, mul-one, mul_assoc, mul_comm, mul_right_comm, mul-mul-mul_comm, mul-sub, add-mul, mul-pos, one-mul, lt_irrefl, mul-lt-mul_of_pos_right, lt_of_mul-lt-mul_right}
use native.Mathlib.Omega.{arith}
use mathlib.Core.Bool.{Bool, true, false, cond, ◌&&◌, beq}
use lib.Dec.{T, ltb, eqb, ltb→lt, lt→ltb, eqb-suc-zero, lit<}
use lib.Pow.{pow_pos, pow-add, pow-lt}
use lib.Ieee.{Float, nan, inf, fin, Format, binary32, binary64, prec, emax, low, up, down, unlike, round, sum, add, mul, div}
use lib.Ieee.Digits.{back}
use lib.Ieee.Fits.{down_pos}
use lib.Ieee.Exact.{HasValue, round_exact}
use lib.Ieee.Scale.{round_same}
use lib.Ieee.Positive.{first_pos}

-- ---- exact values: q * 2 ^ i of the 2 ^ k-ths, where q has no more digits than the format keeps
reach-lt : (f : Format) → prec f < suc (emax f)
reach-lt binary32 = lit< tt
reach-lt binary64 = lit< tt

one-lt : (f : Format) → 1 < 2 ^ prec f
one-lt binary32 = lit< tt
one-lt binary64 = lit< tt

scaled_at : (f : Format) (s : Bool) (q i k : ℕ) → q < 2 ^ prec f → q * 2 ^ i ≤ 2 ^ prec f → k ≤ low f → HasValue (round f s (q * 2 ^ i) (2 ^ k)) s (q * 2 ^ i) (2 ^ k)
scaled_at f s q i k h l g =
    let r = low f - k in
    let e : q * 2 ^ (i + r) ≡ q * 2 ^ i * 2 ^ r = ap (λ (x : ℕ). q * x) (pow-add 2 i r) ∙ sym (mul_assoc q (2 ^ i) (2 ^ r)) in
    round_exact f s (q * 2 ^ i) (2 ^ k) q (i + r) (pow_pos k) h
    (lt_of_le_of_lt (le_trans (le_of_eq e) (le_trans (mul-le-mul_right (2 ^ r) l) (le_of_eq (sym (pow-add 2 (prec f) r)))))
    (pow-lt (room (prec f) (low f) k (suc (emax f)) (reach-lt f))))
    (ap (λ (x : ℕ). q * 2 ^ i * x) (ap (λ (x : ℕ). 2 ^ x) (sym (back (low f) k g)) ∙ pow-add 2 r k)
    ∙ sym (mul_assoc (q * 2 ^ i) (2 ^ r) (2 ^ k))
    ∙ ap (λ (x : ℕ). x * 2 ^ k) (sym e))
  where
    room : (p l k e : ℕ) → p < e → p + (l - k) < l + e
    room p l k e h = omega arith

pub scaled-val : (f : Format) (s : Bool) (n k : ℕ) → n ≤ 2 ^ prec f → k ≤ low f → HasValue (round f s n (2 ^ k)) s n (2 ^ k)
scaled-val f s n k h g = go (eq-or-lt_of_le h)
  where
    is : (m : ℕ) → m ≡ n → HasValue (round f s m (2 ^ k)) s m (2 ^ k) → HasValue (round f s n (2 ^ k)) s n (2 ^ k)
    is m e v = subst (λ (x : ℕ). HasValue (round f s x (2 ^ k)) s x (2 ^ k)) e v

    go : (n ≡ 2 ^ prec f) ⊎ (n < 2 ^ prec f) → HasValue (round f s n (2 ^ k)) s n (2 ^ k)
    go (inl e) = is (1 * 2 ^ prec f) (one-mul (2 ^ prec f) ∙ sym e) (scaled_at f s 1 (prec f) k (one-lt f) (le_of_eq (one-mul (2 ^ prec f))) g)
    go (inr l) = is (n * 2 ^ 0) (mul-one n) (scaled_at f s n 0 k l (le_trans (le_of_eq (mul-one n)) h) g)

-- ---- the sum
ltb-of : (A B a b : ℕ) → (A < B → a < b) → (a < b → A < B) → ltb A B ≡ ltb a b
ltb-of A B a b p q = go (ltb A B) (ltb a b) (λ t. lt→ltb a b (p (ltb→lt A B t))) (λ t. lt→ltb A B (q (ltb→lt a b t)))
  where
    go : (x y : Bool) → (T x → T y) → (T y → T x) → x ≡ y
    go true true f g = refl
    go true false f g = absurd (f tt)
    go false true f g = absurd (g tt)
    go false false f g = refl

lt_same : (A B C a b c : ℕ) → 0 < c → A * c ≡ a * C → B * c ≡ b * C → A < B → a < b
lt_same A B C a b c K p q h = lt_of_mul-lt-mul_right C (subst (λ (x : ℕ). x < b * C) p (subst (λ (x : ℕ). A * c < x) q (mul-lt-mul_of_pos_right h K)))

ltb-same : (A B C a b c : ℕ) → 0 < C → 0 < c → A * c ≡ a * C → B * c ≡ b * C → ltb A B ≡ ltb a b
ltb-same A B C a b c K k p q = ltb-of A B a b (lt_same A B C a b c k p q) (lt_same a b c A B C K (sym p) (sym q))

sub-mul : (m n k : ℕ) → (m - n) * k ≡ m * k - n * k
sub-mul m n k = mul_comm (m - n) k ∙ mul-sub k m n ∙ (λ i. mul_comm k m i - mul_comm k n i)

add_same : (A B C a b c : ℕ) → A * c ≡ a * C → B * c ≡ b * C → (A + B) * c ≡ (a + b) * C
add_same A B C a b c p q = add-mul A B c ∙ (λ i. p i + q i) ∙ sym (add-mul a b C)

sub_same : (A B C a b c : ℕ) → A * c ≡ a * C → B * c ≡ b * C → (A - B) * c ≡ (a - b) * C
sub_same A B C a b c p q = sub-mul A B c ∙ (λ i. p i - q i) ∙ sym (sub-mul a b C)

sum_same : (f : Format) (s : Bool) (A : ℕ) (t : Bool) (B C a b c : ℕ) → 0 < C → 0 < c → A * c ≡ a * C → B * c ≡ b * C → sum f s A t B C ≡ sum f s a t b c
unfolding sum
sum_same f s A t B C a b c K k p q =
    let p₁ : round f s (A + B) C ≡ round f s (a + b) c = round_same f s (A + B) C (a + b) c K k (add_same A B C a b c p q) in
    let p₂ : round f t (B - A) C ≡ round f t (b - a) c = round_same f t (B - A) C (b - a) c K k (sub_same B A C b a c q p) in
    let l : ltb A B ≡ ltb a b = ltb-same A B C a b c K k p q in
    let r : ltb B A ≡ ltb b a = ltb-same B A C b a c K k q p in
    let p₃ : round f (s && ltb B A) (A - B) C ≡ round f (s && ltb b a) (a - b) c =
    ap (λ (u : Bool). round f (s && u) (A - B) C) r ∙ round_same f (s && ltb b a) (A - B) C (a - b) c K k (sub_same A B C a b c p q) in
    λ i. cond (beq s t) (p₁ i) (cond (l i) (p₂ i) (p₃ i))

pub add_at : (f : Format) (x y : Float) (s : Bool) (a : ℕ) (t : Bool) (b c : ℕ) → 0 < c → HasValue x s a c → HasValue y t b c → add f x y ≡ sum f s a t b c
unfolding add
add_at f nan y s a t b c k v w = absurd v
add_at f (inf u) y s a t b c k v w = absurd v
add_at f (fin u m e) nan s a t b c k v w = absurd w
add_at f (fin u m e) (inf r) s a t b c k v w = absurd w
add_at f (fin u m e) (fin r n d) s a t b c k v w =
    (λ i. sum f (v.0 i) (m * up e * down d) (w.0 i) (n * up d * down e) (down e * down d))
    ∙ sum_same f s (m * up e * down d) t (n * up d * down e) (down e * down d) a b c (mul-pos (down_pos e) (down_pos d)) k
    (mul_right_comm (m * up e) (down d) c ∙ ap (λ (z : ℕ). z * down d) v.1 ∙ mul_assoc a (down e) (down d))
    (mul_right_comm (n * up d) (down e) c ∙ ap (λ (z : ℕ). z * down e) w.1 ∙ mul_assoc b (down d) (down e) ∙ ap (λ (z : ℕ). b * z) (mul_comm (down d) (down e)))

-- ---- the product
pub mul_at : (f : Format) (x y : Float) (s : Bool) (a c : ℕ) (t : Bool) (b d : ℕ) → 0 < c → 0 < d → HasValue x s a c → HasValue y t b d → mul f x y ≡ round f (unlike s t) (a * b) (c * d)
unfolding mul
mul_at f nan y s a c t b d k l v w = absurd v
mul_at f (inf u) y s a c t b d k l v w = absurd v
mul_at f (fin u m e) nan s a c t b d k l v w = absurd w
mul_at f (fin u m e) (inf r) s a c t b d k l v w = absurd w
mul_at f (fin u m e) (fin r n g) s a c t b d k l v w =
    (λ i. round f (unlike (v.0 i) (w.0 i)) (m * up e * (n * up g)) (down e * down g))
    ∙ round_same f (unlike s t) (m * up e * (n * up g)) (down e * down g) (a * b) (c * d) (mul-pos (down_pos e) (down_pos g)) (mul-pos k l)
    (mul-mul-mul_comm (m * up e) (n * up g) c d ∙ (λ i. v.1 i * w.1 i) ∙ mul-mul-mul_comm a (down e) b (down g))

-- ---- the quotient by a float that is not zero
not-zero : (n : ℕ) → 0 < n → eqb n 0 ≡ false
not-zero zero h = absurd (lt_irrefl 0 h)
not-zero (suc n) h = eqb-suc-zero n

pub div-at : (f : Format) (x y : Float) (s : Bool) (a c : ℕ) (t : Bool) (b d : ℕ) → 0 < c → 0 < d → 0 < b → HasValue x s a c → HasValue y t b d → div f x y ≡ round f (unlike s t) (a * d) (c * b)
unfolding div
div-at f nan y s a c t b d k l B v w = absurd v
div-at f (inf u) y s a c t b d k l B v w = absurd v
div-at f (fin u m e) nan s a c t b d k l B v w = absurd w
div-at f (fin u m e) (inf r) s a c t b d k l B v w = absurd w
div-at f (fin u m e) (fin r n g) s a c t b d k l B v w =
    let p : 0 < n * up g = first_pos (n * up g) d (subst (λ (x : ℕ). 0 < x) (sym w.1) (mul-pos B (down_pos g))) in
    ap (λ (z : Bool). cond z (cond (eqb m 0) nan (inf (unlike u r))) (round f (unlike u r) (m * up e * down g) (n * up g * down e))) (not-zero n (first_pos n (up g) p))
    ∙ (λ i. round f (unlike (v.0 i) (w.0 i)) (m * up e * down g) (n * up g * down e))
    ∙ round_same f (unlike s t) (m * up e * down g) (n * up g * down e) (a * d) (c * b) (mul-pos p (down_pos e)) (mul-pos k B)
    (mul-mul-mul_comm (m * up e) (down g) c b
    ∙ (λ i. v.1 i * mul_comm (down g) b i)
    ∙ (λ i. a * down e * sym w.1 i)
    ∙ swap a (down e) (n * up g) d)
  where
    swap : (p q r z : ℕ) → p * q * (r * z) ≡ p * z * (r * q)
    swap p q r z = ap (λ (x : ℕ). p * q * x) (mul_comm r z) ∙ mul-mul-mul_comm p q z r ∙ ap (λ (x : ℕ). p * z * x) (mul_comm q r)
