-- A float to an integer, from any fraction a / c that the float equals: the quotient, held to the range. Assumes nothing.
use Rattle.std.proofs.Common.{◌≡◌, ℕ, ◌-◌, ◌*◌, ◌/◌, ◌^◌, ◌<◌, min, Bool, true, false, cond, ℤ, pos, neg_ℤ, ap, ◌∙◌, true≢false}
use lib.Ieee.{Float, nan, inf, fin, up, down, to_unsigned, to_signed}
use lib.Ieee.Fits.{down_pos}
use lib.Ieee.Exact.{HasValue}
use lib.Ieee.Nearest.{div_same}

pub unsigned-cut : (w : ℕ) (x : Float) (a c : ℕ) → 0 < c → HasValue x false a c → to_unsigned w x ≡ min (a / c) (2 ^ w - 1)
unfolding to_unsigned
unsigned-cut w nan a c C v = absurd v
unsigned-cut w (inf s) a c C v = absurd v
unsigned-cut w (fin true m e) a c C v = absurd (true≢false v.0)
unsigned-cut w (fin false m e) a c C v = ap (λ (q : ℕ). min q (2 ^ w - 1)) (div_same (m * up e) (down e) a c (down_pos e) C v.1)

-- n with a sign, held to a range of h bits and the sign
abbrev pub side : ℕ → Bool → ℕ → ℤ
side h s n = cond s (neg_ℤ (pos (min n (2 ^ h)))) (pos (min n (2 ^ h - 1)))

pub signed_cut : (h : ℕ) (x : Float) (s : Bool) (a c : ℕ) → 0 < c → HasValue x s a c → to_signed h x ≡ side h s (a / c)
unfolding to_signed
signed_cut h nan s a c C v = absurd v
signed_cut h (inf t) s a c C v = absurd v
signed_cut h (fin t m e) s a c C v =
    ap (λ (b : Bool). side h b (m * up e / down e)) v.0 ∙ ap (side h s) (div_same (m * up e) (down e) a c (down_pos e) C v.1)
