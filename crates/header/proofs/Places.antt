-- Where the bits stand: bit i is the bit of byte i / 8 that i % 8 higher ones precede, the fill is zeros, and bytes past the bits remain. Assumes nothing.
use mathlib.Core.Path.{◌≡◌, refl, sym, ap, ◌∙◌}
use mathlib.Core.Bool.{Bool, true, false, cond}
use mathlib.Core.List.{List, [], ◌∷◌}
use Prim.Native.Nat.{ℕ, zero, suc, ◌+◌, ◌-◌, ◌*◌, ◌/◌, ◌%◌, ◌^◌, ◌<◌, ◌≤◌}
use native.Mathlib.Omega.{arith}
use native.Mathlib.Nat.{mul_assoc, mul-add-div_right, mul-add-mod_self_right, mod-eq_of_lt}
use lib.Dec.{ltb}
use lib.Pow.{pow-add, pow_pos, high}
use lib.ListN.{length, get_or, get_or-eq_default}
use borrow.Author.Tests.{ltb-true, ltb-false, lt-ltb, le-ltb}
use Rattle.laws.specs.Table.{tabulate}
use Rattle.laws.proofs.Table.{length-tabulate, get_d_tabulate}
use Rattle.header.specs.Record.{FilmGrainParams}
use Rattle.header.specs.Row.{Row, width, code}
use Rattle.header.specs.Text.{rows}
use Rattle.header.specs.Bits.{digits, number, bits_of, byte_at, packed}
use Rattle.header.specs.Calls.{header_bits}
use Rattle.header.specs.Held.{Binary}
use Rattle.header.proofs.Numbers.{number-low, binary-append, digits-binary}

-- ---- bits are 0 or 1

binary-rows : (l : List Row) → Binary (bits_of l)
unfolding bits_of
binary-rows [] = tt
binary-rows (r ∷ l) = binary-append (digits (width r) (code r)) (bits_of l) (digits-binary (width r) (code r)) (binary-rows l)

pub header-binary : (p : FilmGrainParams) (inter : Bool) (format : ℕ) → Binary (header_bits p inter format)
unfolding header_bits
header-binary p inter format = binary-rows (rows p inter format)

binary-at : (bs : List ℕ) → Binary bs → (i : ℕ) → get_or bs i 0 < 2
binary-at [] h i = omega arith
binary-at (b ∷ bs) (l, h) zero = l
binary-at (b ∷ bs) (l, h) (suc i) = binary-at bs h i

binary-table : (n : ℕ) (f : ℕ → ℕ) → ((i : ℕ) → f i < 2) → Binary (tabulate n f)
binary-table zero f h = tt
binary-table (suc n) f h = binary-append (tabulate n f) (f n ∷ []) (binary-table n f h) (h n, tt)

-- ---- a bit of the number that bits say

-- higher bits apart
below : (x n m k : ℕ) → (x * 2 ^ (m + 1 + k) + n) / 2 ^ k % 2 ≡ n / 2 ^ k % 2
below x n m k =
    rw (pow-add 2 (m + 1) k, pow-add 2 m 1, ← mul_assoc x (2 ^ m * 2 ^ 1) (2 ^ k), mul-add-div_right (pow_pos k) (x * (2 ^ m * 2 ^ 1)) n, ← mul_assoc x (2 ^ m) (2 ^ 1))
    (mul-add-mod_self_right (x * 2 ^ m) 2 (n / 2 ^ k))

number_bit : (bs : List ℕ) → Binary bs → (k : ℕ) → k < length bs → number bs / 2 ^ (length bs - 1 - k) % 2 ≡ get_or bs k 0
unfolding number
number_bit [] h k l = absurd (omega arith)
number_bit (b ∷ bs) (s, h) zero l =
    let e : suc (length bs) - 1 - 0 ≡ length bs = omega arith in
    rw (e, high b (length bs) (number-low bs h)) (mod-eq_of_lt s)
number_bit (b ∷ bs) (s, h) (suc k) l =
    let m : ℕ = length bs - 1 - k in
    let e : suc (length bs) - 1 - suc k ≡ m = omega arith in
    let w : length bs ≡ k + 1 + m = omega arith in
    rw e (ap (λ (n : ℕ). (b * 2 ^ n + number bs) / 2 ^ m % 2) w ∙ below b (number bs) k m ∙ number_bit bs h k (omega arith))

byte-bit : (bs : List ℕ) → Binary bs → (j k : ℕ) → k < 8 → byte_at bs j / 2 ^ (7 - k) % 2 ≡ get_or bs (8 * j + k) 0
unfolding byte_at
byte-bit bs h j k l =
    number_bit (tabulate 8 (λ i. get_or bs (8 * j + i) 0)) (binary-table 8 (λ i. get_or bs (8 * j + i) 0) (λ i. binary-at bs h (8 * j + i))) k l
    ∙ get_d_tabulate 8 (λ i. get_or bs (8 * j + i) 0) k 0 l

-- ---- the bytes

pub packed-at : (bs d : List ℕ) (j : ℕ) → j < length d → get_or (packed bs d) j 0 ≡ cond (ltb (8 * j) (length bs)) (byte_at bs j) (get_or d j 0)
unfolding packed
packed-at bs d j = get_d_tabulate (length d) (λ i. cond (ltb (8 * i) (length bs)) (byte_at bs i) (get_or d i 0)) j 0

pub packed-length : (bs d : List ℕ) → length (packed bs d) ≡ length d
unfolding packed
packed-length bs d = length-tabulate (length d) (λ i. cond (ltb (8 * i) (length bs)) (byte_at bs i) (get_or d i 0))

module _ (bs d : List ℕ) where
  -- every place of the bytes that the bits reach
  place_is : Binary bs → (length bs + 7) / 8 ≤ length d → (i : ℕ) → i / 8 < (length bs + 7) / 8 → get_or (packed bs d) (i / 8) 0 / 2 ^ (7 - i % 8) % 2 ≡ get_or bs i 0
  place_is h room i l =
      let reach : 8 * (i / 8) < length bs = omega arith in
      let whole : 8 * (i / 8) + i % 8 ≡ i = omega arith in
      rw (packed-at bs d (i / 8) (omega arith), lt-ltb (8 * (i / 8)) (length bs) reach)
      (byte-bit bs h (i / 8) (i % 8) (omega arith) ∙ ap (λ (n : ℕ). get_or bs n 0) whole)

  pub bit_at : Binary bs → (length bs + 7) / 8 ≤ length d → (i : ℕ) → i < length bs → get_or (packed bs d) (i / 8) 0 / 2 ^ (7 - i % 8) % 2 ≡ get_or bs i 0
  bit_at h room i l = place_is h room i (omega arith)

  pub fill-zero : Binary bs → (length bs + 7) / 8 ≤ length d → (i : ℕ) → length bs ≤ i → i / 8 < (length bs + 7) / 8
      → get_or (packed bs d) (i / 8) 0 / 2 ^ (7 - i % 8) % 2 ≡ 0
  fill-zero h room i past l = place_is h room i l ∙ get_or-eq_default bs 0 past

  pub byte_past : (j : ℕ) → (length bs + 7) / 8 ≤ j → get_or (packed bs d) j 0 ≡ get_or d j 0
  byte_past j l = go (ltb j (length d)) refl
    where
      go : (t : Bool) → ltb j (length d) ≡ t → get_or (packed bs d) j 0 ≡ get_or d j 0
      go true e =
          let past : length bs ≤ 8 * j = omega arith in
          packed-at bs d j (ltb-true j (length d) e) ∙ rw (le-ltb (8 * j) (length bs) past)
      go false e =
          let out = ltb-false j (length d) e in
          get_or-eq_default (packed bs d) 0 (rw (packed-length bs d) out) ∙ sym (get_or-eq_default d 0 out)
