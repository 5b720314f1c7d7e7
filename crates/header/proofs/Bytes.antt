-- A record in bytes: its fields with its lists are the record, and all after the slot is 0 where bytes 6 to 165 are. Assumes nothing.
use mathlib.Core.Path.{◌≡◌, refl, sym, ◌∙◌}
use mathlib.Core.Bool.{Bool, true, false, not, not-not, ◌&&◌, and-true, and_assoc, and-eq-true_iff}
use mathlib.Core.List.{List}
use mathlib.Core.Logic.{◌↔◌, ⊎_elim}
use Prim.Native.Nat.{ℕ, zero, suc, ◌+◌, ◌*◌, ◌<◌, ◌≤◌}
use native.Mathlib.Omega.{arith}
use native.Mathlib.Nat.{add_assoc, eq-or-lt_of_le}
use native.Mathlib.Numerals.{add-one}
use lib.Dec.{eqb}
use lib.ListN.{length, get_or, take, drop, length-drop}
use lib.Seq.{get_or-take, get_or-drop, length-take-le}
use borrow.Author.Tests.{eqb-true, eqb-false, eq-eqb, ne_eqb}
use Rattle.std.proofs.lemmas.List.{get_or_default}
use Rattle.std.specs.Bool.{IsTrue}
use Rattle.std.specs.Cmp.{both_ways}
use Rattle.std.specs.List.{All as Each}
use Rattle.header.specs.declared.stored.Fields.{Fields}
use Rattle.header.specs.Stored.{items_from, stored}
use Rattle.header.specs.declared.counts.Counts.{Counts}
use Rattle.header.specs.Scalars.{fields_of, record_of, scalars}
use Rattle.header.specs.Row.{Row, each}
use Rattle.header.specs.Text.{uncoded, point, points, coeff, coeffs, rest, counts_of, table, rows}
use Rattle.header.specs.Bits.{all_allowed}
use Rattle.header.proofs.Folds.{allowed-each}
use Rattle.header.proofs.Lists.{none_allowed, point-skipped, coeff-skipped}
use Rattle.header.proofs.Short.{rest-zero}

-- fields that bytes hold, put together with the lists that they hold, are the record in those bytes
pub record_is : (f : Fields) (l : List ℕ) → f ≡ fields_of l → record_of f l ≡ stored l
unfolding fields_of stored
record_is f l e = rw e

-- the rows of a record in bytes, by the fields and the counts that were read from it
pub rows_are : (f : Fields) (l : List ℕ) (inter : Bool) (format : ℕ) (c : Counts) → f ≡ fields_of l → c ≡ counts_of (scalars f) format
    → rows (stored l) inter format ≡ table (record_of f l) inter format c
unfolding rows counts_of
rows_are f l inter format c e q = rw (← record_is f l e, q) refl

-- ---- bytes that are 0

-- n bytes from `a` on
unfoldable pub zeros : List ℕ → ℕ → ℕ → Bool
zeros l a zero = true
zeros l a (suc n) = zeros l a n && eqb (get_or l (a + n) 0) 0

-- they are as the code tests them
zeros-all : (l : List ℕ) (a n : ℕ) → zeros l a n ≡ true ↔ ((k : ℕ) → k < n → get_or l (a + k) 0 ≡ 0)
unfolding zeros
zeros-all l a zero = (λ e k h. absurd (omega arith), λ h. refl)
zeros-all l a (suc n) =
    let b = and-eq-true_iff (zeros l a n) (eqb (get_or l (a + n) 0) 0) in
    let q = zeros-all l a n in (
      λ e k h. ⊎_elim (λ (p : k ≡ n). rw p (eqb-true (get_or l (a + n) 0) 0 (b.0 e).1)) (λ (m : k < n). q.0 (b.0 e).0 k m) (eq-or-lt_of_le (omega arith)),
      λ h. b.1 (q.1 (λ k m. h k (omega arith)), eq-eqb (get_or l (a + n) 0) 0 (h n (omega arith))),
    )

both_zero : (x y : ℕ) → eqb (x + 256 * y) 0 ≡ (eqb x 0 && eqb y 0)
both_zero x y = go (eqb x 0) refl (eqb y 0) refl
  where
    go : (a : Bool) → eqb x 0 ≡ a → (b : Bool) → eqb y 0 ≡ b → eqb (x + 256 * y) 0 ≡ (eqb x 0 && eqb y 0)
    go true e true f = rw (e, f) (eq-eqb (x + 256 * y) 0 (omega (arith, eqb-true x 0 e, eqb-true y 0 f)))
    go true e false f = rw (e, f) (ne_eqb (x + 256 * y) 0 (λ q. eqb-false y 0 f (omega arith)))
    go false e b f = rw e (ne_eqb (x + 256 * y) 0 (λ q. eqb-false x 0 e (omega arith)))

exchange : (a b c d : Bool) → ((a && b) && (c && d)) ≡ ((a && c) && (b && d))
exchange false b c d = refl
exchange true true c d = refl
exchange true false true d = refl
exchange true false false d = refl

module _ (l : List ℕ) where
  zeros-join : (a n m : ℕ) → (zeros l a n && zeros l (a + n) m) ≡ zeros l a (n + m)
  unfolding zeros
  zeros-join a n zero = let e : n + 0 ≡ n = omega arith in rw e (and-true (zeros l a n))
  zeros-join a n (suc m) =
      let e : n + suc m ≡ suc (n + m) = omega arith in
      rw (e, ← zeros-join a n m, add_assoc a n m) (sym (and_assoc (zeros l a n) (zeros l (a + n) m) (eqb (get_or l (a + (n + m)) 0) 0)))

  joined : (a n m : ℕ) {x y : Bool} → x ≡ zeros l a n → y ≡ zeros l (a + n) m → (x && y) ≡ zeros l a (n + m)
  joined a n m e f = rw (e, f) (zeros-join a n m)

  -- a byte, a flag, a number of two bytes
  byte-zero : (a : ℕ) → eqb (get_or l a 0) 0 ≡ zeros l a 1
  unfolding zeros
  byte-zero a = let e : a + 0 ≡ a = omega arith in rw e

  flag-zero : (a : ℕ) → not (not (eqb (get_or l a 0) 0)) ≡ zeros l a 1
  unfolding zeros
  flag-zero a = let e : a + 0 ≡ a = omega arith in rw e (not-not (eqb (get_or l a 0) 0))

  word-zero : (a : ℕ) → eqb (get_or l a 0 + 256 * get_or l (a + 1) 0) 0 ≡ zeros l a 2
  unfolding zeros
  word-zero a = let e : a + 0 ≡ a = omega arith in rw e (both_zero (get_or l a 0) (get_or l (a + 1) 0))

  list_at : (a n i : ℕ) → i < n → get_or (items_from l a n) i 0 ≡ get_or l (a + i) 0
  list_at a n i h = get_or-take n (drop a l) i 0 h ∙ get_or-drop a l i 0

  points-zero : (a b n m : ℕ) → m ≤ n → all_allowed (each m (point 0 (items_from l a n) (items_from l b n))) ≡ (zeros l a m && zeros l b m)
  unfolding zeros
  points-zero a b n zero h = none_allowed (point 0 (items_from l a n) (items_from l b n))
  points-zero a b n (suc m) h =
      let f : ℕ → List Row = point 0 (items_from l a n) (items_from l b n) in
      let e : all_allowed (each (suc m) f) ≡ (all_allowed (each m f) && all_allowed (f m)) = rw (add-one m) at (allowed-each m f) in
      rw (e, points-zero a b n m (omega arith), point-skipped 0 (items_from l a n) (items_from l b n) m (omega arith), list_at a n m (omega arith), list_at b n m (omega arith))
      (exchange (zeros l a m) (zeros l b m) (eqb (get_or l (a + m) 0) 0) (eqb (get_or l (b + m) 0) 0))

  coeffs-zero : (a n m : ℕ) → m ≤ n → all_allowed (each m (coeff 0 (items_from l a n))) ≡ zeros l a m
  unfolding zeros
  coeffs-zero a n zero h = none_allowed (coeff 0 (items_from l a n))
  coeffs-zero a n (suc m) h =
      let f : ℕ → List Row = coeff 0 (items_from l a n) in
      let e : all_allowed (each (suc m) f) ≡ (all_allowed (each m f) && all_allowed (f m)) = rw (add-one m) at (allowed-each m f) in
      rw (e, coeffs-zero a n m (omega arith), coeff-skipped 0 (items_from l a n) m (omega arith), list_at a n m (omega arith))

  two-lists : (a n : ℕ) → all_allowed (points n 0 (items_from l a n) (items_from l (a + n) n)) ≡ zeros l a (n + n)
  unfolding points
  two-lists a n = points-zero a (a + n) n n (omega arith) ∙ zeros-join a n n

  one_list : (a n : ℕ) → all_allowed (coeffs n 0 (items_from l a n)) ≡ zeros l a n
  unfolding coeffs
  one_list a n = coeffs-zero a n n (omega arith)

  -- byte 6 to byte 165
  rest-zeros : (format : ℕ) → zeros l 6 160 ≡ all_allowed (rest (stored l) format uncoded)
  unfolding stored
  rest-zeros format =
      let luma = joined 6 1 28 (byte-zero 6) (two-lists 7 14) in
      let cr = joined 57 1 20 (byte-zero 57) (two-lists 58 10) in
      let chroma = joined 35 1 42 (flag-zero 35) (joined 36 1 41 (byte-zero 36) (joined 37 20 21 (two-lists 37 10) cr)) in
      let lists = joined 80 24 50 (one_list 80 24) (joined 104 25 25 (one_list 104 25) (one_list 129 25)) in
      let filter = joined 78 1 75 (byte-zero 78) (joined 79 1 74 (byte-zero 79) lists) in
      let cb-mix = joined 156 1 3 (byte-zero 156) (joined 157 1 2 (byte-zero 157) (word-zero 158)) in
      let cr-mix = joined 160 1 3 (byte-zero 160) (joined 161 1 2 (byte-zero 161) (word-zero 162)) in
      let flags = joined 164 1 1 (flag-zero 164) (flag-zero 165) in
      let closing = joined 154 1 11 (byte-zero 154) (joined 155 1 10 (byte-zero 155) (joined 156 4 6 cb-mix (joined 160 4 2 cr-mix flags))) in
      sym (rest-zero (stored l) format ∙ joined 6 29 131 luma (joined 35 43 88 chroma (joined 78 76 12 filter closing)))

  pub rest-decided : (format : ℕ) {z : Bool} → length l ≡ 168 → IsTrue z ↔ Each (λ b. b ≡ 0) (take 160 (drop 6 l)) → z ≡ all_allowed (rest (stored l) format uncoded)
  rest-decided format {z} whole q =
      let a = zeros-all l 6 160 in
      let long : length (take 160 (drop 6 l)) ≡ 160 = length-take-le 160 (drop 6 l) (rw (length-drop 6 l, whole) (omega arith)) in
      both_ways z (zeros l 6 160)
      (λ e. a.1 (λ k h. rw (get_or-take 160 (drop 6 l) k 0 h, get_or-drop 6 l k 0) at (q.0 e k 0 (rw long h))))
      (λ e. q.1 (λ k d h. let m : k < 160 = rw long at h in get_or_default (take 160 (drop 6 l)) k d 0 h ∙ rw (get_or-take 160 (drop 6 l) k 0 m, get_or-drop 6 l k 0) (a.0 e k m)))
      ∙ rest-zeros format
