-- A plane's points, and its coefficients: allowed exactly if those that the syntax has keep their limits and the others are 0. The code's tests, on the two parts of a list, decide that. Assumes nothing.
use mathlib.Core.Path.{◌≡◌, refl, sym, ◌∙◌}
use mathlib.Core.Bool.{Bool, true, false, cond, ◌&&◌, false≢true, and-eq-true_iff}
use mathlib.Core.List.{List}
use mathlib.Core.Logic.{◌↔◌}
use Prim.Native.Nat.{ℕ, zero, suc, ◌+◌, ◌-◌, ◌<◌, ◌≤◌, min}
use native.Mathlib.Omega.{arith}
use native.Mathlib.Numerals.{add-one}
use lib.Dec.{ltb, eqb}
use lib.ListN.{length, get_or, take, drop, length-drop}
use lib.Seq.{get_or-take, get_or-drop, length-take-le}
use borrow.Author.Tests.{ltb-true, ltb-false, lt-ltb, le-ltb, ne_eqb}
use Rattle.std.proofs.lemmas.List.{get_or_default}
use Rattle.std.specs.Bool.{IsTrue}
use Rattle.std.specs.Cmp.{both_ways}
use Rattle.std.specs.List.{All as Each, IsAllAdjacentAnswer}
use Rattle.header.specs.Row.{Row, limited, each, All}
use Rattle.header.specs.Text.{point, points, coeff, coeffs}
use Rattle.header.specs.Bits.{all_allowed}
use Rattle.header.specs.Allowed.{Allowed}
use Rattle.header.specs.Semantics.{Rising, Bytes}
use Rattle.header.specs.Skipped.{Past}
use Rattle.header.proofs.Folds.{all-each}
use Rattle.header.proofs.Causes.{rows-allowed}

-- the places of an array, of which the syntax has n
module _ (places n : ℕ) (l : List ℕ) (least : ℕ → ℕ) where
  places-allowed : n ≤ places
      → ((i : ℕ) → i < places → Allowed (limited 8 (ltb i n) (least i) 255 (get_or l i 0)))
      ↔ (((i : ℕ) → i < n → least i ≤ get_or l i 0) × (Bytes n l × Past n places l))
  places-allowed m = (
    λ a. (
      λ i k. ((a i (omega arith)).kept (lt-ltb i n k)).0,
      (λ i k. let q = ((a i (omega arith)).kept (lt-ltb i n k)).1 in omega arith, λ i k o. (a i o).skipped (le-ltb i n k)),
    ),
    λ h i o. record {
      kept = λ e. let k = ltb-true i n e in (h.0 i k, let q = h.1.0 i k in omega arith);
      skipped = λ e. h.1.1 i (ltb-false i n e) o;
    },
  )

-- a plane's coefficients
pub coeffs-allowed : (places n : ℕ) (l : List ℕ) → n ≤ places → All Allowed (coeffs places n l) ↔ (Bytes n l × Past n places l)
unfolding coeffs coeff
coeffs-allowed places n l m =
    let q = all-each Allowed places (coeff n l) in
    let r = places-allowed places n l (λ i. 0) m in
    (λ h. (r.0 (λ i o. (q.0 h i o).0)).1, λ h. q.1 (λ i o. (r.1 (λ j k. omega arith, h) i o, tt)))

-- one above the last, or the first
module _ (n : ℕ) (values : List ℕ) where
  abbrev above : ℕ → ℕ
  above i = cond (eqb i 0) 0 (get_or values (i - 1) 0 + 1)

  above-next : (i : ℕ) → above (i + 1) ≡ get_or values i 0 + 1
  above-next i =
      let first : eqb (i + 1) 0 ≡ false = ne_eqb (i + 1) 0 (λ e. absurd (omega arith)) in
      let last : i + 1 - 1 ≡ i = omega arith in
      rw (first, last)

  rising-places : ((i : ℕ) → i < n → above i ≤ get_or values i 0) ↔ Rising n values
  rising-places = (λ h i k. let q = h (i + 1) k in omega (arith, above-next i), to)
    where
      to : Rising n values → (i : ℕ) → i < n → above i ≤ get_or values i 0
      to r zero k = omega arith
      to r (suc i) k = rw (← add-one i, above-next i) (omega (arith, r i (omega arith)))

-- a plane's points
pub points-allowed : (places n : ℕ) (values scalings : List ℕ) → n ≤ places
    → All Allowed (points places n values scalings)
    ↔ ((Rising n values × (Bytes n values × Past n places values)) × (Bytes n scalings × Past n places scalings))
unfolding points point
points-allowed places n values scalings m =
    let q = all-each Allowed places (point n values scalings) in
    let v = places-allowed places n values (above n values) m in
    let s = places-allowed places n scalings (λ i. 0) m in
    let r = rising-places n values in (
      λ h. let k = v.0 (λ i o. (q.0 h i o).0) in ((r.0 k.0, k.1), (s.0 (λ i o. (q.0 h i o).1.0)).1),
      λ h. q.1 (λ i o. (v.1 (r.1 h.0.0, h.0.1) i o, (s.1 (λ j k. omega arith, h.1) i o, tt))),
    )

-- ---- the tests of the code

-- of a list that is longer than its array, the places of the array
each-same : (m : ℕ) (f g : ℕ → List Row) → ((i : ℕ) → i < m → f i ≡ g i) → each m f ≡ each m g
unfolding each
each-same zero f g h = refl
each-same (suc m) f g h = let here : m < suc m = omega arith in rw (each-same m f g (λ i l. h i (omega arith)), h m here)

below-min : (n m i : ℕ) → i < m → ltb i n ≡ ltb i (min n m)
below-min n m i l = go (ltb i n) refl
  where
    go : (t : Bool) → ltb i n ≡ t → ltb i n ≡ ltb i (min n m)
    go true e = e ∙ sym (lt-ltb i (min n m) (let k = ltb-true i n e in omega arith))
    go false e = e ∙ sym (le-ltb i (min n m) (let k = ltb-false i n e in omega arith))

points-held : (places n : ℕ) (values scalings : List ℕ) → points places n values scalings ≡ points places (min n places) values scalings
unfolding points point
points-held places n values scalings = each-same places (point n values scalings) (point (min n places) values scalings) (λ i l. rw (below-min n places i l))

coeffs-held : (places n : ℕ) (values : List ℕ) → coeffs places n values ≡ coeffs places (min n places) values
unfolding coeffs coeff
coeffs-held places n values = each-same places (coeff n values) (coeff (min n places) values) (λ i l. rw (below-min n places i l))

-- what `is_sorted_by` answers to whether each is below the next
pub rising-answered : (xs : List ℕ) (r : Bool) → IsAllAdjacentAnswer (λ x y b. b ≡ ltb x y) xs r → IsTrue r ↔ Rising (length xs) xs
rising-answered xs true h = (λ e i k. ltb-true (get_or xs i 0) (get_or xs (i + 1) 0) (sym (h i 0 k)), λ f. refl)
rising-answered xs false (i, k, h) =
    (λ e. absurd (false≢true e), λ f. absurd (let a = ltb-false (get_or xs i 0) (get_or xs (i + 1) 0) (sym (h 0)) in omega (arith, f i k)))

-- the first n of a list, and the others
module _ (l : List ℕ) (n : ℕ) (h : n ≤ length l) where
  first-rising : Rising (length (take n l)) (take n l) ↔ Rising n l
  first-rising =
      rw (length-take-le n l h) (
        λ r i k. let a : i < n = omega arith in rw (get_or-take n l i 0 a, get_or-take n l (i + 1) 0 k) at (r i k),
        λ r i k. let a : i < n = omega arith in rw (get_or-take n l i 0 a, get_or-take n l (i + 1) 0 k) (r i k),
      )

  others-zero : Each (λ b. b ≡ 0) (drop n l) ↔ Past n (length l) l
  others-zero = (
    λ z i a b.
        let k : i - n < length (drop n l) = rw (length-drop n l) (omega arith) in
        let e : n + (i - n) ≡ i = omega arith in
        rw (get_or-drop n l (i - n) 0, e) at (z (i - n) 0 k),
    λ p k d a.
        let b : k < length l - n = rw (length-drop n l) at a in
        get_or_default (drop n l) k d 0 a ∙ (get_or-drop n l k 0 ∙ p (n + k) (omega arith) (omega arith)),
  )

-- as the code answers
module _ (n : ℕ) (values : List ℕ) where
  abbrev used : ℕ
  used = min n (length values)

  within : used ≤ length values
  within = omega arith

  pub coeffs-decided : {z : Bool} → Bytes (length values) values
      → (IsTrue z ↔ Each (λ b. b ≡ 0) (drop used values))
      → z ≡ all_allowed (coeffs (length values) n values)
  coeffs-decided {z} byte past =
      let q = coeffs-allowed (length values) used values within in
      let r = rows-allowed (coeffs (length values) used values) in
      let o = others-zero values used within in
      rw (coeffs-held (length values) n values)
      (both_ways z (all_allowed (coeffs (length values) used values))
      (λ e. r.1 (q.1 (λ i k. byte i (omega arith), o.0 (past.0 e))))
      (λ e. past.1 (o.1 (q.0 (r.0 e)).1)))

  pub points-decided : (scalings : List ℕ) {rising y z : Bool} → length scalings ≡ length values
      → Bytes (length values) values → Bytes (length scalings) scalings
      → (IsTrue rising ↔ Rising (length (take used values)) (take used values))
      → (IsTrue y ↔ Each (λ b. b ≡ 0) (drop used values))
      → (IsTrue z ↔ Each (λ b. b ≡ 0) (drop (min n (length scalings)) scalings))
      → (rising && y && z) ≡ all_allowed (points (length values) n values scalings)
  points-decided scalings {rising} {y} {z} paired value scaling rises past skipped =
      let q = points-allowed (length values) used values scalings within in
      let r = rows-allowed (points (length values) used values scalings) in
      let o = others-zero values used within in
      let p = rw paired at (others-zero scalings (min n (length scalings)) (omega arith)) in
      let f = first-rising values used within in
      let a = and-eq-true_iff (rising && y) z in
      let b = and-eq-true_iff rising y in
      rw (points-held (length values) n values scalings)
      (both_ways (rising && y && z) (all_allowed (points (length values) used values scalings))
      (λ e.
      let t = a.0 e in
      let u = b.0 t.0 in
      r.1 (q.1 ((f.0 (rises.0 u.0), (λ i k. value i (omega arith), o.0 (past.0 u.1))), (λ i k. scaling i (omega arith), p.0 ((rw paired at skipped).0 t.1)))))
      (λ e.
      let t = q.0 (r.0 e) in
      a.1 (b.1 (rises.1 (f.1 t.0.0), past.1 (o.1 t.0.1.1)), (rw paired at skipped).1 (p.1 t.1.1))))
