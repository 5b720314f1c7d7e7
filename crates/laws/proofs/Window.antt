-- The numbers of `a..b` and the places of a window: which they are, how many, none twice, and the exact sum over them as a sum by index. Assumes nothing.
use mathlib.Core.Path.{◌≡◌, refl, sym, ap, ◌∙◌, subst}
use mathlib.Core.List.{List, [], ◌∷◌, map, map-map, map-append}
use mathlib.Core.Logic.{◌⊎◌, inl, inr, ⊎_elim}
use Prim.Native.Nat.{ℕ, zero, suc, ◌+◌, ◌-◌, ◌*◌, ◌≤◌, ◌<◌}
use native.Mathlib.Nat.{not-suc-le-zero, le_of_suc-le-suc, eq-or-lt_of_le, zero-mul, suc-mul, add_comm, add-sub_of_le}
use native.Mathlib.Omega.{arith}
use lib.IntN.{ℤ, ◌+ℤ◌}
use lib.ListN.{length, length-append, length-map}
use Rattle.laws.specs.Table.{tabulate, range}
use Rattle.laws.specs.Window.{Place, place, places, window, at}
use Rattle.laws.specs.Sets.{In, NoDup, Apart}
use Rattle.laws.specs.Sums.{sum_z, span}
use Rattle.laws.proofs.Table.{length-tabulate}
use Rattle.laws.proofs.Sets.{in-append, append-in, nodup_append}
use Rattle.laws.proofs.Sums.{sum-append, sum-range, sum-ext}

-- ---- the numbers of a..b
below : (a n i : ℕ) → In i (tabulate n (λ k. a + k)) → (a ≤ i) × (i < a + n)
below a zero i h = absurd h
below a (suc n) i h = ⊎_elim (λ k. let l = below a n i k in omega arith) last (in-append i (tabulate n (λ k. a + k)) ((a + n) ∷ []) h)
  where
    last : (i ≡ a + n) ⊎ ⊥ → (a ≤ i) × (i < a + suc n)
    last (inl e) = omega arith
    last (inr k) = absurd k

pub in-range : (a b i : ℕ) → In i (range a b) → (a ≤ i) × (i < b)
in-range a b i h = let l = below a (b - a) i h in omega arith

there : (a n k : ℕ) → k < n → In (a + k) (tabulate n (λ i. a + i))
there a zero k h = absurd (not-suc-le-zero h)
there a (suc n) k h =
    append-in (a + k) (tabulate n (λ i. a + i)) ((a + n) ∷ [])
    (⊎_elim (λ e. inr (inl (ap (λ (i : ℕ). a + i) e))) (λ l. inl (there a n k l)) (eq-or-lt_of_le (le_of_suc-le-suc h)))

pub range-in : (a b i : ℕ) → a ≤ i → i < b → In i (range a b)
range-in a b i h l = subst (λ (k : ℕ). In k (range a b)) (add-sub_of_le h) (there a (b - a) (i - a) (omega arith))

nodup-from : (a n : ℕ) → NoDup (tabulate n (λ i. a + i))
nodup-from a zero = tt
nodup-from a (suc n) = nodup_append (tabulate n (λ i. a + i)) ((a + n) ∷ []) (nodup-from a n) ((λ k. k), tt) new
  where
    new : Apart (tabulate n (λ i. a + i)) ((a + n) ∷ [])
    new i h (inl e) = let l = below a n i h in omega arith
    new i h (inr k) = k

pub range-nodup : (a b : ℕ) → NoDup (range a b)
range-nodup a b = nodup-from a (b - a)

pub length-range : (a b : ℕ) → length (range a b) ≡ b - a
length-range a b = length-tabulate (b - a) (λ i. a + i)

-- ---- each of some rows with each of some columns
in_row : (r : ℕ) (qs : List ℕ) (p : Place) → In p (map (place r) qs) → (p.0 ≡ r) × In p.1 qs
in_row r [] p h = absurd h
in_row r (q ∷ qs) p (inl e) = ((λ i. (e i).0), inl (λ i. (e i).1))
in_row r (q ∷ qs) p (inr h) = let k = in_row r qs p h in (k.0, inr k.1)

row_in : (r q : ℕ) (qs : List ℕ) → In q qs → In (place r q) (map (place r) qs)
row_in r q [] h = absurd h
row_in r q (x ∷ qs) (inl e) = inl (ap (place r) e)
row_in r q (x ∷ qs) (inr h) = inr (row_in r q qs h)

row-nodup : (r : ℕ) (qs : List ℕ) → NoDup qs → NoDup (map (place r) qs)
row-nodup r [] n = tt
row-nodup r (q ∷ qs) n = ((λ h. n.0 (in_row r qs (place r q) h).1), row-nodup r qs n.1)

in-places : (rs qs : List ℕ) (p : Place) → In p (places rs qs) → In p.0 rs × In p.1 qs
in-places [] qs p h = absurd h
in-places (r ∷ rs) qs p h =
    ⊎_elim (λ k. let m = in_row r qs p k in (inl m.0, m.1)) (λ k. let m = in-places rs qs p k in (inr m.0, m.1))
    (in-append p (map (place r) qs) (places rs qs) h)

places-in : (rs qs : List ℕ) (r q : ℕ) → In r rs → In q qs → In (place r q) (places rs qs)
places-in [] qs r q h k = absurd h
places-in (x ∷ rs) qs r q (inl e) k =
    append-in (place r q) (map (place x) qs) (places rs qs) (inl (subst (λ (y : ℕ). In (place y q) (map (place x) qs)) (sym e) (row_in x q qs k)))
places-in (x ∷ rs) qs r q (inr h) k = append-in (place r q) (map (place x) qs) (places rs qs) (inr (places-in rs qs r q h k))

places-nodup : (rs qs : List ℕ) → NoDup rs → NoDup qs → NoDup (places rs qs)
places-nodup [] qs m n = tt
places-nodup (r ∷ rs) qs m n =
    nodup_append (map (place r) qs) (places rs qs) (row-nodup r qs n) (places-nodup rs qs m.1 n)
    (λ p h k. m.0 (subst (λ (y : ℕ). In y rs) (in_row r qs p h).0 (in-places rs qs p k).0))

length-places : (rs qs : List ℕ) → length (places rs qs) ≡ length rs * length qs
length-places [] qs = sym (zero-mul (length qs))
length-places (r ∷ rs) qs =
    length-append (map (place r) qs) (places rs qs)
    ∙ (λ i. length-map qs (place r) i + length-places rs qs i)
    ∙ add_comm (length qs) (length rs * length qs)
    ∙ sym (suc-mul (length rs) (length qs))

-- ---- the window
module _ (a b c d : ℕ) where
  pub in_window : (p : Place) → In p (window a b c d) → (a ≤ p.0) × (p.0 < b) × (c ≤ p.1) × (p.1 < d)
  in_window p h =
      let k = in-places (range a b) (range c d) p h in
      let r = in-range a b p.0 k.0 in
      let q = in-range c d p.1 k.1 in
      (r.0, r.1, q.0, q.1)

  pub window-in : (r q : ℕ) → a ≤ r → r < b → c ≤ q → q < d → In (place r q) (window a b c d)
  window-in r q h k l m = places-in (range a b) (range c d) r q (range-in a b r h k) (range-in c d q l m)

  pub window-nodup : NoDup (window a b c d)
  window-nodup = places-nodup (range a b) (range c d) (range-nodup a b) (range-nodup c d)

  pub length-window : length (window a b c d) ≡ (b - a) * (d - c)
  length-window = length-places (range a b) (range c d) ∙ (λ i. length-range a b i * length-range c d i)

-- ---- the exact sum over it
sum-places : (g : ℕ → ℕ → ℤ) (rs qs : List ℕ) → sum_z (map (at g) (places rs qs)) ≡ sum_z (map (λ r. sum_z (map (g r) qs)) rs)
unfolding sum_z
sum-places g [] qs = refl
sum-places g (r ∷ rs) qs =
    ap sum_z (map-append (at g) (map (place r) qs) (places rs qs))
    ∙ sum-append (map (at g) (map (place r) qs)) (map (at g) (places rs qs))
    ∙ (λ i. sum_z (map-map (at g) (place r) qs i) +ℤ sum-places g rs qs i)

pub sum-window : (g : ℕ → ℕ → ℤ) (a b c d : ℕ) → sum_z (map (at g) (window a b c d)) ≡ span (λ r. span (g r) c (d - c)) a (b - a)
sum-window g a b c d =
    sum-places g (range a b) (range c d)
    ∙ sum-range (λ r. sum_z (map (g r) (range c d))) a b
    ∙ sum-ext (λ i. sum_z (map (g (a + i)) (range c d))) (λ i. span (g (a + i)) c (d - c)) (b - a) (λ i l. sum-range (g (a + i)) c d)
