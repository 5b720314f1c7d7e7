-- The folds over rows: one list after another, place by place, and past the places that have bits. Assumes nothing.
use mathlib.Core.Path.{◌≡◌, refl, sym, ◌∙◌}
use mathlib.Core.Bool.{◌&&◌, and_assoc}
use mathlib.Core.List.{List, [], ◌∷◌, ◌++◌, append_assoc, append-nil}
use mathlib.Core.Logic.{◌↔◌, ⊎_elim}
use Prim.Native.Nat.{ℕ, zero, suc, ◌+◌, ◌<◌, ◌≤◌}
use native.Mathlib.Omega.{arith}
use native.Mathlib.Numerals.{add-one}
use native.Mathlib.Nat.{eq-or-lt_of_le}
use Rattle.header.specs.Row.{Row, All, each, width, code, allowed}
use Rattle.header.specs.Bits.{digits, bits_of, all_allowed}

-- ---- one list after another

pub bits-append : (a b : List Row) → bits_of (a ++ b) ≡ bits_of a ++ bits_of b
unfolding bits_of
bits-append [] b = refl
bits-append (r ∷ a) b = rw (bits-append a b) (sym (append_assoc (digits (width r) (code r)) (bits_of a) (bits_of b)))

pub allowed-append : (a b : List Row) → all_allowed (a ++ b) ≡ (all_allowed a && all_allowed b)
unfolding all_allowed
allowed-append [] b = refl
allowed-append (r ∷ a) b =
    rw (allowed-append a b) (sym (and_assoc (allowed r.present r.least r.most r.stored) (all_allowed a) (all_allowed b)))

module _ (fact : Row → Type 0) where
  pub all_append : (a b : List Row) → All fact (a ++ b) ↔ (All fact a × All fact b)
  all_append [] b = (λ h. (tt, h), λ h. h.1)
  all_append (r ∷ a) b =
      let q = all_append a b in
      (λ h. ((h.0, (q.0 h.1).0), (q.0 h.1).1), λ h. (h.0.0, q.1 (h.0.1, h.1)))

  pub all-each : (n : ℕ) (f : ℕ → List Row) → All fact (each n f) ↔ ((i : ℕ) → i < n → All fact (f i))
  unfolding each
  all-each zero f = (λ h i l. absurd (omega arith), λ h. tt)
  all-each (suc n) f =
      let q = all_append (each n f) (f n) in
      let r = all-each n f in (
        λ h i l. ⊎_elim (λ (e : i ≡ n). rw e (q.0 h).1) (λ (m : i < n). r.0 (q.0 h).0 i m) (eq-or-lt_of_le (omega arith)),
        λ h. q.1 (r.1 (λ i l. h i (omega arith)), h n (omega arith)),
      )

-- ---- a place more

each_more : (n : ℕ) (f : ℕ → List Row) → each (n + 1) f ≡ each n f ++ f n
unfolding each
each_more n f = rw (add-one n)

pub bits_each : (n : ℕ) (f : ℕ → List Row) → bits_of (each (n + 1) f) ≡ bits_of (each n f) ++ bits_of (f n)
bits_each n f = rw (each_more n f) (bits-append (each n f) (f n))

pub allowed-each : (n : ℕ) (f : ℕ → List Row) → all_allowed (each (n + 1) f) ≡ (all_allowed (each n f) && all_allowed (f n))
allowed-each n f = rw (each_more n f) (allowed-append (each n f) (f n))

-- ---- places without bits

pub bits-past : (n m : ℕ) (f : ℕ → List Row) → n ≤ m → ((i : ℕ) → n ≤ i → i < m → bits_of (f i) ≡ []) → bits_of (each m f) ≡ bits_of (each n f)
bits-past n zero f h e = let z : n ≡ 0 = omega arith in rw z refl
bits-past n (suc m) f h e =
    ⊎_elim
    (λ (q : n ≡ suc m). rw q refl)
    (λ (q : n < suc m).
    rw (← add-one m) (bits_each m f ∙ rw (e m (omega arith) (omega arith), append-nil (bits_of (each m f))) (bits-past n m f (omega arith) (λ i a b. e i a (omega arith)))))
    (eq-or-lt_of_le h)
