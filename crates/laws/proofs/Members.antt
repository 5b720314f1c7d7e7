-- The members of a table: each is an entry, and each entry is one; none stands twice where the entries differ. Assumes nothing.
use mathlib.Core.Path.{◌≡◌, sym, ap, subst}
use mathlib.Core.List.{[], ◌∷◌}
use mathlib.Core.Logic.{◌⊎◌, inl, inr, ⊎_elim}
use Prim.Native.Nat.{ℕ, zero, suc, ◌<◌}
use native.Mathlib.Nat.{le_refl, le_trans, le-suc, not-suc-le-zero, le_of_suc-le-suc, eq-or-lt_of_le}
use Rattle.laws.specs.Table.{tabulate}
use Rattle.laws.specs.Sets.{In, NoDup, Apart}
use Rattle.laws.proofs.Sets.{in-append, append-in, nodup_append}

module _ {A : Type 0} (f : ℕ → A) where
  -- what holds of each entry holds of a member
  pub in-tabulate : (P : A → Type 0) (n : ℕ) → ((i : ℕ) → i < n → P (f i)) → (p : A) → In p (tabulate n f) → P p
  in-tabulate P zero h p k = absurd k
  in-tabulate P (suc n) h p k = ⊎_elim (in-tabulate P n (λ i l. h i (le_trans l (le-suc n))) p) last (in-append p (tabulate n f) (f n ∷ []) k)
    where
      last : (p ≡ f n) ⊎ ⊥ → P p
      last (inl e) = subst P (sym e) (h n (le_refl (suc n)))
      last (inr m) = absurd m

  pub tabulate-in : (n i : ℕ) → i < n → In (f i) (tabulate n f)
  tabulate-in zero i h = absurd (not-suc-le-zero h)
  tabulate-in (suc n) i h =
      append-in (f i) (tabulate n f) (f n ∷ [])
      (⊎_elim (λ e. inr (inl (ap f e))) (λ l. inl (tabulate-in n i l)) (eq-or-lt_of_le (le_of_suc-le-suc h)))

  -- entries that differ
  pub nodup-tabulate : (n : ℕ) → ((i j : ℕ) → i < j → j < n → f i ≡ f j → ⊥) → NoDup (tabulate n f)
  nodup-tabulate zero h = tt
  nodup-tabulate (suc n) h =
      nodup_append (tabulate n f) (f n ∷ []) (nodup-tabulate n (λ i j l m. h i j l (le_trans m (le-suc n)))) ((λ k. k), tt) new
    where
      new : Apart (tabulate n f) (f n ∷ [])
      new p k (inl e) = in-tabulate (λ q. q ≡ f n → ⊥) n (λ i l. h i n l (le_refl (suc n))) p k e
      new p k (inr m) = m
