-- The law of sums: at each step the accumulator is the exact sum so far, which never passes 2 ^ 53. Assumes nothing.
use mathlib.Core.Path.{◌≡◌, refl, sym, ap, ◌∙◌, subst}
use mathlib.Core.List.{List, [], ◌∷◌, ◌++◌, map, map-append}
use mathlib.Core.Logic.{inl, inr, ⊎_elim}
use Prim.Native.Nat.{ℕ, suc, ◌+◌, ◌*◌, ◌^◌, ◌≤◌, zero-le}
use native.Mathlib.Nat.{le_trans, le_of_eq, zero-add, add_comm, add-le-add, mul-le-mul_right, suc-mul}
use native.Mathlib.Omega.{arith}
use lib.IntN.{ℤ, pos, nat_abs, ◌+ℤ◌, +ℤ_idl, +ℤ_idr, +ℤ_assoc}
use lib.ListN.{length}
use lib.Ieee.{Float, binary64, add}
use Rattle.laws.specs.Loop.{visit}
use Rattle.laws.specs.Sums.{sum_z}
use Rattle.laws.specs.Scaled.{of_scaled, Holds}
use Rattle.laws.specs.Sets.{In, NoDup, Same, Apart}
use Rattle.laws.specs.FloatSums.{sum_f}
use Rattle.laws.specs.Law.{Limit, Held, Product, Positions, ExactSums}
use Rattle.laws.proofs.Whole.{abs-add}
use Rattle.laws.proofs.Sums.{sum-append}
use Rattle.laws.proofs.Scaled.{scaled-zero, holds-scaled, add-scaled}
use Rattle.laws.proofs.Sets.{sum-same-set, in-append, nodup_append}

-- the exact sum is no larger than so many of the largest product
sum-le : {A : Type 0} (size : ℕ) (g : A → ℤ) (ps : List A) → ((p : A) → In p ps → nat_abs (g p) ≤ size) → nat_abs (sum_z (map g ps)) ≤ length ps * size
unfolding sum_z
sum-le size g [] small = zero-le
sum-le size g (p ∷ ps) small =
    le_trans (abs-add (g p) (sum_z (map g ps)))
    (le_trans (add-le-add (small p (inl refl)) (sum-le size g ps (λ q m. small q (inr m)))) (le_of_eq (add_comm size (length ps * size) ∙ sym (suc-mul (length ps) size))))

-- the f64 sum from an exact accumulator
module _ {A : Type 0} (k size : ℕ) (fine : k ≤ 1074) (f : A → Float) (g : A → ℤ) where
  from-exact : (z : ℤ) (ps : List A) → ((p : A) → In p ps → nat_abs (g p) ≤ size) → ((p : A) → In p ps → Holds k (g p) (f p))
      → nat_abs z + length ps * size ≤ 2 ^ 53 → visit (λ x s. add binary64 s x) (map f ps) (of_scaled k z) ≡ of_scaled k (z +ℤ sum_z (map g ps))
  unfolding visit sum_z
  from-exact z [] small holds h = ap (of_scaled k) (sym (+ℤ_idr z))
  from-exact z (p ∷ ps) small holds h =
      ap (visit (λ x s. add binary64 s x) (map f ps)) (add-scaled k z (g p) (f p) (front (nat_abs z) (suc (length ps) * size) h) fine (holds p (inl refl)))
      ∙ from-exact (z +ℤ g p) ps (λ q m. small q (inr m)) (λ q m. holds q (inr m))
      (next (nat_abs z) (nat_abs (g p)) (nat_abs (z +ℤ g p)) (length ps * size) (suc (length ps) * size) (suc-mul (length ps) size) (abs-add z (g p)) (small p (inl refl)) h)
      ∙ ap (of_scaled k) (+ℤ_assoc z (g p) (sum_z (map g ps)))
    where
      front : (a r : ℕ) → a + r ≤ 2 ^ 53 → a ≤ 2 ^ 53
      front a r h = omega arith

      next : (a b c r n : ℕ) → n ≡ r + size → c ≤ a + b → b ≤ size → a + n ≤ 2 ^ 53 → c + r ≤ 2 ^ 53
      next a b c r n e p q h = omega arith

module _ (L : Limit) (H : Held L) {A : Type 0} (Position : A → Type 0) (f : A → Float) (g : A → ℤ) (P : Product L Position f g) where
  -- so many positions of such a size
  count-le : (ps : List A) → Positions Position ps → length ps * L.size ≤ 2 ^ 53
  count-le ps S = le_trans (mul-le-mul_right L.size (P.few ps S)) H.room

  all_small : (ps : List A) → Positions Position ps → nat_abs (sum_z (map g ps)) ≤ 2 ^ 53
  all_small ps S = le_trans (sum-le L.size g ps (λ p m. P.small p (S.exist p m))) (count-le ps S)

  value : (ps : List A) → Positions Position ps → Holds L.scale (sum_z (map g ps)) (of_scaled L.scale (sum_z (map g ps)))
  value ps S = holds-scaled L.scale (sum_z (map g ps)) (all_small ps S) H.fine

  exact : (ps : List A) → Positions Position ps → sum_f (map f ps) ≡ of_scaled L.scale (sum_z (map g ps))
  unfolding sum_f
  exact ps S =
      ap (visit (λ x s. add binary64 s x) (map f ps)) (sym (scaled-zero L.scale))
      ∙ from-exact L.scale L.size H.fine f g (pos 0) ps (λ p m. P.small p (S.exist p m)) (λ p m. P.holds p (S.exist p m)) (le_trans (le_of_eq (zero-add (length ps * L.size))) (count-le ps S))
      ∙ ap (of_scaled L.scale) (+ℤ_idl (sum_z (map g ps)))

  parts : (ps qs us : List A) → Positions Position ps → Positions Position qs → Apart ps qs → NoDup us → Same us (ps ++ qs)
      → sum_f (map f us) ≡ add binary64 (sum_f (map f ps)) (sum_f (map f qs))
  parts ps qs us S T d n e =
      exact us (record { once = n; exist = λ p h. ⊎_elim (S.exist p) (T.exist p) (in-append p ps qs (e.0 p h)) })
      ∙ ap (of_scaled L.scale)
      (sum-same-set g us (ps ++ qs) n (nodup_append ps qs S.once T.once d) e
      ∙ ap sum_z (map-append g ps qs)
      ∙ sum-append (map g ps) (map g qs))
      ∙ sym (add-scaled L.scale (sum_z (map g ps)) (sum_z (map g qs)) (of_scaled L.scale (sum_z (map g qs))) (all_small ps S) H.fine (value qs T))
      ∙ (λ i. add binary64 (sym (exact ps S) i) (sym (exact qs T) i))

-- Demand 3
pub law-of-sums : (L : Limit) → Held L → {A : Type 0} (Position : A → Type 0) (f : A → Float) (g : A → ℤ) → Product L Position f g → ExactSums L.scale Position f g
law-of-sums L H Position f g P = record {
  exact = exact L H Position f g P;
  exact-value = λ ps S. subst (λ (x : Float). Holds L.scale (sum_z (map g ps)) x) (sym (exact L H Position f g P ps S)) (value L H Position f g P ps S);
  exact-zero = λ ps S e. exact L H Position f g P ps S ∙ ap (of_scaled L.scale) e ∙ scaled-zero L.scale;
  any_order = λ ps qs S T e. exact L H Position f g P ps S ∙ ap (of_scaled L.scale) (sum-same-set g ps qs S.once T.once e) ∙ sym (exact L H Position f g P qs T);
  parts = parts L H Position f g P;
}
