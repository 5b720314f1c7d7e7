-- Loops that go along a list and leave a number at each place, as their proofs want it: the state after one place, after a part of the list and at the end. Assumes nothing.
use mathlib.Core.Path.{◌≡◌, refl, sym, ap, ◌∙◌}
use mathlib.Core.List.{List, ◌++◌}
use mathlib.Core.Logic.{⊎_elim}
use Prim.Native.Nat.{ℕ, ◌+◌, ◌-◌, ◌^◌, ◌≤◌, ◌<◌}
use native.Mathlib.Nat.{le_trans, le_of_eq, lt_of_lt_of_le}
use native.Mathlib.Omega.{arith}
use lib.IntN.{ℤ, pos, nat_abs, ◌+ℤ◌, +ℤ_idr}
use lib.ListN.{length, take, drop, set, length-set}
use lib.Seq.{ext_get_or, get_or-set_same, get_or-set_other}
use mir.Syntax.{w64}
use Rattle.laws.specs.Table.{tabulate}
use Rattle.laws.proofs.Table.{length-tabulate, get_d_tabulate}
use Rattle.laws.proofs.Is.{Is, known}
use Rattle.std.proofs.lemmas.Bool.{cases_lt}
use Rattle.noise.specs.Lines.{at}
use Rattle.noise.proofs.LineSums.{entry, size}
use Rattle.normal.proofs.Stored.{Stored, stored}

-- a list is the table of its entries
pub table_is : (l : List ℤ) (n : ℕ) (f : ℕ → ℤ) → length l ≡ n → ((i : ℕ) → i < n → at l i ≡ f i) → l ≡ tabulate n f
table_is l n f e h =
    ext_get_or (pos 0) l (tabulate n f) (e ∙ sym (length-tabulate n f)) (λ i k. let m : i < n = rw e at k in h i m ∙ sym (get_d_tabulate n f i (pos 0) m))

-- a list that was `before` holds g at the first k places, and is as it was from there on
pub record Reached (g : ℕ → ℤ) (before now : List ℤ) (k : ℕ) : Type 0 where
  pub count : k ≤ length before
  pub same : length now ≡ length before
  pub there : (i : ℕ) → i < k → at now i ≡ g i
  pub rest : (i : ℕ) → k ≤ i → at now i ≡ at before i

module _ (g : ℕ → ℤ) (before : List ℤ) where
  module _ {now : List ℤ} (k : ℕ) (R : Reached g before now k) where
    pub reached-ends : length before ≤ k → now ≡ tabulate (length before) g
    reached-ends h = table_is now (length before) g R.same (λ i l. R.there i (lt_of_lt_of_le l h))

    -- ---- up to place e
    grows : (now' : List ℤ) (e : ℕ) → k ≤ e → e ≤ length before → length now' ≡ length now
        → ((i : ℕ) → i < k → at now' i ≡ at now i)
        → ((i : ℕ) → k ≤ i → i < e → at now' i ≡ g i)
        → ((i : ℕ) → e ≤ i → at now' i ≡ at now i)
        → Reached g before now' e
    grows now' e o l d early new late =
        record {
          count = l;
          same = d ∙ R.same;
          there = λ i h. ⊎_elim (λ q. early i q ∙ R.there i q) (λ q. new i q h) (cases_lt i k);
          rest = λ i h. late i h ∙ R.rest i (le_trans o h);
        }

    -- one place
    pub reached-turn : (v : ℤ) → k < length before → v ≡ g k → Reached g before (set now k v) (k + 1)
    reached-turn v h e =
        grows (set now k v) (k + 1) (omega arith) (omega arith) (length-set now k v)
        (λ i l. get_or-set_other now k i v (pos 0) (below i l))
        (λ i l m. let d : i ≡ k = omega arith in rw d (get_or-set_same now k v (pos 0) (omega (arith, R.same)) ∙ e))
        (λ i l. get_or-set_other now k i v (pos 0) (above i l))
      where
        below : (i : ℕ) → i < k → i ≡ k → ⊥
        below i l e = omega arith

        above : (i : ℕ) → k + 1 ≤ i → i ≡ k → ⊥
        above i l e = omega arith

    -- a part of n places, lent and come back
    module _ (n : ℕ) (l : k + n ≤ length before) where
      pub part-long : k + n ≤ length now
      part-long = le_trans l (le_of_eq (sym R.same))

      pub reached-part : {new : List ℤ} → new ≡ tabulate n (λ c. g (k + c)) → Reached g before (take k now ++ (new ++ drop (k + n - k) (drop k now))) (k + n)
      reached-part {new} e =
          grows _ (k + n) (omega arith) l S.same S.early
          (λ i h m.
          let c = i - k in
          let q : i ≡ k + c = omega arith in
          let r : c < n = omega arith in
          rw q (S.there c (lt_of_lt_of_le r (le_of_eq (sym new-length))) ∙ entry _ _ e c r))
          (λ i h. S.late i (omega (arith, new-length)))
        where
          new-length : length new ≡ n
          new-length = size _ _ e

          S : Stored now (take k now ++ (new ++ drop (k + n - k) (drop k now))) k new
          S = stored now new k n part-long new-length

-- nothing added
pub unchanged : (l : List ℤ) (more : ℕ → ℤ) → ((i : ℕ) → more i ≡ pos 0) → l ≡ tabulate (length l) (λ i. at l i +ℤ more i)
unchanged l more h = table_is l (length l) _ refl (λ i k. sym (+ℤ_idr (at l i)) ∙ ap (λ (x : ℤ). at l i +ℤ x) (sym (h i)))

-- ---- numbers added to those before
abbrev pub plus : (before : List ℤ) (more : ℕ → ℤ) → ℕ → ℤ
plus before more i = at before i +ℤ more i

module _ (before : List ℤ) (more : ℕ → ℤ) {now : List ℤ} (k : ℕ) (R : Reached (plus before more) before now k) where
  -- each out of its local
  pub added_is : {x y : ℤ} → x ≡ at now k → y ≡ more k → nat_abs (plus before more k) < 2 ^ 63 → Is w64 (x +ℤ y) (plus before more k)
  added_is f e h = let g = R.rest k (omega arith) in known (λ j. (f ∙ g) j +ℤ e j) h
