-- The numbers k − l, for k from 0 on: which of them is 0, their order, and a place that lies so far from another. Assumes nothing.
use mathlib.Core.Path.{◌≡◌, sym, ap, ◌∙◌}
use mathlib.Core.Bool.{true, false}
use mathlib.Core.Logic.{⊎_elim}
use Prim.Native.Nat.{ℕ, zero, suc, ◌+◌, ◌-◌, ◌≤◌, ◌<◌, suc-le-suc}
use native.Mathlib.Nat.{not-suc-le-zero, sub-add_cancel, lt_trans, le_of_lt, eq-or-lt_of_le}
use native.Mathlib.Omega.{arith}
use borrow.Author.Tests.{lt-ltb, le-ltb}
use lib.Dec.{T, eqb, eqb-suc-zero, lt→ltb, ltb→lt, leb→le, le→leb}
use lib.IntN.{ℤ, pos, negsuc, neg_ℤ, nat_abs, ◌+ℤ◌, ◌-ℤ◌, +ℤ_assoc, +ℤ_comm, +ℤ_invr, -ℤ-+ℤ_cancel, +ℤ-neg_ℤ_cancel}
use lib.Signed.{lt_z, le_z, non_neg, ◌<ℤ◌, ◌≤ℤ◌, ≤ℤ_refl, clash_ℤ, pos-nat_abs}
use Rattle.std.proofs.lemmas.Bool.{cases_lt}

-- ---- the sign
pub below : (k l : ℕ) → k < l → pos k -ℤ pos l ≡ negsuc (l - suc k)
below k zero h = absurd (not-suc-le-zero h)
below k (suc l) h = rw (lt-ltb k (suc l) h)

above : (k l : ℕ) → l ≤ k → pos k -ℤ pos l ≡ pos (k - l)
above k zero h = ap pos (omega arith)
above k (suc l) h = rw (le-ltb k (suc l) h)

pub is_zero : (l : ℕ) → eqb (nat_abs (pos l -ℤ pos l)) 0 ≡ true
is_zero l = rw (+ℤ_invr (pos l))

pub is-not-zero : (k l : ℕ) → k < l → eqb (nat_abs (pos k -ℤ pos l)) 0 ≡ false
is-not-zero k l h = rw (below k l h) (eqb-suc-zero (l - suc k))

-- ---- the order
pub offset-lt : (j k l : ℕ) → j < k → (pos j -ℤ pos l) <ℤ (pos k -ℤ pos l)
offset-lt j k l h = ⊎_elim both (λ u. ⊎_elim (apart u) (neither u) (cases_lt j l)) (cases_lt k l)
  where
    both : k < l → (pos j -ℤ pos l) <ℤ (pos k -ℤ pos l)
    both u = record { lt = rw (below j l (lt_trans h u), below k l u) (lt→ltb (l - suc k) (l - suc j) (omega arith)) }

    apart : l ≤ k → j < l → (pos j -ℤ pos l) <ℤ (pos k -ℤ pos l)
    apart u v = record { lt = rw (below j l v, above k l u) tt }

    neither : l ≤ k → l ≤ j → (pos j -ℤ pos l) <ℤ (pos k -ℤ pos l)
    neither u v = record { lt = rw (above j l v, above k l u) (lt→ltb (j - l) (k - l) (omega arith)) }

lt-le : {a b : ℤ} → a <ℤ b → a ≤ℤ b
lt-le {a} {b} h = record { le = go a b h.lt }
  where
    go : (a b : ℤ) → T (lt_z a b) → T (le_z a b)
    go (pos a) (pos b) t = le→leb a b (le_of_lt (ltb→lt a b t))
    go (pos a) (negsuc b) t = t
    go (negsuc a) (pos b) t = tt
    go (negsuc a) (negsuc b) t = le→leb b a (le_of_lt (ltb→lt b a t))

pub offset-le : (j k l : ℕ) → j ≤ k → (pos j -ℤ pos l) ≤ℤ (pos k -ℤ pos l)
offset-le j k l h = ⊎_elim (λ e. rw e (≤ℤ_refl (pos k -ℤ pos l))) (λ u. lt-le (offset-lt j k l u)) (eq-or-lt_of_le h)

pub offset-le-back : (j k l : ℕ) → (pos j -ℤ pos l) ≤ℤ (pos k -ℤ pos l) → j ≤ k
offset-le-back j k l h = ⊎_elim (λ u. clash_ℤ (offset-lt k j l u) h) (λ u. u) (cases_lt k j)

pub offset-lt-back : (j k l : ℕ) → (pos j -ℤ pos l) <ℤ (pos k -ℤ pos l) → j < k
offset-lt-back j k l h = ⊎_elim (λ u. u) (λ u. clash_ℤ h (offset-le k j l u)) (cases_lt j k)

pub offset-same : (j k l : ℕ) → pos j -ℤ pos l ≡ pos k -ℤ pos l → j ≡ k
offset-same j k l e = ap nat_abs (sym (-ℤ-+ℤ_cancel (pos j) (pos l)) ∙ ap (λ (z : ℤ). z +ℤ pos l) e ∙ -ℤ-+ℤ_cancel (pos k) (pos l))

-- every number from −l on is one of them
pub offset-of : (l : ℕ) (z : ℤ) → neg_ℤ (pos l) ≤ℤ z → pos (nat_abs (z +ℤ pos l)) -ℤ pos l ≡ z
offset-of l z h = ap (λ (y : ℤ). y -ℤ pos l) (pos-nat_abs (z +ℤ pos l) (whole l z h.le)) ∙ +ℤ-neg_ℤ_cancel z (pos l)
  where
    whole : (l : ℕ) (z : ℤ) → T (le_z (neg_ℤ (pos l)) z) → T (non_neg (z +ℤ pos l))
    whole l (pos a) t = tt
    whole zero (negsuc a) t = absurd t
    whole (suc l) (negsuc a) t = rw (le-ltb (suc l) (suc a) (suc-le-suc (leb→le a l t))) tt

-- ---- added
pub offset-add : (y k l : ℕ) → l ≤ y → pos y +ℤ (pos k -ℤ pos l) ≡ pos (y - l + k)
offset-add y k l h =
    ap (λ (n : ℕ). pos n +ℤ (pos k -ℤ pos l)) (sym (sub-add_cancel h))
    ∙ +ℤ_assoc (pos (y - l)) (pos l) (pos k -ℤ pos l)
    ∙ ap (λ (z : ℤ). pos (y - l) +ℤ z) (+ℤ_comm (pos l) (pos k -ℤ pos l) ∙ -ℤ-+ℤ_cancel (pos k) (pos l))
