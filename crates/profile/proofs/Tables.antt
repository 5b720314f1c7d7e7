-- Tables of numbers: a list is the table of its entries, one store changes one entry, and a loop that goes through the entries changes all. Entry by entry. Assumes nothing.
use mathlib.Core.Path.{◌≡◌, refl, sym, ap, ◌∙◌}
use mathlib.Core.List.{List}
use mathlib.Core.Bool.{Bool, true, false, cond}
use Prim.Native.Nat.{ℕ, ◌+◌, ◌*◌, ◌^◌, ◌≤◌, ◌<◌}
use native.Mathlib.Nat.{lt_of_lt_of_le, le_of_eq}
use native.Mathlib.Omega.{arith}
use prog.Memory.{up}
use lib.Pow.{pow_mono}
use lib.Dec.{eqb, ltb}
use lib.ListN.{length, get_or, set, length-set}
use lib.Seq.{ext_get_or, get_or-set_same, get_or-set_other}
use borrow.Author.Tests.{eqb-true, eqb-false, eq-eqb, ne_eqb, lt-ltb, le-ltb, ltb-true, ltb-false}
use Rattle.laws.specs.Table.{tabulate}
use Rattle.laws.proofs.Table.{length-tabulate, get_d_tabulate, tabulate-same}
use Rattle.profile.specs.Steps.{added}

-- bins that few bits number take few bytes
pub bins-held : {bits n : ℕ} → bits ≤ 8 → n ≡ 2 ^ bits → up 8 (up 8 (8 + n * 8) + n * 8) < 2 ^ 63
bins-held {bits} {n} h e = let m : 2 ^ bits ≤ 2 ^ 8 = pow_mono h in omega (arith, e, m)

pub by_entries : (l : List ℕ) (n : ℕ) (f : ℕ → ℕ) → length l ≡ n → ((i : ℕ) → i < n → get_or l i 0 ≡ f i) → l ≡ tabulate n f
by_entries l n f e h =
    ext_get_or 0 l (tabulate n f) (e ∙ sym (length-tabulate n f)) (λ i p. let q : i < n = lt_of_lt_of_le p (le_of_eq e) in h i q ∙ sym (get_d_tabulate n f i 0 q))

-- a store into a list whose entries are those of f, which then are those of g
pub set-table : (l : List ℕ) (n k v : ℕ) (f g : ℕ → ℕ) → l ≡ tabulate n f → k < n → v ≡ g k → ((i : ℕ) → i < n → (i ≡ k → ⊥) → f i ≡ g i)
    → set l k v ≡ tabulate n g
set-table l n k v f g e h w others =
    let size : length l ≡ n = rw e (length-tabulate n f) in
    by_entries (set l k v) n g (length-set l k v ∙ size) (λ i p. entry i p (eqb i k) refl)
  where
    entry : (i : ℕ) → i < n → (t : Bool) → eqb i k ≡ t → get_or (set l k v) i 0 ≡ g i
    entry i p true d =
        let q = eqb-true i k d in
        let s : k < length l = rw (e, length-tabulate n f) h in
        rw q (get_or-set_same l k v 0 s ∙ w)
    entry i p false d =
        let q = eqb-false i k d in
        get_or-set_other l k i v 0 q ∙ rw e (get_d_tabulate n f i 0 p) ∙ others i p q

-- `xs[k] += v;`
pub added-table : (l : List ℕ) (n k v : ℕ) (f : ℕ → ℕ) → l ≡ tabulate n f → k < n → added l k v ≡ tabulate n (λ j. f j + cond (eqb k j) v 0)
added-table l n k v f e h =
    set-table l n k (get_or l k 0 + v) f (λ j. f j + cond (eqb k j) v 0) e h
    (rw (eq-eqb k k refl, e, get_d_tabulate n f k 0 h))
    (λ i p q. rw (ne_eqb k i (λ d. q (sym d))) (omega arith))

-- ---- a loop that increases each entry by f, one a turn

-- the entries of `from`, the first k of them increased
abbrev pub entries_to : (ℕ → ℕ) → List ℕ → ℕ → ℕ → ℕ
entries_to f from k i = get_or from i 0 + cond (ltb i k) (f i) 0

pub record Increasing (f : ℕ → ℕ) (from to : List ℕ) (n k : ℕ) : Type 0 where
  pub within : k ≤ n
  pub size : length to ≡ n
  pub entries : to ≡ tabulate n (entries_to f from k)

module _ (f : ℕ → ℕ) (from : List ℕ) (n : ℕ) where
  pub increase-starts : length from ≡ n → Increasing f from from n 0
  increase-starts e =
      record { within = omega arith; size = e; entries = by_entries from n (entries_to f from 0) e (λ i l. rw (le-ltb i 0 (omega arith)) (omega arith)) }

  module _ {to : List ℕ} {k : ℕ} (I : Increasing f from to n k) where
    -- the entry whose turn it is
    pub increase-entry : k < n → get_or to k 0 ≡ get_or from k 0
    increase-entry h = rw (I.entries, get_d_tabulate n (entries_to f from k) k 0 h, le-ltb k k (omega arith)) (omega arith)

    pub increase-turn : (w : ℕ) → k < n → w ≡ f k → Increasing f from (added to k w) n (k + 1)
    increase-turn w h e =
        record {
          within = omega arith;
          size = length-set to k (get_or to k 0 + w) ∙ I.size;
          entries =
              set-table to n k (get_or to k 0 + w) (entries_to f from k) (entries_to f from (k + 1)) I.entries h
              (rw (increase-entry h, e, lt-ltb k (k + 1) (omega arith)))
              (λ i p q. ap (λ (t : Bool). get_or from i 0 + cond t (f i) 0) (passed i k q (ltb i k) refl));
        }
      where
        passed : (i k : ℕ) → (i ≡ k → ⊥) → (t : Bool) → ltb i k ≡ t → ltb i k ≡ ltb i (k + 1)
        passed i k q true e = e ∙ sym (lt-ltb i (k + 1) (omega (arith, ltb-true i k e)))
        passed i k q false e = e ∙ sym (le-ltb i (k + 1) (omega (arith, ltb-false i k e)))

    pub increase-ends : n ≤ k → to ≡ tabulate n (λ i. get_or from i 0 + f i)
    increase-ends h = I.entries ∙ tabulate-same n (entries_to f from k) (λ i. get_or from i 0 + f i) (λ i l. rw (lt-ltb i k (omega arith)))
