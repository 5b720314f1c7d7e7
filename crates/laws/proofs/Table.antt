-- The laws of `tabulate`: its length and entries, and a list that is filled from the front, store by store. Assumes nothing.
use mathlib.Core.Path.{◌≡◌, refl, sym, ◌∙◌}
use mathlib.Core.List.{List, [], ◌∷◌, ◌++◌, map, map-append, append-nil, append_assoc}
use mathlib.Core.Logic.{⊎_elim}
use Prim.Native.Nat.{ℕ, zero, suc, ◌+◌, ◌<◌, ◌≤◌}
use native.Mathlib.Omega.{arith}
use native.Mathlib.Numerals.{add-one}
use native.Mathlib.Nat.{add-zero, add-suc, eq-or-lt_of_le, le_of_suc-le-suc, not-suc-le-zero, le_refl, le_trans, le-suc}
use lib.ListN.{length, get_or, take, set, length-append, get_or-append}
use lib.Seq.{get_or_at, take-suc-set, take_all}
use Rattle.laws.specs.Table.{tabulate}

module _ {ℓ} {A : Type ℓ} where
  pub length-tabulate : (n : ℕ) (f : ℕ → A) → length (tabulate n f) ≡ n
  length-tabulate zero f = refl
  length-tabulate (suc n) f = length-append (tabulate n f) (f n ∷ []) ∙ omega (arith, length-tabulate n f)

  pub get_d_tabulate : (n : ℕ) (f : ℕ → A) (i : ℕ) (d : A) → i < n → get_or (tabulate n f) i d ≡ f i
  get_d_tabulate zero f i d h = absurd (not-suc-le-zero h)
  get_d_tabulate (suc n) f i d h =
      ⊎_elim
      (λ e. rw e (get_or_at (tabulate n f) (f n) [] d n (length-tabulate n f)))
      (λ p. get_or-append (tabulate n f) (f n ∷ []) d i (rw (length-tabulate n f) p) ∙ get_d_tabulate n f i d p)
      (eq-or-lt_of_le (le_of_suc-le-suc h))

  -- one store more: what a loop that fills a list from the front does in a turn
  pub tabulate-more : (l : List A) (i : ℕ) (f : ℕ → A) (v : A) → i < length l → take i l ≡ tabulate i f → v ≡ f i → take (i + 1) (set l i v) ≡ tabulate (i + 1) f
  tabulate-more l i f v h p e = rw (add-one i, take-suc-set l i v h, p, e)

  -- the same at an equal count
  pub tabulate-at : (l : List A) (f : ℕ → A) (m n : ℕ) → m ≡ n → take m l ≡ tabulate m f → take n l ≡ tabulate n f
  tabulate-at l f m n e p = rw e at p

  -- the loop's end
  pub tabulate-whole : (l : List A) (n : ℕ) (f : ℕ → A) → length l ≡ n → take n l ≡ tabulate n f → l ≡ tabulate n f
  tabulate-whole l n f h p = sym (take_all n l (omega arith)) ∙ p

  -- the same where the loop's test says that no turn is left
  pub tabulate-ends : (l : List A) (k n : ℕ) (f : ℕ → A) → length l ≡ n → k ≤ n → n ≤ k → take k l ≡ tabulate k f → l ≡ tabulate n f
  tabulate-ends l k n f h a b p = let e : k ≡ n = omega arith in tabulate-whole l n f h (tabulate-at l f k n e p)

  -- two tables with equal entries
  pub tabulate-same : (n : ℕ) (f g : ℕ → A) → ((i : ℕ) → i < n → f i ≡ g i) → tabulate n f ≡ tabulate n g
  tabulate-same zero f g h = refl
  tabulate-same (suc n) f g h = rw (tabulate-same n f g (λ i l. h i (le_trans l (le-suc n))), h n (le_refl (suc n)))

  -- a table is its first m entries and the n after them
  pub tabulate-add : (m n : ℕ) (f : ℕ → A) → tabulate (m + n) f ≡ tabulate m f ++ tabulate n (λ i. f (m + i))
  tabulate-add m zero f = rw (add-zero, append-nil)
  tabulate-add m (suc n) f = rw (add-suc, tabulate-add m n f, append_assoc)

  -- two tables, the second of which goes on with the first
  pub tabulate-then : (m n : ℕ) (f g : ℕ → A) → ((j : ℕ) → j < n → g j ≡ f (m + j)) → tabulate m f ++ tabulate n g ≡ tabulate (m + n) f
  tabulate-then m n f g h = rw (tabulate-same n g (λ j. f (m + j)) h, tabulate-add m n f)

pub map-tabulate {ℓ κ} : {A : Type ℓ} {B : Type κ} (g : A → B) (n : ℕ) (f : ℕ → A) → map g (tabulate n f) ≡ tabulate n (λ i. g (f i))
map-tabulate g zero f = refl
map-tabulate g (suc n) f = map-append g (tabulate n f) (f n ∷ []) ∙ rw (map-tabulate g n f)
