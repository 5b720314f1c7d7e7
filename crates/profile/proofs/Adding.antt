-- Tables that runs are added to: where nothing is added yet, after a run more, and their room for the next. One law for counts and squares. Assumes nothing.
use mathlib.Core.Path.{◌≡◌, ap, ◌∙◌}
use mathlib.Core.List.{List}
use Prim.Native.Nat.{ℕ, ◌+◌, ◌*◌, ◌^◌, ◌≤◌, ◌<◌}
use native.Mathlib.Nat.{add_assoc}
use native.Mathlib.Omega.{arith}
use lib.ListN.{length, get_or, replicate, get_or-replicate}
use Rattle.laws.specs.Limits.{plane_limit}
use Rattle.laws.specs.Table.{tabulate}
use Rattle.laws.proofs.Table.{get_d_tabulate, tabulate-same}
use Rattle.profile.specs.Parts.{square_limit}
use Rattle.profile.specs.Runs.{Tables, TablesAdded, increased, Blank}
use Rattle.profile.proofs.Tables.{by_entries}

-- ---- one table
increased-none : (table : List ℕ) (n : ℕ) (f : ℕ → ℕ) → length table ≡ n → ((j : ℕ) → f j ≡ 0) → table ≡ increased table n f
increased-none table n f e h = by_entries table n (λ j. get_or table j 0 + f j) e (λ j l. omega (arith, h j))

module _ (from : List ℕ) (n : ℕ) (f : ℕ → ℕ) {table : List ℕ} (e : table ≡ increased from n f) where
  increased-at : (j : ℕ) → j < n → get_or table j 0 ≡ get_or from j 0 + f j
  increased-at j l = ap (λ (t : List ℕ). get_or t j 0) e ∙ get_d_tabulate n (λ j. get_or from j 0 + f j) j 0 l

  increased-more : (g h : ℕ → ℕ) {to : List ℕ} → to ≡ increased table n g → ((j : ℕ) → f j + g j ≡ h j) → to ≡ increased from n h
  increased-more g h d m =
      d
      ∙ tabulate-same n (λ j. get_or table j 0 + g j) (λ j. get_or from j 0 + h j)
      (λ j l. ap (λ (x : ℕ). x + g j) (increased-at j l) ∙ add_assoc (get_or from j 0) (f j) (g j) ∙ ap (λ (x : ℕ). get_or from j 0 + x) (m j))

  increased-blank : from ≡ replicate n 0 → table ≡ tabulate n f
  increased-blank z = e ∙ tabulate-same n (λ j. get_or from j 0 + f j) f (λ j l. rw (z, get_or-replicate {A = ℕ} n j 0 0 l) (omega arith))

-- ---- both
module _ (bits : ℕ) {count squares : List ℕ} where
  pub added_none : (f g : ℕ → ℕ) → length count ≡ 2 ^ bits → length squares ≡ 2 ^ bits → ((j : ℕ) → f j ≡ 0) → ((j : ℕ) → g j ≡ 0) → TablesAdded bits count squares f g count squares
  added_none f g c s p q = record { counts = increased-none count (2 ^ bits) f c p; sums = increased-none squares (2 ^ bits) g s q }

  module _ {f g : ℕ → ℕ} {count' squares' : List ℕ} (A : TablesAdded bits count squares f g count' squares') where
    pub added_more : (f' g' : ℕ → ℕ) {count'' squares'' : List ℕ} (f'' g'' : ℕ → ℕ) → TablesAdded bits count' squares' f' g' count'' squares''
        → ((j : ℕ) → f j + f' j ≡ f'' j) → ((j : ℕ) → g j + g' j ≡ g'' j) → TablesAdded bits count squares f'' g'' count'' squares''
    added_more f' g' f'' g'' B p q = record {
      counts = increased-more count (2 ^ bits) f A.counts f' f'' B.counts p;
      sums = increased-more squares (2 ^ bits) g A.sums g' g'' B.sums q;
    }

    -- k samples were added, and there is room for m more
    pub room : (k m : ℕ) {n : ℕ} → Tables bits n count squares → k + m ≤ n → ((j : ℕ) → f j ≤ k) → ((j : ℕ) → g j ≤ square_limit * k) → Tables bits m count' squares'
    room k m {n} T l p q =
        record {
          count_room = λ j h. omega (arith, increased-at count (2 ^ bits) f A.counts j h, T.count_room j h, p j);
          squares-room = λ j h. omega (arith, increased-at squares (2 ^ bits) g A.sums j h, T.squares-room j h, q j);
        }

-- tables of zeros have room for a plane
pub blank-tables : {bits : ℕ} {count squares : List ℕ} → Blank bits count squares → Tables bits plane_limit count squares
blank-tables {bits} B =
    record {
      count_room = λ j h. rw (B.counts, get_or-replicate {A = ℕ} (2 ^ bits) j 0 0 h) (omega arith);
      squares-room = λ j h. rw (B.sums, get_or-replicate {A = ℕ} (2 ^ bits) j 0 0 h) (omega arith);
    }

pub added-blank : (bits : ℕ) {count squares count' squares' : List ℕ} (f g : ℕ → ℕ) → Blank bits count squares → TablesAdded bits count squares f g count' squares'
    → (count' ≡ tabulate (2 ^ bits) f) × (squares' ≡ tabulate (2 ^ bits) g)
added-blank bits {count} {squares} f g B A = (increased-blank count (2 ^ bits) f A.counts B.counts, increased-blank squares (2 ^ bits) g A.sums B.sums)
