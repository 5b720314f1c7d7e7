-- Question 10 is yes exactly if every row is allowed in words. Assumes nothing.
use mathlib.Core.Path.{◌≡◌, refl}
use mathlib.Core.Bool.{Bool, true, false, and-eq-true_iff}
use mathlib.Core.List.{List, [], ◌∷◌}
use mathlib.Core.Logic.{◌↔◌}
use Prim.Native.Nat.{◌≤◌}
use lib.Dec.{leb}
use borrow.Author.Tests.{leb-true, le-leb, eqb-true, eq-eqb}
use Rattle.header.specs.Row.{Row, All, allowed}
use Rattle.header.specs.Bits.{all_allowed}
use Rattle.header.specs.Allowed.{Allowed}

-- the test of a row
abbrev test : Row → Bool
test r = allowed r.present r.least r.most r.stored

pub row_kept : (r : Row) → test r ≡ true → r.present ≡ true → (r.least ≤ r.stored) × (r.stored ≤ r.most)
unfolding allowed
row_kept r e here =
    let q = (and-eq-true_iff (leb r.least r.stored) (leb r.stored r.most)).0 (rw here at e) in
    (leb-true r.least r.stored q.0, leb-true r.stored r.most q.1)

pub row-skipped : (r : Row) → test r ≡ true → r.present ≡ false → r.stored ≡ 0
unfolding allowed
row-skipped r e gone = eqb-true r.stored 0 (rw gone at e)

row-passes : (r : Row) → Allowed r → test r ≡ true
unfolding allowed
row-passes r a = go r.present refl
  where
    go : (t : Bool) → r.present ≡ t → test r ≡ true
    go true here = rw (here, le-leb r.least r.stored (a.kept here).0, le-leb r.stored r.most (a.kept here).1)
    go false gone = rw (gone, eq-eqb r.stored 0 (a.skipped gone))

pub rows-allowed : (rs : List Row) → (all_allowed rs ≡ true) ↔ All Allowed rs
unfolding all_allowed
rows-allowed [] = (λ e. tt, λ a. refl)
rows-allowed (r ∷ rs) =
    let both = and-eq-true_iff (test r) (all_allowed rs) in (
      λ e. let q = both.0 e in (record { kept = row_kept r q.0; skipped = row-skipped r q.0 }, (rows-allowed rs).0 q.1),
      λ a. both.1 (row-passes r a.0, (rows-allowed rs).1 a.1),
    )
