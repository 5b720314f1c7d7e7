-- The known values that a loop takes off, number by number, are those of the pairs that the code goes along. Assumes nothing.
use Rattle.std.proofs.Common.{◌≡◌, ℕ, zero, suc, ◌+◌, ◌-◌, ◌<◌, ◌≤◌, List, length, get_or, take, drop, refl, ap, ◌∙◌, add-one, arith, length-drop}
use Rattle.std.specs.Float.{Float, nan}
use Rattle.std.specs.List.{zip, fold}
use Rattle.std.proofs.lemmas.List.{take_all, length-take-le, get_or-take, get_or-drop}
use Rattle.std.proofs.lemmas.List.Sums.{fold_more}
use Rattle.std.proofs.lemmas.Slice.Zip.{length-zip, get_or-zip}
use Rattle.laws.specs.Loop.{turns, loop}
use Rattle.solve.specs.Elimination.{Row, value, less, known_less}

abbrev less_each : Float → List (Float × Float) → Float
less_each = fold (λ v p. less v p.0 p.1)

-- a part of a row: its length, and its entries
part-long : (row : Row) (a m : ℕ) → a + m ≤ length row → length (take m (drop a row)) ≡ m
part-long row a m h = length-take-le m (drop a row) (omega (arith, length-drop a row))

pub part_at : (row : Row) (a m k : ℕ) → k < m → get_or (take m (drop a row)) k nan ≡ value row (a + k)
part_at row a m k h = get_or-take m (drop a row) k nan h ∙ get_or-drop a row k nan

module _ (row x : Row) (a m : ℕ) (h : a + m ≤ length row) (l : a + m ≤ length x) where
  abbrev pairs : List (Float × Float)
  pairs = zip (take m (drop a row)) (take m (drop a x))

  pairs-long : length pairs ≡ m
  pairs-long = length-zip _ _ ∙ rw (part-long row a m h, part-long x a m l) (omega arith)

  pairs_at : (k : ℕ) → k < m → get_or pairs k (nan, nan) ≡ (value row (a + k), value x (a + k))
  pairs_at k s =
      get_or-zip _ _ k (nan, nan) (rw (part-long row a m h) s) (rw (part-long x a m l) s)
      ∙ rw (part_at row a m k s, part_at x a m k s)

  taken : (v : Float) (k : ℕ) → k ≤ m → turns (known_less row x) a k v ≡ less_each v (take k pairs)
  unfolding turns known_less
  taken v zero s = refl
  taken v (suc k) s =
      rw (taken v k (omega arith), ← add-one k, fold_more (λ v p. less v p.0 p.1) v pairs k (nan, nan) (rw pairs-long s), pairs_at k s)

  pub known-taken : (v : Float) (b : ℕ) → b - a ≡ m → loop a b (known_less row x) v ≡ less_each v pairs
  unfolding loop
  known-taken v b e = rw e (taken v m (omega arith) ∙ ap (less_each v) (take_all m pairs (rw pairs-long (omega arith))))
