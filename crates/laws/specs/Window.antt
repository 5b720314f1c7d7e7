-- Places of a plane, and a window of them: some rows with some columns, in the order of `for r in a..b { for q in c..d { .. } }`. A loop walks along a window; that its places are positions of a product is shown for each.
use Rattle.std.specs.Prelude.{List, [], ◌∷◌, ◌++◌, map, ℕ}
use Rattle.laws.specs.Table.{range}

-- a row and a column
abbrev pub Place : Type 0
Place = ℕ × ℕ

abbrev pub place : ℕ → ℕ → Place
place r q = (r, q)

-- each of these rows with each of these columns
abbrev pub places : List ℕ → List ℕ → List Place
places [] qs = []
places (r ∷ rs) qs = map (place r) qs ++ places rs qs

-- rows a to b - 1, columns c to d - 1
abbrev pub window : ℕ → ℕ → ℕ → ℕ → List Place
window a b c d = places (range a b) (range c d)

-- a function of a row and a column, at a place
abbrev pub at : {B : Type 0} → (ℕ → ℕ → B) → Place → B
at f p = f p.0 p.1
