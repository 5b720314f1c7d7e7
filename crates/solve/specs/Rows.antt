-- The part of an elimination's step that works on one row. That these rows make up `row_less` is `rows_apart`.
use Rattle.std.specs.Prelude.{ℕ, set, Float}
use Rattle.std.specs.Float.{binary64}
use Rattle.std.specs.Float.Ieee.{div}
use Rattle.laws.specs.Loop.{loop}
use Rattle.solve.specs.Elimination.{Row, value, less}

-- row[c] -= f * v;
abbrev pub entry_less : Row → ℕ → Float → Float → Row
entry_less row c f v = set row c (less (value row c) f v)

-- row[i] / pivot[i]
abbrev pub factor_of : Row → Row → ℕ → Float
factor_of row pivot i = div binary64 (value row i) (value pivot i)

-- for c in i..p { row[c] -= f * pivot[c]; }
unfoldable pub less_row : ℕ → ℕ → Float → Row → Row → Row
less_row p i f pivot row = loop i p (λ c left. entry_less left c f (value pivot c)) row
