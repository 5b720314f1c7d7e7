-- How a plane is looked at: a view says where row and column stand among the plane's samples. A whole plane, a part of it or one stored by columns are views; figures are of the samples that a view shows, in row order.
use Rattle.std.specs.Prelude.{List, ℕ, ◌+◌, ◌*◌, ◌/◌, ◌%◌, get_or}
use Rattle.laws.specs.Table.{tabulate}
use Rattle.frame.specs.declared.Rectangle.{Rectangle}
use Rattle.frame.specs.declared.view.View.{View}

-- where row r and column c stand
abbrev pub place_at : View → ℕ → ℕ → ℕ
place_at v r c = v.start + r * v.step + c * v.stride

-- the samples that a view shows, in row order
unfoldable pub viewed : View → List ℕ → List ℕ
viewed v plane = tabulate (v.width * v.height) (λ i. get_or plane (place_at v (i / v.width) (i % v.width)) 0)

-- the whole of a plane in row order
abbrev pub whole : ℕ → ℕ → View
whole w h = record { start = 0; step = w; stride = 1; width = w; height = h }

-- a rectangle of a plane w wide, its rows in order
abbrev pub part : ℕ → Rectangle → View
part w a = record { start = a.top * w + a.left; step = w; stride = 1; width = a.width; height = a.height }
