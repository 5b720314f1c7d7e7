-- "Coefficient i belongs to neighbour i": a neighbour's noise as the Rust looks it up.
use Rattle.std.specs.Prelude.{pos, ◌+ℤ◌, unsigned_abs}
use Rattle.positions.specs.Positions.{Offset}
use Rattle.normal.specs.Normal.{Picture}

-- `noise[(y as i32 + dr) as usize * w + (x as i32 + dc) as usize]`, of a picture by rows and columns. Right where the neighbour exists: neither number is negative there, and nat_abs folds none
abbrev pub offset_by : Picture → Offset → Picture
offset_by f (dr, dc) y x = f (unsigned_abs (pos y +ℤ dr)) (unsigned_abs (pos x +ℤ dc))
