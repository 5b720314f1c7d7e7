-- What is known of a shape whose frame is within the limit and whose active rectangle is within the frame: enough for its views.
use Rattle.std.specs.Prelude.{◌+◌, ◌≤◌}
use Rattle.laws.specs.Limits.{side_limit}
use Rattle.frame.specs.declared.Shape.{Shape}

pub record Inside (s : Shape) : Type 0 where
  pub wide : s.width ≤ side_limit
  pub high : s.height ≤ side_limit
  pub across : s.active.left + s.active.width ≤ s.width
  pub down : s.active.top + s.active.height ≤ s.height
