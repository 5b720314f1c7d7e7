-- "Does not fit its bits": a row whose limits lie within what its bits can say.
use Rattle.std.specs.Prelude.{cond, ℕ, ◌+◌, ◌^◌, ◌<◌, ◌≤◌}
use Rattle.header.specs.Row.{Row, width, code}
use Rattle.header.specs.Bits.{digits, number}

pub record Fits (r : Row) : Type 0 where
  pub low : r.off ≤ r.least
  pub high : r.most < r.off + 2 ^ r.bits

-- what a row's bits say is stored: their number with what they leave off; 0 where the syntax skips it
unfoldable pub said : Row → ℕ
said r = cond r.present (r.off + number (digits (width r) (code r))) 0
