-- "10 if a field, or a place of an array, breaks a limit .., does not fit its bits, or is skipped by the syntax and differs from `FilmGrainParams::reset`": what is left, in words.
use Rattle.std.specs.Prelude.{◌≡◌, true, false, ◌≤◌}
use Rattle.header.specs.Row.{Row}

-- what the syntax has lies within its limits, and what it skips is 0
pub record Allowed (r : Row) : Type 0 where
  pub kept : r.present ≡ true → (r.least ≤ r.stored) × (r.stored ≤ r.most)
  pub skipped : r.present ≡ false → r.stored ≡ 0
