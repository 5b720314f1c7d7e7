-- The worked averages, by computing. Assumes nothing.
use mathlib.Core.Path.{refl}
use lib.Ieee.{add, sub, div, of_int, of_bits}
use Rattle.table.specs.Cases.{Right}
use Rattle.laws.specs.Loop.{loop, turns}
use Rattle.laws.specs.Sums.{total}
use Rattle.noise.specs.Average.{average_f, quarters, visited}
use Rattle.table.specs.Averages.{average_at, cases}

pub cases-right : Right average_at cases
unfolding average_f quarters visited loop turns total add sub div of_int of_bits
cases-right = (refl, (refl, (refl, (refl, (refl, (refl, (refl, (refl, (refl, (refl, tt))))))))))
