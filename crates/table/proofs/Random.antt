-- The seeds and the draws of the table, each row by computation. Assumes nothing.
use mathlib.Core.Path.{refl}
use Rattle.table.specs.Cases.{Right}
use Rattle.random.specs.Seed.{seed}
use Rattle.random.specs.Text.{new_bit, moved, answer}
use Rattle.table.specs.Random.{seeds, asked, draws}

pub seeds-right : Right seed seeds
seeds-right = (refl, (refl, (refl, tt)))

pub draws-right : Right asked draws
unfolding new_bit moved answer
draws-right = (refl, (refl, (refl, (refl, tt))))
