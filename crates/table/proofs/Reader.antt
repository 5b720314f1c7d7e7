-- The reads of the table, each row by computation. Assumes nothing.
use mathlib.Core.Path.{refl}
use Rattle.table.specs.Cases.{Right}
use Rattle.frame.specs.Calls.{plane_numbers}
use Rattle.frame.specs.Questions.{each}
use Rattle.plane_reader.specs.Read.{read_refusal, sample_of}
use Rattle.table.specs.Reader.{read, reads}

pub reads-right : Right read reads
unfolding sample_of read_refusal plane_numbers each
reads-right = (refl, (refl, (refl, (refl, (refl, (refl, (refl, (refl, tt))))))))
