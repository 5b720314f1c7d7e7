-- "A refused call returns its number, with every other field of the answer zero.": a gate's answer as C has it.
use Rattle.std.specs.Prelude.{Bool, false, Result, Ok, Err}
use Rattle.frame.specs.Refusal.{number}
use Rattle.frame.specs.declared.refusal.Refusal.{Refusal}
use Rattle.gate.specs.declared.Gate.{Gate}

abbrev pub record_of : Result Bool Refusal → Gate
record_of (Ok answer) = record { refusal = 0; yes = answer }
record_of (Err refusal) = record { refusal = number refusal; yes = false }
