-- The answer as C has it.
use Rattle.std.specs.Prelude.{Result, Ok, Err, map}
use Rattle.frame.specs.Refusal.{number}
use Rattle.frame.specs.declared.refusal.Refusal.{Refusal}
use Rattle.positions.specs.Positions.{refused}
use Rattle.positions.specs.declared.Neighbourhood.{Neighbourhood}
use Rattle.positions.specs.declared.Positions.{Positions}

abbrev pub record_of : Result Neighbourhood Refusal → Positions
record_of (Ok n) =
    record { refusal = 0; count = n.count; rows = map (λ p. p.row) n.places; columns = map (λ p. p.column) n.places }
record_of (Err refusal) = refused (number refusal)
