-- Each array has one number of each place.
use Rattle.std.proofs.Common.{pos, get_or, ◌∙◌, arith, rules}
use Rattle.laws.proofs.Made.{made, table-map}
use Rattle.positions.specs.declared.Offset.{Offset}
use Rattle.positions.proofs.PositionsFromResultNeighbourhoodRefusal.from.Goals as goal

pub returns-in-Ok : goal.returns-in-Ok
returns-in-Ok c =
    let places = c.in-Ok.around.places in
    let zero : Offset = record { row = pos 0; column = pos 0 } in
    let rows = made _ _ 24 (λ i. (get_or places i zero).row) (λ i y q l k. search rules) c.from_fn.ensures.items ∙ table-map (λ p. p.row) zero places 24 (omega arith) in
    let columns = made _ _ 24 (λ i. (get_or places i zero).column) (λ i y q l k. search rules) c.from_fn-in-Ok.ensures.items ∙ table-map (λ p. p.column) zero places 24 (omega arith) in
    rw (c.in-Ok.is, rows, columns)
