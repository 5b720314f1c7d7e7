-- `gate::sums::of_plane`: the exact sums, each as an f64 but the squares.
use Rattle.std.proofs.Common.{nat_abs, ap, ◌∙◌, w64, rules}
use Rattle.laws.proofs.Is.{again, self}
use Rattle.profile.proofs.ViewSquares.{squares-are, held_fits}
use Rattle.gate.proofs.PlaneSums.{dot-is, lagged-is}
use Rattle.gate.proofs.sums.of_plane.Goals as goal

pub overflow_cast-result : goal.overflow_cast-result
overflow_cast-result c =
    let p = c.args.pair.now in
    let squares = squares-are p.view p.source.now p.denoised.now c.args.shift.bits c.plane_sums-sums.ensures.squares in
    rw ((again {w = w64} (self (record { sfits = search rules }))).eq ∙ squares) (tt, held_fits (search rules) squares)

pub returns : goal.returns
returns c =
    let p = c.args.pair.now in
    let r = c.plane_sums-sums.ensures in
    record {
      squares = ap nat_abs ((again {w = w64} (self (record { sfits = search rules }))).eq ∙ squares-are p.view p.source.now p.denoised.now c.args.shift.bits r.squares);
      energy = c.nearest_i64_to_f64.ensures ∙ dot-is p.seen p.seen (search rules) ((again {w = w64} (self (record { sfits = search rules }))).eq ∙ r.energy);
      lagged = c.nearest_i64_to_f64-2.ensures ∙ lagged-is p.seen c.args.lag ((again {w = w64} (self (record { sfits = search rules }))).eq ∙ r.lagged);
    }
