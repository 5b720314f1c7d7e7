-- `noise::sums::plane_sums`: a row more; the sums are i64s; and the noise at the places of a view is that of what it shows.
use Rattle.std.proofs.Common.{◌≡◌, pos, arith, rules}
use Rattle.noise.proofs.RowSums.{sums_none, sums-more, sums-held}
use Rattle.noise.proofs.Seen.{noise-seen, sums_same}
use Rattle.noise.proofs.sums.plane_sums.Goals as goal

pub loop-r-init : goal.loop-r-init
loop-r-init c =
    let e : c.default-total.result ≡ record { squares = pos 0; energy = pos 0; lagged = pos 0 } = search rules in
    rw e sums_none

pub plane_plus-total-requires : goal.plane_plus-total-requires
plane_plus-total-requires c = sums-held c.args.pair.now.seen (omega arith) (sums-more c.loop-r.invariant c.row_sums.ensures)

pub loop-r-preserved : goal.loop-r-preserved
loop-r-preserved c = rw c.plane_plus-total.ensures (sums-more c.loop-r.invariant c.row_sums.ensures)

pub returns : goal.returns
returns c =
    let e : c.loop-r.r ≡ c.args.pair.now.view.height = omega arith in
    sums_same (noise-seen _ _ _) (rw e at c.loop-r.invariant)
