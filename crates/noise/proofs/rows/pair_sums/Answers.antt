-- `noise::rows::pair_sums`: a row more; the sums are i64s; and the noise at the places of a view is that of what it shows.
use Rattle.std.proofs.Common.{◌≡◌, pos, arith, rules}
use Rattle.noise.proofs.RowSums.{cross-none, cross-more, cross-held}
use Rattle.noise.proofs.Seen.{noise-seen, cross-same}
use Rattle.noise.proofs.rows.pair_sums.Goals as goal

pub loop-r-init : goal.loop-r-init
loop-r-init c =
    let e : c.default-total.result ≡ record { second = pos 0; cross = pos 0 } = search rules in
    rw e cross-none

pub pair_plus-total-requires : goal.pair_plus-total-requires
pair_plus-total-requires c =
    let f = c.args.frames.now in
    cross-held f.first.seen f.second.seen f.alike (omega arith) (cross-more c.loop-r.invariant c.row_pair.ensures)

pub loop-r-preserved : goal.loop-r-preserved
loop-r-preserved c = rw c.pair_plus-total.ensures (cross-more c.loop-r.invariant c.row_pair.ensures)

pub returns : goal.returns
returns c =
    let f = c.args.frames.now in
    let e : c.loop-r.r ≡ f.first.view.height = omega arith in
    cross-same (noise-seen _ _ _) (λ r x l m. noise-seen _ _ _ r x (rw f.alike.height l) (rw f.alike.width m)) (rw e at c.loop-r.invariant)
