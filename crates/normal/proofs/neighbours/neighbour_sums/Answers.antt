-- `normal::neighbours::neighbour_sums`: the sums have room for a row more, and hold it then; those of pairs of rows are those of neighbours.
use Rattle.std.proofs.Common.{◌+◌, ◌*◌, ◌≤◌, ◌∙◌, le_trans, arith, length-take-le, rules}
use native.Mathlib.Nat.{mul-le-mul}
use Rattle.positions.specs.Counts.{side}
use Rattle.normal.proofs.Entries.{sums-seen, window-plot}
use Rattle.normal.proofs.Held.{held-starts, held-turn, held-room, held-ends}
use Rattle.normal.proofs.Sizes.{sides-few, Zeros}
use Rattle.normal.proofs.neighbours.neighbour_sums.Goals as goal

pub loop-r-init : goal.loop-r-init
loop-r-init c =
    let lag = c.args.plane.now.lag.reach in
    let nothing : Zeros ((lag + 1) * (lag + 1) * (side lag * side lag)) c.fill.new.self = search rules in
    let few : (lag + 1) * (side lag * side lag) ≤ 4 * 49 = mul-le-mul {n₂ = 4} (omega arith) (sides-few c.args.plane.now.lag.few) in
    (rw c.side-side.ensures (length-take-le _ _ (le_trans few (search rules))), held-starts _ _ _ _ _ nothing)

pub add_row-requires : goal.add_row-requires
add_row-requires c =
    let P = c.args.plane.now in
    rw c.side-side.ensures (held-room (window-plot _ _ _ P.window P.pair.seen) _ _ _ c.loop-r-test.true c.loop-r.invariant.1 c.row_tables.ensures)

pub loop-r-preserved : goal.loop-r-preserved
loop-r-preserved c =
    let H = c.loop-r.invariant in
    let R = c.row_tables in
    (R.auto.tables ∙ H.0, held-turn _ _ _ _ _ c.loop-r.r H.1 R.ensures (rw (c.rows.ensures, c.side-side.ensures) at c.add_row.ensures))

pub returns : goal.returns
returns c =
    let P = c.args.plane.now in
    sums-seen _ _ _ P.window (held-ends _ _ _ _ _ c.loop-r.r c.loop-r.invariant.1 (omega (arith, P.window.rows)))
