-- `profile::profiles::view_bins`: all rows are what the view shows.
use Rattle.std.proofs.Common.{◌≡◌, ◌^◌, replicate, refl, ◌∙◌, arith}
use Rattle.profile.specs.Runs.{Blank}
use Rattle.profile.proofs.Rows.{rows_none, rows-room, rows_more, rows_end}
use Rattle.profile.proofs.Tables.{bins-held}
use Rattle.profile.proofs.profiles.view_bins.Goals as goal

pub loop-r-init : goal.loop-r-init
loop-r-init g c =
    let p = c.args.low.now in
    let split = c.args.split in
    let B : Blank split.bits (replicate (2 ^ split.bits) 0) (replicate (2 ^ split.bits) 0) = record { counts = refl; sums = refl } in
    rw split.number (refl, rows_none split.bits p.depth p.view _ _ p.low B)

pub add_row-requires : goal.add_row-requires
add_row-requires g c =
    let p = c.args.low.now in
    let split = c.args.split in
    let B : Blank split.bits (replicate (2 ^ split.bits) 0) (replicate (2 ^ split.bits) 0) = record { counts = refl; sums = refl } in
    let H = c.loop-r in
    let l = c.loop-r-test.true in
    (bins-held split.narrow split.number, (l, rw H.invariant.0 (rows-room split.bits p.depth p.view _ _ p.low B H.r l H.invariant.1)))

pub loop-r-preserved : goal.loop-r-preserved
loop-r-preserved g c =
    let p = c.args.low.now in
    let split = c.args.split in
    let B : Blank split.bits (replicate (2 ^ split.bits) 0) (replicate (2 ^ split.bits) 0) = record { counts = refl; sums = refl } in
    let H = c.loop-r in
    (c.add_row.ensures.bits ∙ H.invariant.0, rows_more split.bits p.depth p.view _ _ p.low B H.r c.loop-r-test.true H.invariant.1 (rw H.invariant.0 at c.add_row.ensures.tables))

pub returns-clause-count : goal.returns-clause-count
returns-clause-count g c =
    let p = c.args.low.now in
    let split = c.args.split in
    let B : Blank split.bits (replicate (2 ^ split.bits) 0) (replicate (2 ^ split.bits) 0) = record { counts = refl; sums = refl } in
    let e : c.loop-r.r ≡ p.view.height = omega arith in
    (rows_end split.bits p.depth p.view _ _ B (rw e at c.loop-r.invariant.1)).0

pub returns-clause-squares : goal.returns-clause-squares
returns-clause-squares g c =
    let p = c.args.low.now in
    let split = c.args.split in
    let B : Blank split.bits (replicate (2 ^ split.bits) 0) (replicate (2 ^ split.bits) 0) = record { counts = refl; sums = refl } in
    let e : c.loop-r.r ≡ p.view.height = omega arith in
    (rows_end split.bits p.depth p.view _ _ B (rw e at c.loop-r.invariant.1)).1
