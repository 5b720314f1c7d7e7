-- `profile::profiles::add_row`: a turn adds a part.
use Rattle.std.proofs.Common.{◌≡◌, ◌+◌, ◌≤◌, refl, ◌∙◌, arith, rules}
use lib.Seq.{length-take-le}
use Rattle.profile.proofs.Rows.{row-run, part-run, part_none, part_room, part-more}
use Rattle.profile.proofs.Tables.{bins-held}
use Rattle.profile.proofs.profiles.add_row.Goals as goal

pub loop-from-init : goal.loop-from-init
loop-from-init g c =
    let p = c.args.low.now in
    let T = c.requires.room in
    let split = c.args.bins.now.split in
    let R = row-run split.bits p.depth p.view _ _ p.low c.args.r c.requires.shown in
    (omega arith, refl, part_none R _ T (search rules) (search rules))

pub add_part-requires : goal.add_part-requires
add_part-requires g c =
    let p = c.args.low.now in
    let T = c.requires.room in
    let split = c.args.bins.now.split in
    let R = row-run split.bits p.depth p.view _ _ p.low c.args.r c.requires.shown in
    let H = c.loop-from in
    let n = c.min-n.result in
    let l : H.from + n ≤ p.view.width = omega arith in
    rw (length-take-le n H.line (search rules))
    (bins-held split.narrow split.number, (part-run R H.from n c.loop-from-test.true l, rw H.invariant.1 (part_room R _ T H.from H.invariant.2 n l)))

pub loop-from-preserved : goal.loop-from-preserved
loop-from-preserved g c =
    let p = c.args.low.now in
    let T = c.requires.room in
    let split = c.args.bins.now.split in
    let R = row-run split.bits p.depth p.view _ _ p.low c.args.r c.requires.shown in
    let H = c.loop-from in
    let n = c.min-n.result in
    let e : n ≡ 256 = omega arith in
    let added = part-more R _ T H.from H.invariant.2 n (rw (H.invariant.1, length-take-le n H.line (search rules)) at c.add_part.ensures.tables) in
    (omega arith, c.add_part.ensures.bits ∙ H.invariant.1, rw e at added)

pub returns : goal.returns
returns g c =
    let H = c.loop-from in
    let e : H.from ≡ c.args.low.now.view.width = omega arith in
    record { bits = H.invariant.1; tables = rw e at H.invariant.2 }

pub returns-2 : goal.returns-2
returns-2 g c =
    let p = c.args.low.now in
    let T = c.requires.room in
    let split = c.args.bins.now.split in
    let R = row-run split.bits p.depth p.view _ _ p.low c.args.r c.requires.shown in
    let H = c.loop-from in
    let n = c.min-n.result in
    let e : H.from + n ≡ p.view.width = omega arith in
    let added = part-more R _ T H.from H.invariant.2 n (rw (H.invariant.1, length-take-le n H.line (search rules)) at c.add_part.ensures.tables) in
    record { bits = c.add_part.ensures.bits ∙ H.invariant.1; tables = rw e at added }
