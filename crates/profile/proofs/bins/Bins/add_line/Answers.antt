-- `profile::bins::Bins::add_line`: a turn increases the entries of one bin.
use Rattle.std.proofs.Common.{refl, ◌^◌, ◌<◌, ◌∙◌, arith, rules}
use Rattle.profile.proofs.Tables.{increase-starts, increase-entry, increase-turn, increase-ends}
use Rattle.profile.proofs.Kept.{line-count-le, line-squares-le}
use Rattle.profile.proofs.bins.Bins.add_line.Goals as goal

pub loop-j-init : goal.loop-j-init
loop-j-init g c = (refl, refl, increase-starts _ _ _ (search rules), increase-starts _ _ _ (search rules))

pub overflow_add-self : goal.overflow_add-self
overflow_add-self g c =
    let H = c.loop-j in
    let l : H.j < 2 ^ c.args.self.now.split.bits = search rules in
    rw (increase-entry _ _ _ H.invariant.2 l, c.bin_of-bin.ensures.count)
    (record { fits = omega (arith, c.requires.room.count_room H.j l, line-count-le c.args.bins.now H.j) })

pub overflow_add-self-in-loop-j : goal.overflow_add-self-in-loop-j
overflow_add-self-in-loop-j g c =
    let H = c.loop-j in
    let l : H.j < 2 ^ c.args.self.now.split.bits = search rules in
    rw (increase-entry _ _ _ H.invariant.3 l, c.bin_of-bin.ensures.squares)
    (record { fits = omega (arith, c.requires.room.squares-room H.j l, line-squares-le H.j c.requires.binned) })

pub loop-j-preserved : goal.loop-j-preserved
loop-j-preserved g c =
    let H = c.loop-j in
    let B = c.bin_of-bin in
    let l : H.j < 2 ^ c.args.self.now.split.bits = search rules in
    (B.auto.own ∙ H.invariant.0, H.invariant.1, increase-turn _ _ _ H.invariant.2 _ l B.ensures.count, increase-turn _ _ _ H.invariant.3 _ l B.ensures.squares)

pub returns : goal.returns
returns g c =
    let H = c.loop-j in
    record { bits = H.invariant.1; tables = record { counts = increase-ends _ _ _ H.invariant.2 (search rules); sums = increase-ends _ _ _ H.invariant.3 (search rules) } }
