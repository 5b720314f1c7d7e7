-- A turn is a store of one entry.
use Rattle.std.proofs.Common.{◌≡◌, ◌+◌, ◌-◌, ◌<◌, length, ◌∙◌, arith}
use borrow.Rule.Slice.PartMut.{put_same, mid_len}
use Rattle.laws.proofs.Turns.{turned-starts, turned_more, turned-ends}
use Rattle.solve.specs.Rows.{less_row}
use Rattle.solve.proofs.Known.{part_at}
use Rattle.solve.proofs.Rows.{part-less}
use Rattle.solve.proofs.equations.less_row.Goals as goal

pub loop-c-init : goal.loop-c-init
loop-c-init c =
    let e : c.args.from + 0 ≡ c.args.from = omega arith in
    rw (e, put_same c.args.from (c.args.to - c.args.from) c.args.row.now) (turned-starts _ _ _ _ c.requires.0)

pub loop-c-preserved : goal.loop-c-preserved
loop-c-preserved c =
    let a = c.args in
    let m = a.to - a.from in
    let l = c.loop-c in
    let long : length l.part ≡ m = l.auto.part ∙ mid_len a.from a.to a.row.now (omega (arith, c.told-row)) in
    let e : a.from + (l.c + 1) ≡ a.from + l.c + 1 = omega arith in
    let inside : l.c < m = omega (arith, long) in
    rw (e, part_at a.pivot.now a.from m l.c inside)
    (turned_more _ _ _ _ _ l.invariant (omega arith) (part-less a.row.now l.part a.from m l.c a.f _ (omega (arith, c.told-row)) (omega (arith, long))))

pub returns : goal.returns
unfolding less_row
returns c = turned-ends _ _ _ _ c.loop-c.invariant (omega (arith, mid_len c.args.from c.args.to c.args.row.now (omega (arith, c.told-row)), c.loop-c-test.false))
