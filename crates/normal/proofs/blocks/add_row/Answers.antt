-- `normal::blocks::add_row`: a block more; and after the last all have their tables.
use Rattle.std.proofs.Common.{◌*◌}
use native.Mathlib.Nat.{mul-le-mul_right, add_assoc}
use Rattle.normal.proofs.Passing.{passing-ends, block-same, block-addable, block-turn}
use Rattle.normal.proofs.blocks.add_row.Goals as goal

pub add_passed-requires : goal.add_passed-requires
add_passed-requires c =
    let A = c.loop-above.invariant in
    (block-same c.requires c.loop-apart-test.true c.loop-above-test.true c.args.rows A, block-addable c.requires c.loop-apart-test.true c.loop-above-test.true c.args.rows A)

pub loop-above-preserved : goal.loop-above-preserved
loop-above-preserved c =
    rw (← add_assoc (c.loop-apart.apart * c.args.starts) c.loop-above.above 1)
    (block-turn c.requires c.loop-apart-test.true c.loop-above-test.true c.args.rows c.loop-above.invariant c.add_passed.ensures)

pub returns : goal.returns
returns c =
    passing-ends c.args.tables.now _ _ _ _ _ c.requires (c.loop-apart.apart * c.args.starts) c.loop-apart.invariant (mul-le-mul_right c.args.starts c.loop-apart-test.false)
