-- `normal::blocks::add_to`: an i64 holds each sum.
use Rattle.std.proofs.Common.{◌≡◌, w64, to_z, of_z, rules}
use Rattle.laws.proofs.Is.{again}
use Rattle.noise.specs.Lines.{at}
use Rattle.normal.proofs.Reached.{reached-turn, reached-ends, added_is}
use Rattle.normal.proofs.blocks.add_to.Goals as goal

pub loop-i-preserved : goal.loop-i-preserved
loop-i-preserved c =
    let A = c.args in
    let i = c.loop-i.i in
    let x : to_z w64 (of_z w64 (at c.loop-i.sums i)) ≡ at c.loop-i.sums i = search rules in
    let y : to_z w64 (of_z w64 (at A.more.now i)) ≡ at A.more.now i = search rules in
    reached-turn _ _ i c.loop-i.invariant _ (search rules) (again (added_is A.sums.now (at A.more.now) i c.loop-i.invariant x y (c.requires.small i (search rules)))).eq

pub returns : goal.returns
returns c = reached-ends _ _ c.loop-i.i c.loop-i.invariant (search rules)
