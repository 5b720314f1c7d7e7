-- `noise::blocks::dot`: a turn adds a block, and what is left is less than one.
use Rattle.std.proofs.Common.{◌≡◌, ◌+◌, ◌-◌, ◌*◌, ◌/◌, length, refl, sym, ap, ◌∙◌, arith}
use native.Mathlib.Nat.{zero-mul}
use Rattle.laws.specs.Sums.{total, sum_to}
use Rattle.laws.proofs.Is.{fits, again}
use Rattle.noise.specs.Lines.{product}
use Rattle.noise.proofs.BlockSums.{part-lines, part-more, block_in, next_at}
use Rattle.noise.proofs.blocks.dot.Goals as goal

pub loop-k-init : goal.loop-k-init
unfolding total
loop-k-init g c = ap (sum_to (product c.args.p.now c.args.q.now)) (sym (zero-mul g.row.SIZE))

pub block-requires : goal.block-requires
block-requires g c =
    let k = c.loop-k.k * g.row.SIZE in
    let l = block_in c.loop-k.k g.row.SIZE (length c.args.p.now) c.requires.some c.loop-k-test.true in
    part-lines c.requires.lines k _ _ (omega (arith, l)) refl (omega arith)

pub overflow_add-sum : goal.overflow_add-sum
overflow_add-sum g c =
    let k = c.loop-k.k * g.row.SIZE in
    let l = block_in c.loop-k.k g.row.SIZE (length c.args.p.now) c.requires.some c.loop-k-test.true in
    fits (part-more c.requires.lines k _ _ (omega (arith, l)) refl c.requires.some c.loop-k.invariant (record { sfits = c.block.type_inv }) c.from-sum.ensures c.block.ensures)

pub loop-k-preserved : goal.loop-k-preserved
loop-k-preserved g c =
    let k = c.loop-k.k * g.row.SIZE in
    let l = block_in c.loop-k.k g.row.SIZE (length c.args.p.now) c.requires.some c.loop-k-test.true in
    let e : k + (k + g.row.SIZE - k) ≡ (c.loop-k.k + 1) * g.row.SIZE = omega (arith, next_at c.loop-k.k g.row.SIZE) in
    (again (part-more c.requires.lines k _ _ (omega (arith, l)) refl c.requires.some c.loop-k.invariant (record { sfits = c.block.type_inv }) c.from-sum.ensures c.block.ensures)).eq ∙ ap (sum_to (product c.args.p.now c.args.q.now)) e

pub block-requires-2 : goal.block-requires-2
block-requires-2 g c =
    let k = length c.args.p.now / g.row.SIZE * g.row.SIZE in
    part-lines c.requires.lines k _ _ (omega arith) refl (omega arith)

pub overflow_add-result : goal.overflow_add-result
overflow_add-result g c =
    let k = length c.args.p.now / g.row.SIZE * g.row.SIZE in
    let e : c.loop-k.k ≡ length c.args.p.now / g.row.SIZE = omega arith in
    fits (part-more c.requires.lines k _ _ (omega arith) refl c.requires.some (rw e at c.loop-k.invariant) (record { sfits = c.block-2.type_inv }) c.from.ensures c.block-2.ensures)

pub returns : goal.returns
returns g c =
    let k = length c.args.p.now / g.row.SIZE * g.row.SIZE in
    let e : c.loop-k.k ≡ length c.args.p.now / g.row.SIZE = omega arith in
    let n : k + (length c.args.p.now - k) ≡ length c.args.p.now = omega arith in
    (again (part-more c.requires.lines k _ _ (omega arith) refl c.requires.some (rw e at c.loop-k.invariant) (record { sfits = c.block-2.type_inv }) c.from.ensures c.block-2.ensures)).eq ∙ ap (sum_to (product c.args.p.now c.args.q.now)) n
