-- `noise::blocks::block`: a turn adds the product at its place.
use Rattle.std.proofs.Common.{◌≤◌, length, refl, sym, ap, ◌∙◌, arith, rules}
use Rattle.std.proofs.lemmas.List.{length_push}
use Rattle.std.proofs.lemmas.Slice.Zip.{zip_turn}
use Rattle.laws.specs.Sums.{total, sum_to}
use Rattle.laws.proofs.Is.{fits, again}
use Rattle.noise.specs.Lines.{product}
use Rattle.noise.proofs.BlockSums.{block-turn}
use Rattle.noise.proofs.blocks.block.Goals as goal

pub loop-x-init : goal.loop-x-init
unfolding total
loop-x-init c = refl

pub overflow_add-sum : goal.overflow_add-sum
overflow_add-sum c =
    let t = zip_turn c.args.p.now c.args.q.now c.loop-x.yielded c.into_iter-x-iterator.result c.loop-x.x-iterator c.next.new.self _ (search rules) (search rules) c.loop-x.yielded_by (c.in-Some.x, c.in-Some.y) c.in-Some.is c.next.ensures.steps in
    let one : 1 ≤ length c.args.p.now = omega arith in
    fits (block-turn c.requires one _ t.0 t.0 c.loop-x.invariant (search rules) c.from.ensures (t.2 _) (search rules) c.from-in-loop-x.ensures (t.3 _))

pub loop-x-preserved : goal.loop-x-preserved
loop-x-preserved c =
    let t = zip_turn c.args.p.now c.args.q.now c.loop-x.yielded c.into_iter-x-iterator.result c.loop-x.x-iterator c.next.new.self _ (search rules) (search rules) c.loop-x.yielded_by (c.in-Some.x, c.in-Some.y) c.in-Some.is c.next.ensures.steps in
    let one : 1 ≤ length c.args.p.now = omega arith in
    (again (block-turn c.requires one _ t.0 t.0 c.loop-x.invariant (search rules) c.from.ensures (t.2 _) (search rules) c.from-in-loop-x.ensures (t.3 _))).eq ∙ ap (sum_to (product c.args.p.now c.args.q.now)) (sym (length_push c.loop-x.yielded (c.in-Some.x, c.in-Some.y)))
