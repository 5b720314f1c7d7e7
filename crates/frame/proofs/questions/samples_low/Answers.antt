use Rattle.std.proofs.Common.{rules, ◌≡◌, ◌+◌, ◌*◌, ◌/◌, ◌∙◌, length, length-drop, arith}
use borrow.Author.Tests.{le-leb}
use Rattle.std.proofs.lemmas.List.{get_or-drop, take_rest}
use Rattle.frame.proofs.Gathered.{Quarters, range-more, quarters-none, quarters-all, gathered_none, gathered-more, gathered-quarters, gathered-as, gathered-any, gathered-shifted}
use Rattle.frame.proofs.questions.samples_low.Goals as goal

pub loop-i-init : goal.loop-i-init
loop-i-init c = (omega arith, gathered_none c.args.depth c.args.plane.now (quarters-none c.args.depth c.args.plane.now _))

pub loop-i-preserved : goal.loop-i-preserved
loop-i-preserved c =
    let H = c.loop-i in
    let a = c.args in
    (search rules, gathered-quarters a.depth a.plane.now _ H.i (λ k. (c.type_inv.plane k).fits) H.invariant.1)

pub loop-sample-init : goal.loop-sample-init
loop-sample-init c =
    let a = c.args in
    let H = c.loop-i in
    let q = length a.plane.now / 4 in
    gathered-as a.depth a.plane.now (λ (h : Quarters a.depth a.plane.now q H.i) k g l. quarters-all a.depth a.plane.now q H.i (omega arith) h k g (omega arith)) H.invariant.1

pub loop-sample-preserved : goal.loop-sample-preserved
loop-sample-preserved c =
    let a = c.args in
    let H = c.loop-sample in
    let from = 4 * (length a.plane.now / 4) in
    let here = from + H.sample-index in
    rw (take_rest a.plane.now from, get_or-drop from a.plane.now H.sample-index 0)
    (gathered-more a.depth a.plane.now here (c.type_inv.plane here).fits H.invariant (range-more a.depth a.plane.now 0 here (from + (H.sample-index + 1)) (omega arith)))

pub returns-then-depth-ge16 : goal.returns-then-depth-ge16
returns-then-depth-ge16 c =
    let a = c.args in
    let H = c.loop-sample in
    let most = simp (take_rest, length-drop) at H.auto.sample-index-end in
    let least = simp (take_rest, length-drop) at c.loop-sample-test.false in
    let e : 4 * (length a.plane.now / 4) + H.sample-index ≡ length a.plane.now = omega (arith, most, least) in
    le-leb 16 a.depth c.if-depth-ge16.true ∙ gathered-any a.depth a.plane.now (rw e at H.invariant) c.if-depth-ge16.true

pub returns-else-depth-ge16 : goal.returns-else-depth-ge16
returns-else-depth-ge16 c =
    let a = c.args in
    let H = c.loop-sample in
    let most = simp (take_rest, length-drop) at H.auto.sample-index-end in
    let least = simp (take_rest, length-drop) at c.loop-sample-test.false in
    let e : 4 * (length a.plane.now / 4) + H.sample-index ≡ length a.plane.now = omega (arith, most, least) in
    gathered-shifted a.depth a.plane.now H.bits (rw e at H.invariant)
