-- `chroma_fit`: the sums with the luma tap, then each plane.
use Rattle.std.proofs.Common.{◌∙◌, sym}
use Rattle.laws.proofs.Constants.{sixteen-bits}
use Rattle.noise.specs.PlanePair.{shown}
use Rattle.normal.proofs.SumsOf.{cr-over, cr-squares}
use Rattle.fit.proofs.ChromaSteps.{small, large, component-fit}
use Rattle.fit.proofs.planes.chroma_fit.Goals as goal

pub returns-then-too_small-clause-cb : goal.returns-then-too_small-clause-cb
returns-then-too_small-clause-cb c = small _ _ _ _ (sym c.too_small.ensures ∙ c.if-too_small.true)

pub returns-then-too_small-clause-cr : goal.returns-then-too_small-clause-cr
returns-then-too_small-clause-cr c = small _ _ _ _ (rw c.args.frame.now.alike (sym c.too_small.ensures ∙ c.if-too_small.true))

pub returns-clause-cb : goal.returns-clause-cb
returns-clause-cb c =
    let F = c.args.frame.now in
    let T = c.tap_sums-sixteenths.ensures in
    let k = large (shown F.cb) c.args.lag.reach (sym c.too_small.ensures ∙ c.if-too_small.false) in
    component-fit F.over F.luma.seen F.cb.seen c.args.lag.few k.0 k.1 _ _ T.squares-are _ c.nearest_i64_to_f64-squares.ensures _ T.cb-are _ (rw (← sixteen-bits) (rw (c.cb.ensures.0, c.cb.ensures.1) at c.component-cb.ensures))

pub returns-clause-cr : goal.returns-clause-cr
returns-clause-cr c =
    let F = c.args.frame.now in
    let T = c.tap_sums-sixteenths.ensures in
    let k = large (shown F.cb) c.args.lag.reach (sym c.too_small.ensures ∙ c.if-too_small.false) in
    component-fit (cr-over F) F.luma.seen F.cr.seen c.args.lag.few (rw F.alike k.0) (rw F.alike k.1) _ _ (cr-squares F T) _ c.nearest_i64_to_f64-squares.ensures _ T.cr-are _ (rw (← sixteen-bits) (rw (c.cr.ensures.0, c.cr.ensures.1) at c.component-cr.ensures))
