-- `profile::planes::plane_squares`: a turn asks about a part and adds its squares; a part that is not low ends it.
use Rattle.std.proofs.Common.{◌≡◌, Some, length, refl, sym, ap, ◌∙◌, inl, inr, arith, rules}
use Rattle.laws.specs.Sums.{total}
use Rattle.profile.proofs.LowParts.{low-some, low-nothing, low-none, passed-fits, passed-all, next-copied, next-not-low, next-passed, left-alike}
use Rattle.profile.proofs.StepSums.{plane-sum}
use Rattle.profile.proofs.planes.plane_squares.Goals as goal

pub loop-source-init : goal.loop-source-init
unfolding total
loop-source-init c =
    (search rules, search rules, record { count = 0; inside = omega arith; source-left = search rules; denoised-left = search rules; source-low = low-none _ _ _; sum-is = refl })

pub part_squares-requires : goal.part_squares-requires
part_squares-requires c =
    let P = c.requires in
    let H = c.loop-source.invariant in
    let next = c.in-Some.ensures.steps in
    let ls = rw H.0 at next.0.1.1 in
    let ld = rw H.1 at next.1.1.1 in
    next-copied P H.2 _ _ _ _ next.0.1.0 next.1.1.0 ls ld

pub returns-in_err-sum : goal.returns-in_err-sum
returns-in_err-sum c =
    let P = c.requires in
    let H = c.loop-source.invariant in
    let next = c.in-Some.ensures.steps in
    let ls = rw H.0 at next.0.1.1 in
    let ld = rw H.1 at next.1.1.1 in
    let e = next-not-low P H.2 _ _ _ _ next.0.1.0 next.1.1.0 ls ld (low-nothing _ _ c.in_err-sum.ensures) in
    rw e c.from_residual.ensures

pub overflow_add-sum : goal.overflow_add-sum
overflow_add-sum c =
    let P = c.requires in
    let H = c.loop-source.invariant in
    let next = c.in-Some.ensures.steps in
    let ls = rw H.0 at next.0.1.1 in
    let ld = rw H.1 at next.1.1.1 in
    let part = low-some _ c.in_ok-sum.ensures in
    record { fits = passed-fits P (next-passed P H.2 _ _ _ _ next.0.1.0 next.1.1.0 ls ld part.0 part.1) }

pub loop-source-preserved : goal.loop-source-preserved
loop-source-preserved c =
    let P = c.requires in
    let H = c.loop-source.invariant in
    let next = c.in-Some.ensures.steps in
    let ls = rw H.0 at next.0.1.1 in
    let ld = rw H.1 at next.1.1.1 in
    let part = low-some _ c.in_ok-sum.ensures in
    (next.0.0 ∙ H.0, next.1.0 ∙ H.1, next-passed P H.2 _ _ _ _ next.0.1.0 next.1.1.0 ls ld part.0 part.1)

pub returns : goal.returns
returns c =
    let P = c.requires in
    let H = c.loop-source.invariant in
    let none : length c.loop-source.source-iterator.a.rest.now ≡ 0 = elim c.in-None.ensures.steps [
      | inl h ↦ h.1.1.0
      | inr h ↦ sym (left-alike P H.2) ∙ h.1.1.0
    ] in
    let all = passed-all P H.2 none in
    rw all.0 (ap Some (all.1 ∙ sym (plane-sum _ _ _)))
