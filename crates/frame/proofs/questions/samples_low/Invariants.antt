-- The or so far answers for the samples passed, in each quarter and then from the front.
use Rattle.std.proofs.Common.{◌+◌, ◌*◌, ◌≤◌}
use Rattle.frame.proofs.Gathered.{Range, Quarters, Gathered}
use Rattle.frame.proofs.questions.samples_low.Given as goal

abbrev pub invariant-loop-i : goal.invariant-loop-i
invariant-loop-i l = (l.i ≤ l.quarter) × Gathered l.depth l.plane (Quarters l.depth l.plane l.quarter l.i) l.bits

abbrev pub invariant-loop-sample : goal.invariant-loop-sample
invariant-loop-sample l = Gathered l.depth l.plane (Range l.depth l.plane 0 (4 * l.quarter + l.sample-index)) l.bits
