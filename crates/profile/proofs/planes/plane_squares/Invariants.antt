-- `profile::planes::plane_squares`: the parts passed are low, and the sum is that of their squares.
use Rattle.std.proofs.Common.{◌≡◌}
use Rattle.profile.proofs.LowParts.{Passed}
use Rattle.profile.proofs.planes.plane_squares.Given as goal

abbrev pub invariant-loop-source : goal.invariant-loop-source
invariant-loop-source l =
    let a = l.source-iterator.a in
    let b = l.source-iterator.b in
    (a.size ≡ 256) × (b.size ≡ 256) × Passed l.depth l.plane.source.now l.plane.denoised.now a.rest.now b.rest.now l.sum
