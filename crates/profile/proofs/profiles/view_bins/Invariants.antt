-- `profile::profiles::view_bins`: the rows passed are added.
use Rattle.std.proofs.Common.{◌≡◌, ◌^◌, replicate}
use Rattle.profile.proofs.Rows.{RowsAdded}
use Rattle.profile.proofs.profiles.view_bins.Given as goal

abbrev pub invariant-loop-r : goal.invariant-loop-r
invariant-loop-r g l =
    let p = l.low in
    let bits = l.initial.bins.split.bits in
    (l.bins.split.bits ≡ bits) × RowsAdded bits p.depth p.view p.source.now p.denoised.now l.r (replicate (2 ^ bits) 0) (replicate (2 ^ bits) 0) l.bins.count l.bins.squares
