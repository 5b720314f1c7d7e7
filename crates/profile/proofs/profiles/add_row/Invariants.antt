-- `profile::profiles::add_row`: the parts passed are added.
use Rattle.std.proofs.Common.{◌≡◌, ◌≤◌}
use Rattle.profile.proofs.PartBins.{RunTables}
use Rattle.profile.proofs.profiles.add_row.Given as goal

abbrev pub invariant-loop-from : goal.invariant-loop-from
invariant-loop-from g l =
    let b = l.initial.bins in
    let p = l.low in
    (l.from ≤ l.view.width) × (l.bins.split.bits ≡ b.split.bits)
    × RunTables b.split.bits p.depth p.source.now p.denoised.now l.start l.view.stride l.from b.count b.squares l.bins.count l.bins.squares
