-- `profile::bins::Bins::add_line`: the entries of the bins passed are increased.
use Rattle.std.proofs.Common.{◌≡◌, ◌^◌, length}
use Rattle.profile.specs.Parts.{line_count, line_squares}
use Rattle.profile.proofs.Tables.{Increasing}
use Rattle.profile.proofs.bins.Bins.add_line.Given as goal

abbrev pub invariant-loop-j : goal.invariant-loop-j
invariant-loop-j g l =
    let b = l.initial.self in
    (length l.own ≡ length l.initial.own) × (l.self.split.bits ≡ b.split.bits)
    × Increasing (line_count l.bins) b.count l.self.count (2 ^ b.split.bits) l.j × Increasing (line_squares l.line l.bins) b.squares l.self.squares (2 ^ b.split.bits) l.j
