-- `profile::bins::keep_bin`: the places passed are filled with the numbers of bin j, and counted.
use Rattle.std.proofs.Common.{◌≡◌, cond, eqb, pos, get_or}
use Rattle.laws.specs.Sums.{sum_n}
use Rattle.laws.proofs.Fill.{Filled}
use Rattle.noise.specs.Lines.{at}
use Rattle.profile.specs.Bins.{in_bin}
use Rattle.profile.proofs.bins.keep_bin.Given as goal

abbrev pub invariant-loop-i : goal.invariant-loop-i
invariant-loop-i l =
    Filled (λ k. cond (eqb (get_or l.bins k 0) l.j) (at l.line k) (pos 0)) l.initial.own l.own l.i
    × (l.count ≡ sum_n (in_bin (λ k. get_or l.bins k 0) l.j (λ k. 1)) l.i)
