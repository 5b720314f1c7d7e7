-- `gate::sums::of_pair`: the exact sums, each as an f64.
use Rattle.std.proofs.Common.{sym, ◌*ℤ◌, ◌∙◌, w64, rules}
use Rattle.laws.proofs.Is.{again, self}
use Rattle.noise.specs.Noise.{noise_of}
use Rattle.noise.specs.PlanePair.{shown}
use Rattle.noise.specs.Seen.{sum_over}
use Rattle.gate.proofs.PlaneSums.{dot-is}
use Rattle.gate.proofs.sums.of_pair.Goals as goal

pub returns : goal.returns
returns c =
    let p = c.args.frames.now.first in
    let q = c.args.frames.now.second in
    let r = c.pair_sums-sums.ensures in
    let size = c.args.frames.now.alike in
    let second = r.second ∙ (λ i. sum_over (sym size.height i) (sym size.width i) (λ r c. noise_of (shown q) r c *ℤ noise_of (shown q) r c)) in
    record {
      second = c.nearest_i64_to_f64.ensures ∙ dot-is q.seen q.seen (search rules) ((again {w = w64} (self (record { sfits = search rules }))).eq ∙ second);
      cross = c.nearest_i64_to_f64-2.ensures ∙ dot-is p.seen q.seen size ((again {w = w64} (self (record { sfits = search rules }))).eq ∙ r.cross);
    }
