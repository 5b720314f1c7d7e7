-- `noise::rows::row_pair`: both lines hold the noise, and `dot` sums their products.
use Rattle.std.proofs.Common.{w64, refl, sym, ◌∙◌, rules}
use lib.Seq.{length-take-le}
use Rattle.laws.proofs.Is.{again, self}
use Rattle.noise.proofs.NoiseSums.{noise-sum}
use Rattle.noise.proofs.NoiseLines.{lines, is-noise}
use Rattle.noise.proofs.SameSize.{same-rows}
use Rattle.noise.proofs.rows.row_pair.Goals as goal

pub dot-second-requires-clause-lines : goal.dot-second-requires-clause-lines
dot-second-requires-clause-lines c =
    let F = c.args.frames.now in
    let Q = same-rows F.second.seen F.alike _ c.requires in
    let q = length-take-le F.first.view.width c.args.q.now (search rules) in
    let L = is-noise Q (rw q at c.noise_row-2.ensures) F.first.seen.narrow in
    lines L L refl

pub dot-cross-requires-clause-lines : goal.dot-cross-requires-clause-lines
dot-cross-requires-clause-lines c =
    let F = c.args.frames.now in
    let S = F.first.seen in
    let Q = same-rows F.second.seen F.alike _ c.requires in
    let p = length-take-le F.first.view.width c.args.p.now (search rules) in
    let q = length-take-le F.first.view.width c.args.q.now (search rules) in
    let e = rw p at c.noise_row.ensures in
    let d = rw q at c.noise_row-2.ensures in
    lines (is-noise (S.rows _ c.requires) e S.narrow) (is-noise Q d S.narrow) (c.noise_row.auto.line ∙ p ∙ sym (c.noise_row-2.auto.line ∙ q))

pub returns : goal.returns
returns c =
    let F = c.args.frames.now in
    let P = F.first.seen.rows _ c.requires in
    let Q = same-rows F.second.seen F.alike _ c.requires in
    let p = length-take-le F.first.view.width c.args.p.now (search rules) in
    let q = length-take-le F.first.view.width c.args.q.now (search rules) in
    let e = rw p at c.noise_row.ensures in
    let d = rw q at c.noise_row-2.ensures in
    let s = c.dot-second in
    let x = c.dot-cross in
    record {
      second = (again {w = w64} (self (record { sfits = s.type_inv }))).eq ∙ s.ensures ∙ noise-sum Q Q d d;
      cross = (again {w = w64} (self (record { sfits = x.type_inv }))).eq ∙ x.ensures ∙ noise-sum P Q e d;
    }
