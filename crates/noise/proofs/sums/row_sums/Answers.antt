-- `noise::sums::row_sums`: the line holds the noise, and each sum is one over it.
use Rattle.std.proofs.Common.{w64, refl, ◌∙◌, rules}
use lib.Seq.{length-take-le}
use Rattle.laws.proofs.Is.{again, self}
use Rattle.noise.proofs.NoiseSums.{noise-sum}
use Rattle.noise.proofs.NoiseLines.{lines, is-noise, squares-are, lagged-are}
use Rattle.noise.proofs.sums.row_sums.Goals as goal

pub dot-energy-requires-clause-lines : goal.dot-energy-requires-clause-lines
dot-energy-requires-clause-lines c =
    let S = c.args.pair.now.seen in
    let p = length-take-le c.args.pair.now.view.width c.args.p.now (search rules) in
    let L = is-noise (S.rows _ c.requires) (rw p at c.noise_row.ensures) S.narrow in
    lines L L refl

pub lagged_dot-lagged-requires : goal.lagged_dot-lagged-requires
lagged_dot-lagged-requires c =
    let S = c.args.pair.now.seen in
    let p = length-take-le c.args.pair.now.view.width c.args.p.now (search rules) in
    is-noise (S.rows _ c.requires) (rw p at c.noise_row.ensures) S.narrow

pub shifted_energy-squares-requires-clause-noise : goal.shifted_energy-squares-requires-clause-noise
shifted_energy-squares-requires-clause-noise c =
    let S = c.args.pair.now.seen in
    let p = length-take-le c.args.pair.now.view.width c.args.p.now (search rules) in
    is-noise (S.rows _ c.requires) (rw p at c.noise_row.ensures) S.narrow

pub returns : goal.returns
returns c =
    let P = c.args.pair.now.seen.rows _ c.requires in
    let p = length-take-le c.args.pair.now.view.width c.args.p.now (search rules) in
    let e = rw p at c.noise_row.ensures in
    let d = c.dot-energy in
    let g = c.lagged_dot-lagged in
    let s = c.shifted_energy-squares in
    record {
      squares = (again {w = w64} (self (record { sfits = s.type_inv }))).eq ∙ s.ensures ∙ squares-are P e c.args.shift.bits;
      energy = (again {w = w64} (self (record { sfits = d.type_inv }))).eq ∙ d.ensures ∙ noise-sum P P e e;
      lagged = (again {w = w64} (self (record { sfits = g.type_inv }))).eq ∙ g.ensures ∙ lagged-are P e c.args.lag;
    }
