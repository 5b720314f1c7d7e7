-- `profile::bins::Bins::add_part`: its lines have its bins.
use Rattle.std.proofs.Common.{◌-◌, refl, rules}
use Rattle.profile.proofs.PartBins.{lines_are, bins-size, part-binned, part-added}
use Rattle.profile.proofs.Tables.{bins-held}
use Rattle.profile.proofs.bins.Bins.add_part.Goals as goal

pub add_line-requires : goal.add_line-requires
add_line-requires g c =
    let a = c.args in
    let p = a.low.now in
    let split = a.self.now.split in
    let L = lines_are p.source.now p.denoised.now a.start p.view.stride (p.depth - 8) (p.depth - split.bits) c.noise_line.ensures (rw c.depth_shift.ensures at c.shifted_line.ensures) (rw c.from.ensures at c.bin_line.ensures) a.lines.own_fits refl a.lines.bins_fit in
    let size = bins-size c.requires.run split.narrow L in
    (bins-held split.narrow split.number, (part-binned c.requires.run split.narrow L a.lines.few, (search rules, rw size c.requires.room)))

pub returns : goal.returns
returns g c =
    let a = c.args in
    let p = a.low.now in
    let split = a.self.now.split in
    let L = lines_are p.source.now p.denoised.now a.start p.view.stride (p.depth - 8) (p.depth - split.bits) c.noise_line.ensures (rw c.depth_shift.ensures at c.shifted_line.ensures) (rw c.from.ensures at c.bin_line.ensures) a.lines.own_fits refl a.lines.bins_fit in
    record { bits = c.add_line.ensures.bits; tables = part-added c.requires.run split.narrow L c.add_line.ensures.tables }
