-- `BitWriter::put_coeffs`: each turn puts a place more. Assumes nothing.
use Rattle.std.proofs.Common.{◌<◌, length, arith}
use Rattle.header.specs.Text.{coeff}
use Rattle.header.proofs.Putting.{part-length, part-place, puts-start, coeffs-more, coeffs-done}
use Rattle.header.proofs.bits.BitWriter.put_coeffs.Goals as goal

pub loop-value-init : goal.loop-value-init
loop-value-init c = puts-start (coeff c.args.n c.args.values.now)

pub loop-value-preserved : goal.loop-value-preserved
loop-value-preserved c =
    let A = c.args in
    let L = c.loop-value in
    let long = part-length A.n A.values.now c.parted.ensures.first in
    let here : L.value-index < length c.parted.result.0.now = omega arith in
    coeffs-more A.n A.values.now L.value-index (omega arith) L.invariant (rw (c.from.ensures, part-place A.n A.values.now c.parted.ensures.first L.value-index here) at c.put.ensures)

pub returns : goal.returns
returns c =
    let A = c.args in
    let L = c.loop-value in
    let long = part-length A.n A.values.now c.parted.ensures.first in
    coeffs-done A.n A.values.now L.value-index (omega arith) (omega arith) L.invariant
