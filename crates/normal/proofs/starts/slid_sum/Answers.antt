-- `normal::starts::slid_sum`: one product is taken off and one put on.
use Rattle.std.proofs.Common.{w64}
use Rattle.laws.proofs.Is.{again, fits}
use Rattle.normal.proofs.Overlaps.{kept, less-is, slid-is}
use Rattle.normal.proofs.starts.slid_sum.Goals as goal

pub overflow_sub-result : goal.overflow_sub-result
overflow_sub-result c =
    let x = c.product_at-first in
    let y = c.product_at-next in
    fits (less-is c.args.a c.args.b c.requires.0 (kept c.ranges.before c.requires.1) (kept {w = w64} (record { sfits = x.type_inv }) x.ensures) (kept {w = w64} (record { sfits = y.type_inv }) y.ensures))

pub overflow_add-result : goal.overflow_add-result
overflow_add-result c =
    let x = c.product_at-first in
    let y = c.product_at-next in
    fits (slid-is c.args.a c.args.b c.requires.0 (kept c.ranges.before c.requires.1) (kept {w = w64} (record { sfits = x.type_inv }) x.ensures) (kept {w = w64} (record { sfits = y.type_inv }) y.ensures))

pub returns : goal.returns
returns c =
    let x = c.product_at-first in
    let y = c.product_at-next in
    (again (slid-is c.args.a c.args.b c.requires.0 (kept c.ranges.before c.requires.1) (kept {w = w64} (record { sfits = x.type_inv }) x.ensures) (kept {w = w64} (record { sfits = y.type_inv }) y.ensures))).eq
