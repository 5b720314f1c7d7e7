-- Each return is the mark that the tests before it lead to.
use Rattle.std.proofs.Common.{sym, w32}
use mir.ValLaws.{to_z-of_z}
use Rattle.float.proofs.MarkSteps.{no_number, low_end, high_end, between}
use Rattle.float.proofs.quant.mark_of.Goals as goal

pub returns-then-is_nan : goal.returns-then-is_nan
returns-then-is_nan c = no_number c.args.c (sym c.if-is_nan.ensures.value)

pub returns-then-whole-ltminus128 : goal.returns-then-whole-ltminus128
returns-then-whole-ltminus128 c =
    low_end _ c.well_formed.0.1 (sym c.if-is_nan.ensures.value) _ c.requires (rw (to_z-of_z w32 _ c.ranges.whole) at c.if-whole-ltminus128.true)

pub returns-then-whole-gt127 : goal.returns-then-whole-gt127
returns-then-whole-gt127 c =
    let same = to_z-of_z w32 _ c.ranges.whole in
    high_end _ c.well_formed.0.1 (sym c.if-is_nan.ensures.value) _ c.requires (rw same at c.if-whole-ltminus128.false) (rw same at c.if-whole-gt127.true)

pub returns-else-whole-gt127 : goal.returns-else-whole-gt127
returns-else-whole-gt127 c =
    let same = to_z-of_z w32 _ c.ranges.whole in
    between _ c.well_formed.0.1 (sym c.if-is_nan.ensures.value) _ c.requires (rw same at c.if-whole-ltminus128.false) (rw same at c.if-whole-gt127.false)
