-- `noise::average::average_line`: the sums are those of the luma rows of the chroma row, and their quarters the averages.
use Rattle.std.proofs.Common.{◌≡◌, ℕ, length, sym, ap, ◌∙◌, arith}
use Rattle.laws.specs.Table.{tabulate}
use Rattle.noise.specs.Quarters.{quartered}
use Rattle.noise.proofs.Averages.{sums-small, line-is, rows, rows_of}
use Rattle.noise.proofs.average.average_line.Goals as goal

pub invariant_of-columns : goal.invariant_of-columns
invariant_of-columns c =
    let S = c.args.luma.now.seen in
    record { small = sums-small _ _ (rows S c.requires) (rows_of S c.requires c.min-lower.ensures c.added_rows.ensures) }

pub invariant_of-columns-else-sampling-eq0 : goal.invariant_of-columns-else-sampling-eq0
invariant_of-columns-else-sampling-eq0 c =
    let S = c.args.luma.now.seen in
    record { small = sums-small _ _ (rows S c.requires) (rows_of S c.requires c.min-lower.ensures c.added_rows.ensures) }

pub returns-then-sampling-eq0 : goal.returns-then-sampling-eq0
returns-then-sampling-eq0 c =
    let A = c.requires in
    let S = c.args.luma.now.seen in
    c.kept.ensures
    ∙ ap (λ (a : ℕ). tabulate (length c.args.line.now) (quartered a c.added_rows.new.sums)) (sym c.if-sampling-eq0.true)
    ∙ line-is _ _ (rows S A) (rows_of S A c.min-lower.ensures c.added_rows.ensures) A.line-length

pub returns-else-sampling-eq0 : goal.returns-else-sampling-eq0
returns-else-sampling-eq0 c =
    let A = c.requires in
    let S = c.args.luma.now.seen in
    let e : 1 ≡ c.args.sampling.across = omega arith in
    c.halved.ensures
    ∙ ap (λ (a : ℕ). tabulate (length c.args.line.now) (quartered a c.added_rows.new.sums)) e
    ∙ line-is _ _ (rows S A) (rows_of S A c.min-lower.ensures c.added_rows.ensures) A.line-length
