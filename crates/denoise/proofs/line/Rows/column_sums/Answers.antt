-- Each turn stores the next column's sum; so the line is the first column's sum, every column's, and the last column's.
use Rattle.std.proofs.Common.{◌+◌, ◌-◌, length, sym, subst, below_more, arith, rules}
use Rattle.laws.proofs.Table.{tabulate-more}
use Rattle.denoise.specs.Line.{SumsLow}
use Rattle.denoise.proofs.Sums.{sums_low, length-between, sums_whole}
use Rattle.denoise.proofs.line.Rows.column_sums.Goals as goal

pub loop-c-preserved : goal.loop-c-preserved
loop-c-preserved c =
    let L = c.loop-c in
    let sum = c.column_sum-in-loop-c.ensures in
    record {
      stored = tabulate-more L.inner L.c _ _ (search rules) L.invariant.stored sum.sum;
      low = below_more _ _ L.invariant.low (rw (← sum.sum) sum.low);
    }

pub returns-clause-sums : goal.returns-clause-sums
returns-clause-sums c =
    let R = c.args.self.now in
    let L = c.loop-c in
    let n = length R.up.now in
    let b = length-between R.up.now R.mid.now R.down.now n c.args.line.now c.column_sum.result (n + 1 - 1) (omega arith) c.requires.1 in
    sums_whole R.up.now R.mid.now R.down.now n c.args.line.now L.inner c.column_sum.result c.column_sum-2.result (n + 1 - 1) L.c (omega arith) (omega arith) c.requires.1
    c.column_sum.ensures.sum c.column_sum-2.ensures.sum (omega arith) (omega arith) (omega arith) L.invariant.stored

pub returns-clause-low : goal.returns-clause-low
returns-clause-low c =
    let R = c.args.self.now in
    let n = length R.up.now in
    let b = length-between R.up.now R.mid.now R.down.now n c.args.line.now c.column_sum.result (n + 1 - 1) (omega arith) c.requires.1 in
    subst SumsLow (sym (returns-clause-sums c)) (sums_low R.up.now R.mid.now R.down.now n (omega arith) (λ k h. c.loop-c.invariant.low k (omega arith)))
