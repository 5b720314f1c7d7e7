-- Every row of the table holds. Assumes nothing.
use Rattle.table.specs.Table.{Table}
use Rattle.table.proofs.Averages as Averages
use Rattle.table.proofs.Correlation as Correlation
use Rattle.table.proofs.Denoise as Denoise
use Rattle.table.proofs.Fit as Fit
use Rattle.table.proofs.Float as Float
use Rattle.table.proofs.Gates as Gates
use Rattle.table.proofs.Header as Header
use Rattle.table.proofs.Positions as Positions
use Rattle.table.proofs.Profile as Profile
use Rattle.table.proofs.Questions as Questions
use Rattle.table.proofs.Random as Random
use Rattle.table.proofs.Reader as Reader
use Rattle.table.proofs.Solver as Solver
use Rattle.table.proofs.Sums as Sums

pub table : Table
table =
    record {
      denoise = Denoise.cases-right;
      sigma16 = Profile.sigma-cases-right;
      sigma16-of-noise = Float.sigma-cases-right;
      sigma16-by-whole-root = Float.whole-sigma-cases-right;
      letterboxed = Profile.estimate-cases-right;
      bins = Profile.bin-cases-right;
      least-counts = Profile.least-cases-right;
      quantised = Float.quant-cases-right;
      coefficients = Float.coefficient-cases-right;
      marks = Float.mark-cases-right;
      roots = Float.root-cases-right;
      root-digits = Float.digit-cases-right;
      rounded = Float.round-cases-right;
      solver = Solver.cases-right;
      order = Positions.orders-right;
      walk-order = Positions.walks-right;
      lag-refused = Positions.refusals-right;
      fits = Fit.cases-right;
      correlation = Correlation.cases-right;
      averages = Averages.cases-right;
      luma-gate = Gates.luma-cases-right;
      chroma-gate = Gates.chroma-cases-right;
      active-gates = Gates.active-cases-right;
      row-correlation = Gates.row-cases-right;
      temporal-test = Gates.test-cases-right;
      near-the-limit = Gates.near-cases-right;
      seeds = Random.seeds-right;
      draws = Random.draws-right;
      planes-asked = Questions.planes-right;
      pairs-asked = Questions.pairs-right;
      frames-asked = Questions.frames-right;
      active-asked = Questions.active-right;
      fits-asked = Questions.fits-right;
      denoise-frames-asked = Questions.denoise-frames-right;
      luma-gates-asked = Questions.luma-gates-right;
      chroma-gates-asked = Questions.chroma-gates-right;
      orders-asked = Questions.orders-right;
      bits-asked = Questions.bits-right;
      headers-written = Header.written-right;
      headers-refused = Header.refused-right;
      reads = Reader.reads-right;
      sums = Sums.sum-cases-right;
    }
