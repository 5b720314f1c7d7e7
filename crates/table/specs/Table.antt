-- "Marked * are proved, and make up a table", "as rows of a table under a common statement": the table, in the scope's order, with other rows on the way.
use Rattle.float.specs.Round.{round_half_away}
use Rattle.float.specs.Root.{root}
use Rattle.float.specs.WorkedDigits.{worked_digits}
use Rattle.float.specs.Steps.{quant_ar}
use Rattle.float.specs.Coefficient.{coefficient}
use Rattle.float.specs.Reading.{quantise}
use Rattle.laws.specs.FloatSums.{sum_f}
use Rattle.positions.specs.Positions.{positions, positions_of}
use Rattle.positions.specs.Text.{walk}
use Rattle.random.specs.Seed.{seed}
use Rattle.table.specs.Cases.{Right}
use Rattle.table.specs.Averages as Averages
use Rattle.table.specs.Correlation as Correlation
use Rattle.table.specs.Denoise as Denoise
use Rattle.table.specs.Fit as Fit
use Rattle.table.specs.Float as Float
use Rattle.table.specs.Gates as Gates
use Rattle.table.specs.Header as Header
use Rattle.table.specs.Positions as Positions
use Rattle.table.specs.Profile as Profile
use Rattle.table.specs.Questions as Questions
use Rattle.table.specs.Random as Random
use Rattle.table.specs.Reader as Reader
use Rattle.table.specs.Solver as Solver
use Rattle.table.specs.Sums as Sums

-- a star stands where the scope has one for rows of the list
pub record Table : Type 0 where
  -- * denoise
  pub denoise : Right Denoise.denoised_plane Denoise.cases
  -- * sigma16 of a plane; and of the shifted noise, by the Rust's steps and by a whole root
  pub sigma16 : Right Profile.sigma Profile.sigma_cases
  pub sigma16-of-noise : Right Float.sigma Float.sigma_cases
  pub sigma16-by-whole-root : Right Float.whole_sigma Float.sigma_cases
  -- a letterboxed frame's profile; bins, and how many samples a bin wants
  pub letterboxed : Right Profile.estimate Profile.estimate_cases
  pub bins : Right Profile.bin Profile.bin_cases
  pub least-counts : Right Profile.least Profile.least_cases
  -- * coefficients, by the Rust's steps and in words; coefficients with their marks; roots, the digits worked for them, and rounded numbers
  pub quantised : Right quant_ar Float.coefficient_cases
  pub coefficients : Right coefficient Float.coefficient_cases
  pub marks : Right quantise Float.mark_cases
  pub roots : Right root Float.root_cases
  pub root-digits : Right worked_digits Float.digit_cases
  pub rounded : Right round_half_away Float.round_cases
  -- * solver
  pub solver : Right Solver.solved Solver.cases
  -- * the order at lag 1, the Rust's and the specification's; lag 4, and fits
  pub order : Right positions Positions.orders
  pub walk-order : Right walk Positions.orders
  pub lag-refused : Right positions_of Positions.refusals
  pub fits : Right Fit.fit Fit.cases
  -- * chroma correlation, with its averages; more averages
  pub correlation : Right Correlation.figures Correlation.cases
  pub averages : Right Averages.average_at Averages.cases
  -- gates and row correlation
  pub luma-gate : Right Gates.luma_found Gates.cases
  pub chroma-gate : Right Gates.chroma_found Gates.cases
  pub active-gates : Right Gates.active_found Gates.active_cases
  pub row-correlation : Right Gates.row_found Gates.row_cases
  -- the temporal test beside the comparison of squares that it is not, of sums and of frames
  pub temporal-test : Right Gates.tests Gates.test_cases
  pub near-the-limit : Right Gates.near_found Gates.near_cases
  -- * seeds; * the register
  pub seeds : Right seed Random.seeds
  pub draws : Right Random.asked Random.draws
  -- sizes, samples, rectangles, orders and bits that are refused, for each kind of call
  pub planes-asked : Right Questions.plane Questions.plane_cases
  pub pairs-asked : Right Questions.pair Questions.pair_cases
  pub frames-asked : Right Questions.frame Questions.frame_cases
  pub active-asked : Right Questions.active Questions.active_cases
  pub fits-asked : Right Questions.fit Questions.fit_cases
  pub denoise-frames-asked : Right Questions.denoise_frame Questions.denoise_frame_cases
  pub luma-gates-asked : Right Questions.luma_gate Questions.luma_gate_cases
  pub chroma-gates-asked : Right Questions.chroma_gate Questions.chroma_gate_cases
  pub orders-asked : Right Questions.order Questions.order_cases
  pub bits-asked : Right Questions.bits Questions.bits_cases
  -- headers with their bytes, and records that are refused
  pub headers-written : Right Header.outcome Header.written_cases
  pub headers-refused : Right Header.outcome Header.refused_cases
  -- reads held at the edge; f64 sums
  pub reads : Right Reader.read Reader.reads
  pub sums : Right sum_f Sums.sum_cases
