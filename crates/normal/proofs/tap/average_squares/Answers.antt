-- `normal::tap::average_squares`: the line holds the averages, and their squares are summed.
use Rattle.std.proofs.Common.{w64, ◌∙◌}
use Rattle.normal.proofs.Overlaps.{kept}
use Rattle.normal.proofs.AverageRows.{averages-are, averages-lines, averages-squares}
use Rattle.normal.proofs.tap.average_squares.Goals as goal

pub dot-requires-clause-lines : goal.dot-requires-clause-lines
dot-requires-clause-lines c =
    let W = c.args.frame.now in
    let F = W.shown in
    averages-lines F.over F.luma.seen F.cb.seen.narrow c.requires W.lag.reach W.window.columns (averages-are F.over F.luma.seen F.cb.seen.narrow c.requires c.average_line.ensures)

pub returns : goal.returns
returns c =
    let W = c.args.frame.now in
    let F = W.shown in
    let filled = averages-are F.over F.luma.seen F.cb.seen.narrow c.requires c.average_line.ensures in
    record {
      squares-are = kept {w = w64} (record { sfits = c.dot.type_inv }) (c.dot.ensures ∙ averages-squares F.over F.luma.seen F.cb.seen.narrow c.requires W.lag.reach W.window.columns filled);
      averages-are = filled;
    }
