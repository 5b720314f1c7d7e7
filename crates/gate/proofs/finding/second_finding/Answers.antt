-- `gate::finding::second_finding`: the temporal test's two ends, by the law of the definition's.
use Rattle.std.proofs.Common.{true, false, sym, ◌∙◌}
use Rattle.gate.proofs.Findings.{second_is}
use Rattle.gate.proofs.finding.second_finding.Goals as goal

pub returns-then-time_test : goal.returns-then-time_test
returns-then-time_test c =
    let s = c.of_pair-sums.ensures in
    second_is _ _ _ s.second c.if-sums.false true s.cross c.requires (sym c.if-time_test.true ∙ c.time_test.ensures)

pub returns-else-time_test : goal.returns-else-time_test
returns-else-time_test c =
    let s = c.of_pair-sums.ensures in
    second_is _ _ _ s.second c.if-sums.false false s.cross c.requires (sym c.if-time_test.false ∙ c.time_test.ensures)
