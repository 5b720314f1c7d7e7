-- `gate::finding::time_test`: the quotient by the root, and its magnitude compared.
use Rattle.laws.proofs.Constants.{two-fifths-bits}
use Rattle.gate.specs.Tests.{time_test}
use Rattle.gate.proofs.finding.time_test.Goals as goal

pub returns : goal.returns
unfolding time_test
returns c = rw (c.magnitude.ensures, c.sqrt.ensures, two-fifths-bits)
