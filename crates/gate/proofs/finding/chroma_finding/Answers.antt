-- `gate::finding::chroma_finding`: each return is one of the laws of its tests.
use Rattle.std.proofs.Common.{sym, ap, ◌∙◌}
use Rattle.laws.proofs.Constants.{three-quarters-bits}
use Rattle.float.specs.Magnitude.{magnitude_of}
use Rattle.gate.proofs.Rows.{row_is}
use Rattle.gate.proofs.Findings.{chroma-low, chroma-empty, chroma-row, chroma-first, chroma-last}
use Rattle.gate.proofs.finding.chroma_finding.Goals as goal

pub returns-then-sigma16-lt8 : goal.returns-then-sigma16-lt8
returns-then-sigma16-lt8 c = chroma-low _ _ _ c.if-sigma16-lt8.true

pub returns-then-samples-eq0 : goal.returns-then-samples-eq0
returns-then-samples-eq0 c = chroma-empty _ _ _ c.if-sigma16-lt8.false (sym c.samples.ensures ∙ c.if-samples-eq0.true)

pub returns-then-magnitude : goal.returns-then-magnitude
returns-then-magnitude c =
    let s = c.of_plane-sums.ensures in
    let row = c.magnitude.ensures ∙ ap magnitude_of (row_is _ 1 s.energy s.lagged c.correlation_of-row.ensures) in
    chroma-row _ _ _ c.if-sigma16-lt8.false (λ z. c.if-samples-eq0.false (c.samples.ensures ∙ z)) _ row (rw (← three-quarters-bits) c.if-magnitude.true)

pub returns-then-e0 : goal.returns-then-e0
returns-then-e0 c =
    let s = c.of_plane-sums.ensures in
    let row = c.magnitude.ensures ∙ ap magnitude_of (row_is _ 1 s.energy s.lagged c.correlation_of-row.ensures) in
    chroma-first _ _ _ c.if-sigma16-lt8.false (λ z. c.if-samples-eq0.false (c.samples.ensures ∙ z)) _ row (rw (← three-quarters-bits) c.if-magnitude.false) _ s.energy c.if-e0.true

pub returns-else-e0 : goal.returns-else-e0
returns-else-e0 c =
    let s = c.of_plane-sums.ensures in
    let row = c.magnitude.ensures ∙ ap magnitude_of (row_is _ 1 s.energy s.lagged c.correlation_of-row.ensures) in
    chroma-last _ _ _ c.if-sigma16-lt8.false (λ z. c.if-samples-eq0.false (c.samples.ensures ∙ z)) _ row (rw (← three-quarters-bits) c.if-magnitude.false) _ s.energy _ c.if-e0.false c.second_finding.ensures
