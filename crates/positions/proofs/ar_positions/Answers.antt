-- A refusal's number, or the places that the loop has filled and zeros after them.
use Rattle.std.proofs.Common.{replicate, ap, ◌∙◌, arith}
use Rattle.std.proofs.lemmas.Grind.{common_steps}
use Rattle.std.proofs.lemmas.List.{length-take-le}
use Rattle.laws.specs.Table.{tabulate}
use Rattle.laws.proofs.Fill.{fill-starts, fill-turn, fill-ends}
use Rattle.frame.proofs.FirstNo.{answer-refused, number-above}
use Rattle.positions.specs.Positions.{listed, refused, positions, positions_of}
use Rattle.positions.proofs.Counts.{neighbours-le}
use Rattle.positions.proofs.Answers.{place_at, accepted-is}
use Rattle.positions.proofs.ar_positions.Goals as goal

pub returns-in_err-lag : goal.returns-in_err-lag
unfolding positions_of
returns-in_err-lag c =
    let h = answer-refused (listed (positions c.args.lag)) refused c.in_err-lag.ensures.0 (number-above c.in_err-lag.field-0.0) in
    grind (arith, common_steps, h)

pub loop-i-init : goal.loop-i-init
loop-i-init c = fill-starts _ _

pub loop-i-preserved : goal.loop-i-preserved
loop-i-preserved c =
    fill-turn _ _ _ c.loop-i.invariant c.loop-i-test.true
    (λ k. record { row = c.offset_of.ensures.row k; column = c.offset_of.ensures.column k })

pub returns : goal.returns
returns c =
    let lag = c.in_ok-lag.lag in
    let count = c.neighbours-count in
    let z = c.default-places in
    let n = length-take-le count.result (replicate 24 z.result) (rw count.ensures (neighbours-le lag.few)) ∙ count.ensures in
    rw (count.ensures, ← c.in_ok-lag.ensures.1)
    (accepted-is lag.reach c.loop-i.place-items z.result lag.few z.ensures.0 z.ensures.1
    (fill-ends _ _ c.loop-i.invariant c.loop-i-test.false ∙ ap (λ m. tabulate m (place_at lag.reach)) n))
