-- `gate::film_grain_probe`: the questions, then the tests.
use Rattle.std.proofs.Common.{sym, refl, ◌∙◌, arith}
use Rattle.std.proofs.lemmas.Grind.{common_steps}
use Rattle.frame.specs.declared.view.Component.TheVariants.{Y}
use Rattle.frame.proofs.Accepted.{gate-call, gate-inside}
use Rattle.frame.proofs.FirstNo.{number-above}
use Rattle.noise.proofs.SeenCalls.{first-seen, second-seen}
use Rattle.gate.specs.Tests.{luma_of}
use Rattle.gate.proofs.Answers.{luma-refused, luma-answered}
use Rattle.gate.proofs.film_grain_probe.Goals as goal

pub returns-in_err-ask_gate : goal.returns-in_err-ask_gate
returns-in_err-ask_gate c = let h = luma-refused _ _ _ _ _ c.in_err-ask_gate.ensures (number-above _) in grind (arith, common_steps, h)

pub view_of-view-requires : goal.view_of-view-requires
view_of-view-requires c = gate-inside _ Y _ _ _ _ (sym c.in_ok-ask_gate.ensures)

pub depth_shift-shift-requires : goal.depth_shift-shift-requires
depth_shift-shift-requires c = let h = (gate-call _ Y _ _ _ _ (sym c.in_ok-ask_gate.ensures)).shape.depth in (h.least, h.most)

pub two_frames-requires-clause-first : goal.two_frames-requires-clause-first
two_frames-requires-clause-first c = rw c.view_of-view.ensures (first-seen _ Y _ _ _ _ (sym c.in_ok-ask_gate.ensures))

pub two_frames-requires-clause-second : goal.two_frames-requires-clause-second
two_frames-requires-clause-second c = rw c.view_of-view.ensures (second-seen _ Y _ _ _ _ (sym c.in_ok-ask_gate.ensures))

pub returns : goal.returns
returns c =
    let found = c.luma_finding.ensures ∙ (λ i. luma_of (c.depth_shift-shift.ensures i) (c.two_frames.ensures.first i) (c.two_frames.ensures.second i)) in
    rw (c.is_ok.ensures.value, found) (luma-answered _ _ _ _ _ c.in_ok-ask_gate.ensures refl c.view_of-view.ensures)
