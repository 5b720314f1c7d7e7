-- `gate::chroma_noise_gate`: the questions, then the tests.
use Rattle.std.proofs.Common.{sym, refl, arith}
use Rattle.std.proofs.lemmas.Grind.{common_steps}
use Rattle.frame.specs.declared.view.Component.TheVariants.{CbCr}
use Rattle.frame.proofs.Accepted.{gate-inside}
use Rattle.frame.proofs.FirstNo.{number-above}
use Rattle.noise.proofs.SeenCalls.{first-seen, second-seen}
use Rattle.gate.proofs.Answers.{chroma-refused, chroma-answered}
use Rattle.gate.proofs.chroma_noise_gate.Goals as goal

pub returns-in_err-ask_gate : goal.returns-in_err-ask_gate
returns-in_err-ask_gate c = let h = chroma-refused _ _ _ _ _ c.args.sigma16 c.in_err-ask_gate.ensures (number-above _) in grind (arith, common_steps, h)

pub view_of-view-requires : goal.view_of-view-requires
view_of-view-requires c = gate-inside _ CbCr _ _ _ _ (sym c.in_ok-ask_gate.ensures)

pub two_frames-requires-clause-first : goal.two_frames-requires-clause-first
two_frames-requires-clause-first c = rw c.view_of-view.ensures (first-seen _ CbCr _ _ _ _ (sym c.in_ok-ask_gate.ensures))

pub two_frames-requires-clause-second : goal.two_frames-requires-clause-second
two_frames-requires-clause-second c = rw c.view_of-view.ensures (second-seen _ CbCr _ _ _ _ (sym c.in_ok-ask_gate.ensures))

pub returns : goal.returns
returns c = rw (c.is_ok.ensures.value, c.chroma_finding.ensures, c.two_frames.ensures.first, c.two_frames.ensures.second) (chroma-answered _ _ _ _ _ _ c.in_ok-ask_gate.ensures refl c.view_of-view.ensures)
