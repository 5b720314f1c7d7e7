-- `gate::lag_h_rho`: the questions, then the correlation of the whole plane.
use Rattle.std.proofs.Common.{sym, refl, arith}
use Rattle.std.proofs.lemmas.Grind.{common_steps}
use Rattle.frame.proofs.FirstNo.{number-above}
use Rattle.noise.proofs.SeenCalls.{pair-seen}
use Rattle.gate.proofs.Answers.{refused, answered}
use Rattle.gate.proofs.lag_h_rho.Goals as goal

pub returns-in_err-ask_pair : goal.returns-in_err-ask_pair
returns-in_err-ask_pair c = let h = refused _ _ _ _ c.args.lag _ _ c.in_err-ask_pair.ensures (number-above _) in grind (arith, common_steps, h)

pub seen-plane-requires : goal.seen-plane-requires
seen-plane-requires c = rw c.whole.ensures (pair-seen _ _ _ _ _ (sym c.in_ok-ask_pair.ensures))

pub returns : goal.returns
returns c = rw (c.row_correlation.ensures, c.seen-plane.ensures.shows) (answered _ _ _ _ _ _ _ c.in_ok-ask_pair.ensures refl (rw c.whole.ensures))
