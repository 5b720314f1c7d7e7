-- Rust's `round` rounds by the sign's case, `round_half_away` with the sign.
use Rattle.std.proofs.Common.{◌≡◌, true, false, refl, ◌∙◌}
use Rattle.std.specs.Float.{Float, nan, inf, fin, binary64, float_round, round_with}
use Rattle.float.specs.Round.{half_up, round_half_away}
use Rattle.float.proofs.rounding.round.Goals as goal

by-sign : (x : Float) → float_round binary64 x ≡ round_half_away x
unfolding round_with half_up round_half_away
by-sign nan = refl
by-sign (inf s) = refl
by-sign (fin true m e) = refl
by-sign (fin false m e) = refl

pub returns : goal.returns
returns c = c.round.ensures ∙ by-sign c.args.x
