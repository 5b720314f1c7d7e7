-- `without_tap`: each in turn.
use Rattle.std.proofs.Common.{rules, get_or}
use Rattle.float.specs.Reading.{both}
use Rattle.fit.specs.Answer.{first_of}
use Rattle.laws.proofs.Made.{made}
use Rattle.fit.proofs.without_tap.Goals as goal

pub returns : goal.returns
unfolding first_of
returns c = made _ _ _ (λ i. get_or c.args.x i both.unquantised) (λ i y q l k. search (rules, k)) c.from_fn.ensures.items
