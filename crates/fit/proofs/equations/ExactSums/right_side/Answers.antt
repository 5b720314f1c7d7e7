-- `ExactSums::right_side`: value by value.
use Rattle.std.proofs.Common.{rules}
use Rattle.fit.specs.Steps.{value_of, right_of}
use Rattle.fit.specs.ExactSums.{right_in}
use Rattle.laws.proofs.Made.{made}
use Rattle.fit.proofs.equations.ExactSums.right_side.Goals as goal

pub returns : goal.returns
unfolding right_of
returns c =
    let e = c.args.self.now in
    made _ _ _ (value_of (right_in e) e.unknowns) (λ j y q l k. search (rules, k)) c.from_fn.ensures.items
