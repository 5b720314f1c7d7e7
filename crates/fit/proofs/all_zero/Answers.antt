-- `all_zero`: what `all` has answered of the slice.
use Rattle.std.proofs.Common.{◌∙◌, eqb, nat_abs, rules, tests}
use Rattle.std.proofs.lemmas.Iterator.{YieldsList-from_slice}
use Rattle.std.proofs.lemmas.Iterator.Search.{all_from_yields_List}
use Rattle.float.specs.Reading.{both}
use Rattle.fit.proofs.Zeros.{all-tested}
use Rattle.fit.proofs.all_zero.Goals as goal

pub returns : goal.returns
returns c =
    let xs = c.args.x.now in
    all_from_yields_List (λ q. eqb (nat_abs q.coefficient) 0) _ _ _ c.all.ensures.ran (YieldsList-from_slice xs cc) (λ x b q k. search (rules, tests, k)) ∙ all-tested (λ q. q.coefficient) both.unquantised xs
