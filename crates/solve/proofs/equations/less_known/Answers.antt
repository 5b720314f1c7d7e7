-- The pairs of these columns are those that the definition's loop takes.
use Rattle.std.proofs.Common.{◌-◌, drop, take, refl, sym, ◌∙◌, arith, rules}
use Rattle.std.proofs.lemmas.Iterator.{YieldsList-from_slice, YieldsList-from_zip}
use Rattle.std.proofs.lemmas.Iterator.Consumers.{fold_from_yields_List}
use Rattle.solve.specs.Elimination.{less}
use Rattle.solve.proofs.Known.{known-taken}
use Rattle.solve.proofs.equations.less_known.Goals as goal

pub returns : goal.returns
returns c =
    let a = c.args in
    let m = a.to - a.from in
    fold_from_yields_List _ (λ v p. less v p.0 p.1) _ _ c.fold.ensures.ran
    (YieldsList-from_zip (YieldsList-from_slice (take m (drop a.from a.row.now)) cc) (YieldsList-from_slice (take m (drop a.from a.x.now)) cc))
    (λ v p w f k. search rules)
    ∙ sym (known-taken a.row.now a.x.now a.from m (omega arith) (omega arith) a.v a.to refl)
