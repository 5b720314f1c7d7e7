-- `header::limits::is_rising`: as the library compares neighbours. Assumes nothing.
use Rattle.std.proofs.Common.{rules}
use Rattle.std.proofs.lemmas.List.Sorted.{answers_always}
use lib.Dec.{ltb}
use Rattle.header.proofs.Listed.{rising-answered}
use Rattle.header.proofs.limits.is_rising.Goals as goal

pub returns : goal.returns
returns c =
    rising-answered c.args.values.now c.is_sorted_by.result
    (c.is_sorted_by.ensures.cases (λ x y. ltb x y) (answers_always _ _ _ (λ f a r g h. search rules)))
