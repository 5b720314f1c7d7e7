-- `header::limits::is_allowed`: by what is present. Assumes nothing.
use Rattle.std.proofs.Common.{◌≡◌, ℕ, leb, is_le, arith}
use Rattle.std.proofs.lemmas.Bool.Decides.{nat_tests}
use Rattle.std.specs.Ordering.{nat_cmp}
use Rattle.header.specs.Row.{allowed}
use Rattle.header.proofs.limits.is_allowed.Goals as goal

le-cmp : (a b : ℕ) → is_le (nat_cmp a b) ≡ leb a b
le-cmp a b = grind (arith, nat_tests)

pub returns-then-present : goal.returns-then-present
unfolding allowed
returns-then-present c = rw (c.if-present.true, c.contains.ensures.value, c.new.ensures.exhausted, c.new.ensures.start, c.new.ensures.end, le-cmp _ _, le-cmp _ _)

pub returns-else-present : goal.returns-else-present
unfolding allowed
returns-else-present c = rw c.if-present.false
