-- `ExactSums::cell_sum`: one test for each kind of sum.
use Rattle.std.proofs.Common.{refl, ap, ◌∙◌, arith, w64, rules}
use lib.Ieee.{Float, binary64, div, of_int}
use mir.ValLaws.{to_z-of_z}
use Rattle.laws.specs.Constants.{four}
use Rattle.laws.proofs.Constants.{four-bits}
use Rattle.fit.proofs.Cells.{sum-whole, sum-quarters, sum-squares}
use Rattle.fit.proofs.equations.ExactSums.cell_sum.Goals as goal

pub returns-then-j-n : goal.returns-then-j-n
returns-then-j-n c = sum-whole _ _ _ _ _ _ _ (omega arith) (c.nearest_i64_to_f64.ensures ∙ ap (of_int binary64) (to_z-of_z w64 _ (record { sfits = c.neighbour_sum-whole.type_inv }) ∙ c.neighbour_sum-whole.ensures))

pub returns-then-i-n : goal.returns-then-i-n
returns-then-i-n c = sum-quarters _ _ _ _ _ _ _ (omega arith) (omega arith) (rw four-bits (ap (λ (x : Float). div binary64 x four) (c.nearest_i64_to_f64-then-i-n.ensures ∙ ap (of_int binary64) (to_z-of_z w64 _ (search rules)))))

pub returns-else-i-n : goal.returns-else-i-n
returns-else-i-n c = sum-squares _ _ _ _ _ _ _ (omega arith) (omega arith) refl
