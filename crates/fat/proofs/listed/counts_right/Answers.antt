-- The three tests are the definition's, in its order.
use native.Mathlib.Omega.{arith}
use Rattle.std.proofs.lemmas.Grind.{common_steps}
use Rattle.fat.specs.Lists.{counts_right}
use Rattle.fat.proofs.listed.counts_right.Goals as goal

pub returns-then-h-d : goal.returns-then-h-d
unfolding counts_right
returns-then-h-d c = grind (arith, common_steps)

pub returns-else-h-d : goal.returns-else-h-d
unfolding counts_right
returns-else-h-d c = grind (arith, common_steps)
