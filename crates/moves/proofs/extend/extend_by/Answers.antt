use Rattle.std.proofs.Common.{rules}
use native.Mathlib.Omega.{arith}
use Rattle.hand.specs.Hand.{extend}
use Rattle.moves.proofs.Extending.{extend_small, turn_one, turn_on}
use Rattle.moves.proofs.extend.extend_by.Goals as goal

pub overflow_add-listed-end : goal.overflow_add-listed-end
overflow_add-listed-end c = omega (arith, extend_small _ _ _ _ c.requires)

pub loop-listed-init : goal.loop-listed-init
unfolding extend
loop-listed-init c = search rules

pub extend_one-requires : goal.extend_one-requires
extend_one-requires c = turn_one c.requires c.loop-listed.invariant c.loop-listed.auto.listed c.loop-listed-test.true

pub loop-listed-preserved : goal.loop-listed-preserved
loop-listed-preserved c = turn_on c.requires c.loop-listed.invariant c.loop-listed.auto.listed c.extend_one.ensures
