-- The two tests are the definition's, in its order.
use mathlib.Core.Path.{◌∙◌}
use borrow.Author.Tests.{eq-eqb}
use Rattle.states.proofs.Holding.{version_three, version_else}
use Rattle.states.proofs.is_version.Goals as goal

pub returns-then-word-eq3 : goal.returns-then-word-eq3
returns-then-word-eq3 c = eq-eqb _ _ c.if-word-eq3.true ∙ version_three _ c.if-word-eq3.true

pub returns-else-word-eq3 : goal.returns-else-word-eq3
returns-else-word-eq3 c = version_else _ c.if-word-eq3.false
