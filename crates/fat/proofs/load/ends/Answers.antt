-- The two tests are the definition's, in its order.
use borrow.Author.Tests.{eq-eqb, ne_eqb}
use Rattle.fat.specs.Lists.{ends}
use Rattle.fat.proofs.load.ends.Goals as goal

pub returns-then-v-eq-END_OF_CHAIN : goal.returns-then-v-eq-END_OF_CHAIN
unfolding ends
returns-then-v-eq-END_OF_CHAIN c = rw (eq-eqb _ _ c.if-v-eq-END_OF_CHAIN.true)

pub returns-else-v-eq-END_OF_CHAIN : goal.returns-else-v-eq-END_OF_CHAIN
unfolding ends
returns-else-v-eq-END_OF_CHAIN c = rw (ne_eqb _ _ c.if-v-eq-END_OF_CHAIN.false)
