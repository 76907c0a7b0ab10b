-- END leads on by definition; of any other number the definition leaves the test that is returned.
use mathlib.Core.Path.{◌∙◌, sym}
use borrow.Author.Tests.{eq-eqb}
use Rattle.walk.proofs.Walking.{leads_end, leads_other}
use Rattle.walk.proofs.leads.Goals as goal

pub returns-then-e-eq-END_OF_CHAIN : goal.returns-then-e-eq-END_OF_CHAIN
returns-then-e-eq-END_OF_CHAIN c = eq-eqb _ _ c.if-e-eq-END_OF_CHAIN.true ∙ sym (leads_end _ _ c.if-e-eq-END_OF_CHAIN.true)

pub returns-else-e-eq-END_OF_CHAIN : goal.returns-else-e-eq-END_OF_CHAIN
returns-else-e-eq-END_OF_CHAIN c = leads_other _ _ c.requires c.if-e-eq-END_OF_CHAIN.false
