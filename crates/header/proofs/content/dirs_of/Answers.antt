-- The test of the major version is the definition's own, on both sides.
use borrow.Author.Tests.{eq-eqb, ne_eqb}
use Rattle.header.specs.Read.{dirs_of}
use Rattle.header.proofs.content.dirs_of.Goals as goal

pub returns-then-major-eq3 : goal.returns-then-major-eq3
unfolding dirs_of
returns-then-major-eq3 c = rw (eq-eqb _ _ c.if-major-eq3.true)

pub returns-else-major-eq3 : goal.returns-else-major-eq3
unfolding dirs_of
returns-else-major-eq3 c = rw (ne_eqb _ _ c.if-major-eq3.false)
