-- The test of the major version is the definition's own, on both sides.
use borrow.Author.Tests.{eq-eqb, ne_eqb}
use Rattle.header.specs.Versions.{version_of}
use Rattle.header.proofs.judge.version_of.Goals as goal

pub returns-then-major-eq4 : goal.returns-then-major-eq4
unfolding version_of
returns-then-major-eq4 c = rw (eq-eqb _ _ c.if-major-eq4.true)

pub returns-else-major-eq4 : goal.returns-else-major-eq4
unfolding version_of
returns-else-major-eq4 c = rw (ne_eqb _ _ c.if-major-eq4.false)
