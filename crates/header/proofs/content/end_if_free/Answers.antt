-- The test for FREE is the definition's own, on both sides.
use borrow.Author.Tests.{eq-eqb, ne_eqb}
use Rattle.header.specs.Read.{end_if_free}
use Rattle.header.proofs.content.end_if_free.Goals as goal

pub returns-then-difat-eq-FREE_SECTOR : goal.returns-then-difat-eq-FREE_SECTOR
unfolding end_if_free
returns-then-difat-eq-FREE_SECTOR c = rw (eq-eqb _ _ c.if-difat-eq-FREE_SECTOR.true)

pub returns-else-difat-eq-FREE_SECTOR : goal.returns-else-difat-eq-FREE_SECTOR
unfolding end_if_free
returns-else-difat-eq-FREE_SECTOR c = rw (ne_eqb _ _ c.if-difat-eq-FREE_SECTOR.false)
