-- The two tests are the definition's: 3 is known, and past it 4 alone.
use borrow.Author.Tests.{eq-eqb, ne_eqb}
use Rattle.header.specs.Read.{unknown}
use Rattle.header.proofs.judge.unknown.Goals as goal

pub returns-then-major-eq3 : goal.returns-then-major-eq3
unfolding unknown
returns-then-major-eq3 c = rw (eq-eqb _ _ c.if-major-eq3.true)

pub returns : goal.returns
unfolding unknown
returns c = rw (ne_eqb _ _ c.if-major-eq3.false)
