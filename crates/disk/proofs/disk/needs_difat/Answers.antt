-- A place below 109 is in the header; of the others the test is the definition's own.
use mathlib.Core.Path.{sym}
use Rattle.disk.proofs.Counting.{needs_near, needs_told}
use Rattle.disk.proofs.disk.needs_difat.Goals as goal

pub returns-then-p-lt109 : goal.returns-then-p-lt109
returns-then-p-lt109 c = sym (needs_near _ _ c.if-p-lt109.true)

pub returns : goal.returns
returns c = needs_told _ _ _ c.if-p-lt109.false c.ceil.ensures
