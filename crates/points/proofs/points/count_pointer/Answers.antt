-- An entry that points at a sector adds one to its count, any other leaves the counts alone.
use mathlib.Core.Path.{sym}
use Rattle.points.proofs.Pointing.{counted_in, counted_out}
use Rattle.points.proofs.points.count_pointer.Goals as goal

pub returns-then-i-counts : goal.returns-then-i-counts
returns-then-i-counts c = sym (counted_in _ _ c.if-i-counts.true)

pub returns-else-i-counts : goal.returns-else-i-counts
returns-else-i-counts c = sym (counted_out _ _ c.if-i-counts.false)
