use native.Mathlib.Omega.{arith}
use Rattle.room.specs.Needed.{resize_more}
use Rattle.room.proofs.sectors_over.Goals as goal

pub returns : goal.returns
unfolding resize_more
returns c = omega (arith, c.saturating_sub.ensures, c.sectors_for.ensures)
