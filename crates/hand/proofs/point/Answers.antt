use Rattle.std.proofs.Common.{rules}
use Rattle.hand.proofs.point.Goals as goal

pub returns : goal.returns
returns c = record { same = search rules; hand = c.point.ensures _ _ _ }
