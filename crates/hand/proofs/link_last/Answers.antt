use Rattle.std.proofs.Common.{rules}
use Rattle.hand.proofs.link_last.Goals as goal

pub returns : goal.returns
returns c = record { same = search rules; hand = c.link_last.ensures _ _ _ }
