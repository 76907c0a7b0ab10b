-- The old mark goes, the new one comes, and the entry is set.
use Rattle.hand.proofs.Pointing.{pointed_of}
use Rattle.hand.proofs.parts.point.Goals as goal

pub returns : goal.returns
returns c = pointed_of _ _ _ _ _ _ _ _ _ _ _ _ c.set_mark.ensures c.set_mark-2.ensures c.set_fat.ensures
