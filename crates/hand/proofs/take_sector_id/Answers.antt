-- An empty list has a new sector made; else the last of it is zeroed in the list, marked END and made zero.
use Rattle.std.proofs.Common.{rules}
use Rattle.hand.specs.Hand.{taken_id, take_sector}
use Rattle.hand.proofs.Taking.{reuse_inside}
use Rattle.hand.proofs.take_sector_id.Goals as goal

pub returns-then-hand-eq0 : goal.returns-then-hand-eq0
unfolding taken_id take_sector
returns-then-hand-eq0 c = search rules

pub reuse-requires-clause-s_in_bounds : goal.reuse-requires-clause-s_in_bounds
reuse-requires-clause-s_in_bounds c = reuse_inside _ _ _ _ _ c.requires c.if-hand-eq0.false

pub returns : goal.returns
unfolding taken_id take_sector
returns c = search rules
