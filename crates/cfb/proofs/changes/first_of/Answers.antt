-- A chain of none starts at END.
use Rattle.cfb.proofs.Ending.{start_none, start_some}
use Rattle.cfb.proofs.changes.first_of.Goals as goal

pub returns-then-count-eq0 : goal.returns-then-count-eq0
returns-then-count-eq0 c = start_none _ _ c.if-count-eq0.true

pub returns : goal.returns
returns c = start_some _ _ c.if-count-eq0.false
