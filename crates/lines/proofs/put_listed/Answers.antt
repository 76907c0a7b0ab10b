-- `put_listed` meets its contract: the items follow the counts. Assumes nothing.
use Rattle.texts.proofs.Puts.{pushed_after}
use Rattle.lines.specs.Lines.{listed}
use Rattle.lines.proofs.put_listed.Goals as goal

pub returns : goal.returns
unfolding listed
returns c = pushed_after c.put_counts.ensures.put c.put_items.ensures
