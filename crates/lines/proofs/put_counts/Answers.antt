-- `put_counts` meets its contract: its three parts are put one after the other. Assumes nothing.
use Rattle.texts.proofs.Puts.{pushed_after}
use Rattle.lines.specs.Lines.{counts_line}
use Rattle.lines.proofs.put_counts.Goals as goal

pub returns-clause-put : goal.returns-clause-put
unfolding counts_line
returns-clause-put c = pushed_after c.put_counted.ensures.put (pushed_after c.put_counted-2.ensures.put c.push.ensures)
