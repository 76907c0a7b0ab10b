-- `put_refused` meets its contract: its two parts are put one after the other. Assumes nothing.
use Rattle.texts.proofs.Puts.{pushed_after}
use Rattle.lines.specs.Lines.{refused_line}
use Rattle.lines.proofs.put_refused.Goals as goal

pub returns : goal.returns
unfolding refused_line
returns c = pushed_after c.put_counted.ensures.put c.push.ensures
