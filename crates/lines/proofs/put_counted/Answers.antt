-- `put_counted` meets its contract: the word is put, and the digits past it. Assumes nothing.
use Rattle.texts.proofs.Puts.{pushed_after}
use Rattle.lines.specs.Lines.{counted}
use Rattle.lines.proofs.put_counted.Goals as goal

pub returns-clause-put : goal.returns-clause-put
unfolding counted
returns-clause-put c = pushed_after c.push.ensures c.push_decimal.ensures
