-- `put_item` meets its contract: the item's text is put, and a line feed past it. Assumes nothing.
use Rattle.texts.proofs.Puts.{pushed_after}
use Rattle.lines.specs.Lines.{line_of}
use Rattle.lines.proofs.put_item.Goals as goal

pub returns-clause-put : goal.returns-clause-put
unfolding line_of
returns-clause-put c = pushed_after c.push_item.ensures.put c.push.ensures
