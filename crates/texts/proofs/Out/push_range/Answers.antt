-- `Out::push_range` meets its contract: the parts of a range are put one after the other. Assumes nothing.
use Rattle.texts.proofs.Puts.{pushed_after}
use Rattle.texts.proofs.Texts.{range_apart}
use Rattle.texts.proofs.Out.push_range.Goals as goal

pub returns-then-first-last-clause-put : goal.returns-then-first-last-clause-put
returns-then-first-last-clause-put c =
    rw (← range_apart c.args.first c.args.last c.if-first-last.true)
    (pushed_after (pushed_after c.push_decimal.ensures c.push.ensures) c.push_decimal-then-first-last.ensures)
