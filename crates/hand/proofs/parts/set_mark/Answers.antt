use Rattle.hand.proofs.Pointing.{marked_below, marked_past}
use Rattle.hand.proofs.parts.set_mark.Goals as goal

pub returns-then-i-n : goal.returns-then-i-n
returns-then-i-n c = marked_below _ _ _ _ c.if-i-n.true

pub returns-else-i-n : goal.returns-else-i-n
returns-else-i-n c = marked_past _ _ _ _ c.if-i-n.false
