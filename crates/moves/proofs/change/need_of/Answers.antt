use Rattle.std.proofs.Common.{rules}
use Rattle.moves.specs.Change.{edit_need, edit_more}
use Rattle.moves.proofs.change.need_of.Goals as goal

pub returns-in-Write : goal.returns-in-Write
unfolding edit_need edit_more
returns-in-Write c = search rules

pub returns-in-Resize : goal.returns-in-Resize
unfolding edit_need
returns-in-Resize c = search rules
