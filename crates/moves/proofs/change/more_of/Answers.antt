use Rattle.std.proofs.Common.{rules}
use Rattle.moves.specs.Change.{seek_of, edit_more}
use Rattle.moves.proofs.change.more_of.Goals as goal

pub sectors_past-requires : goal.sectors_past-requires
unfolding seek_of
sectors_past-requires c = search rules

pub returns-in-Write : goal.returns-in-Write
unfolding edit_more
returns-in-Write c = search rules

pub returns-in-Resize : goal.returns-in-Resize
unfolding edit_more
returns-in-Resize c = search rules
