use Rattle.std.proofs.Common.{rules}
use Rattle.moves.specs.Change.{place_of, stored}
use Rattle.moves.proofs.change.store.Goals as goal

pub write-requires : goal.write-requires
unfolding place_of
write-requires c = search rules

pub zero_tail-requires : goal.zero_tail-requires
unfolding place_of
zero_tail-requires c = search rules

pub returns-in-Write : goal.returns-in-Write
unfolding stored
returns-in-Write c = search rules

pub returns-then-count-had : goal.returns-then-count-had
unfolding stored
returns-then-count-had c = search rules

pub returns-else-count-had : goal.returns-else-count-had
unfolding stored
returns-else-count-had c = search rules
