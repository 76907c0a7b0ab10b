-- The invariant: what is left to count from here is the whole. Where fewer sectors are left than are asked for, nothing is counted.
use Rattle.room.proofs.Needing.{Counts}
use Rattle.room.proofs.has_room.Given as goal

abbrev pub invariant-loop : goal.invariant-loop
invariant-loop l = Counts l.s l.n l.more l.count l.counter
