-- The invariant: what is not left of buf is written. A turn copies a run of the rest into the next sector.
use Rattle.stores.proofs.Writing.{Writing}
use Rattle.stores.proofs.write.Given as goal

abbrev pub invariant-loop-id : goal.invariant-loop-id
invariant-loop-id l = Writing l.s l.initial.image l.ids l.offset l.buf l.end l.id-index l.image l.x l.rest
