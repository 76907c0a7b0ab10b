-- The invariant: done of the total bytes are over the front of buf. A turn copies a run of the next sector, and puts it behind them.
use Rattle.chain.proofs.Reading.{Reading}
use Rattle.chain.proofs.read.Given as goal

abbrev pub invariant-loop-id : goal.invariant-loop-id
invariant-loop-id l = Reading l.s l.image l.ids l.offset l.initial.buf l.total l.end l.id-index l.buf l.x l.done
