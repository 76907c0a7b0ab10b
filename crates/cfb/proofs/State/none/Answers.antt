-- The literal is the definition.
use Rattle.cfb.specs.Face.{no_state}
use Rattle.cfb.proofs.State.none.Goals as goal

pub returns : goal.returns
unfolding no_state
returns c = rw c.none.ensures
