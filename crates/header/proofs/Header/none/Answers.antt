-- The literal is the definition.
use mathlib.Core.Path.{refl}
use Rattle.header.specs.Read.{none}
use Rattle.header.proofs.Header.none.Goals as goal

pub returns : goal.returns
unfolding none
returns c = refl
