-- The steps are the definition's, by arithmetic.
use native.Mathlib.Omega.{arith}
use Rattle.fat.specs.Lists.{room_of, sectors_in}
use Rattle.alloc.proofs.early.room.Goals as goal

pub returns : goal.returns
unfolding room_of sectors_in
returns c = omega arith
