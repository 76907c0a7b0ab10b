-- The invariant: count steps are taken and listed, and id is where they lead. A turn at a sector is a step to a different one, so at most n are taken.
use Prim.Native.Nat.{◌-◌}
use lib.ListN.{length}
use Rattle.walk.proofs.Listing.{Walks}
use Rattle.walk.proofs.walk.Given as goal

abbrev pub invariant-loop-id : goal.invariant-loop-id
invariant-loop-id l = Walks l.fat l.start l.initial.ids l.ids l.id l.count

abbrev pub decreases-loop-id : goal.decreases-loop-id
decreases-loop-id l = length l.fat - l.count
