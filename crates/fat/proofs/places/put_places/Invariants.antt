-- The invariant: the places stored so far are places in the list of the numbers they stand at.
use mathlib.Core.Path.{◌≡◌}
use lib.ListN.{length}
use Rattle.fat.proofs.Differing.{Placed}
use Rattle.fat.proofs.places.put_places.Given as goal

abbrev pub invariant-loop-j : goal.invariant-loop-j
invariant-loop-j l = Placed l.list l.scratch l.j × (length l.scratch ≡ length l.initial.scratch)
