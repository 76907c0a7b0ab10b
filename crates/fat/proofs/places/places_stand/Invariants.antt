-- The invariant: the flag says whether the places passed stand.
use mathlib.Core.Path.{◌≡◌}
use Rattle.lists.specs.Lists.{every}
use Rattle.fat.proofs.Differing.{stands_at}
use Rattle.fat.proofs.places.places_stand.Given as goal

abbrev pub invariant-loop-j : goal.invariant-loop-j
invariant-loop-j l = l.stand ≡ every l.j (stands_at l.list l.scratch)
