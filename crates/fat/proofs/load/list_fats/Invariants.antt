-- The invariant: the first p places are below n, and stand at the front of the list.
use Rattle.fat.specs.Lists.{place_at}
use Rattle.fat.proofs.Loading.{Filling}
use Rattle.fat.proofs.load.list_fats.Given as goal

abbrev pub invariant-loop-p : goal.invariant-loop-p
invariant-loop-p l = Filling (place_at l.s l.image l.list l.difats) l.n l.p l.initial.fats l.fats
