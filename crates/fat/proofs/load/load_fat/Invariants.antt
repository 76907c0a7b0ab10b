-- The invariant: the entries of the first p sectors stand at the front of the FAT, cut where it ends; a turn lends the next run and puts it back filled.
use Rattle.fat.proofs.Loading.{Loaded}
use Rattle.fat.proofs.load.load_fat.Given as goal

abbrev pub invariant-loop-p : goal.invariant-loop-p
invariant-loop-p l = Loaded l.s l.image l.fats l.p l.initial.fat l.fat
