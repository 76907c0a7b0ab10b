-- The invariant: what is left to set, set in the FAT so far, gives the whole.
use mathlib.Core.Path.{◌≡◌}
use lib.ListN.{length, drop}
use Rattle.judge.specs.Judge.{set_all}
use Rattle.judge.proofs.marks.set_all.Given as goal

abbrev pub invariant-loop-id : goal.invariant-loop-id
invariant-loop-id l = (set_all l.initial.fat l.ids l.v ≡ set_all l.fat (drop l.id-index l.ids) l.v) × (length l.fat ≡ length l.initial.fat)
