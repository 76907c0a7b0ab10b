-- The invariant: the ids so far are freed.
use Rattle.hand.proofs.Freeing.{Freed}
use Rattle.hand.proofs.parts.free_run.Given as goal

abbrev pub invariant-loop-j : goal.invariant-loop-j
invariant-loop-j l = Freed l.s l.n l.free l.initial.image l.initial.fat l.fats l.initial.frees l.initial.marks l.ids l.from l.j l.image l.fat l.frees l.marks
