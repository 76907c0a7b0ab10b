-- The invariant: the list holds the FREE sectors below i, and then what it held before.
use Rattle.judge.proofs.Judging.{Listing}
use Rattle.judge.proofs.entries.list_free.Given as goal

abbrev pub invariant-loop-i : goal.invariant-loop-i
invariant-loop-i l = Listing l.fat l.initial.frees l.i l.count l.frees
