-- The invariant: what is wrong from sector i on is what is wrong at all, and the entries below i are forgiven and marked.
use Rattle.judge.proofs.Judging.{Judging}
use Rattle.judge.proofs.entries.judge.Given as goal

abbrev pub invariant-loop-i : goal.invariant-loop-i
invariant-loop-i l = Judging l.strict l.initial.fat l.i l.fat l.marks
