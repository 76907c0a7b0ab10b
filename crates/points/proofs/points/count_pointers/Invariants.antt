-- The invariants: the entries of the fours so far are counted; then all fours, and what is left one by one.
use Prim.Native.Nat.{◌+◌, ◌*◌, ◌/◌}
use lib.ListN.{length}
use Rattle.points.proofs.Pointing.{Counting}
use Rattle.points.proofs.points.count_pointers.Given as goal

abbrev pub invariant-loop-four : goal.invariant-loop-four
invariant-loop-four l = Counting l.fat l.counts (4 * l.four-index)

abbrev pub invariant-loop-entry : goal.invariant-loop-entry
invariant-loop-entry l = Counting l.fat l.counts (4 * (length l.fat / 4) + l.entry-index)
