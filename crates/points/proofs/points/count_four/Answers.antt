-- Each call adds at most one to a count.
use native.Mathlib.Omega.{arith}
use Rattle.lists.specs.Lists.{Below}
use Rattle.points.proofs.Pointing.{counted_below}
use Rattle.points.proofs.points.count_four.Goals as goal
use Rattle.points.proofs.points.count_four.Goals.{After-count_pointer, After-count_pointer-2}

one : (c : After-count_pointer) → Below 65534 c.count_pointer.new.counts
one c = counted_below 65533 _ _ _ _ (omega arith) c.count_pointer.ensures c.requires

two : (c : After-count_pointer-2) → Below 65535 c.count_pointer-2.new.counts
two c = counted_below 65534 _ _ _ _ (omega arith) c.count_pointer-2.ensures (counted_below 65533 _ _ _ _ (omega arith) c.count_pointer.ensures c.requires)

pub count_pointer-requires-2 : goal.count_pointer-requires-2
count_pointer-requires-2 c = counted_below _ _ _ _ _ (omega arith) c.count_pointer.ensures c.requires

pub count_pointer-requires-3 : goal.count_pointer-requires-3
count_pointer-requires-3 c = let passed = goal.at.count_pointer-requires-3 c in counted_below _ _ _ _ _ (omega arith) c.count_pointer-2.ensures (one passed.After-count_pointer)

pub count_pointer-requires-4 : goal.count_pointer-requires-4
count_pointer-requires-4 c = let passed = goal.at.count_pointer-requires-4 c in counted_below _ _ _ _ _ (omega arith) c.count_pointer-3.ensures (two passed.After-count_pointer-2)
