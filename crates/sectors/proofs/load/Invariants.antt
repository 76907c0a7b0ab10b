-- The invariant: out holds the entries below j, and from j on what it held before.
use mathlib.Core.Path.{◌≡◌}
use mathlib.Core.List.{◌++◌}
use lib.ListN.{drop}
use Rattle.lists.specs.Lists.{tab}
use Rattle.sectors.specs.Sectors.{entry_in}
use Rattle.sectors.proofs.load.Given as goal

abbrev pub invariant-loop-j : goal.invariant-loop-j
invariant-loop-j l = l.out ≡ tab (entry_in l.sector) l.j ++ drop l.j l.initial.out
