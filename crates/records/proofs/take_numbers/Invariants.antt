-- So far the first i places hold the first i numbers.
use Prim.Native.Nat.{◌*◌}
use mathlib.Core.Path.{◌≡◌}
use mathlib.Core.List.{◌++◌}
use lib.ListN.{drop}
use Rattle.lists.specs.Lists.{tab}
use Rattle.words.specs.Words.{le}
use Rattle.records.proofs.take_numbers.Given as goal

abbrev pub invariant-loop-i : goal.invariant-loop-i
invariant-loop-i l = l.numbers ≡ tab (λ k. le 4 l.held (4 * k)) l.i ++ drop l.i l.initial.numbers
