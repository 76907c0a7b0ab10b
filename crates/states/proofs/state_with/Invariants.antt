-- `states::state_with` meets its contract: so far the words below i stand behind four zeros.
use mathlib.Core.Path.{◌≡◌}
use lib.ListN.{take, replicate}
use Rattle.lists.specs.Lists.{splice}
use Rattle.states.proofs.state_with.Given as goal

abbrev pub invariant-loop-i : goal.invariant-loop-i
invariant-loop-i l = l.words ≡ splice (replicate 121 0) 4 (take l.i l.header)
