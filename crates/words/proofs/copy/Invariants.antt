-- The invariant: dst is as it was, with the first i bytes of src over its front.
use mathlib.Core.Path.{◌≡◌}
use lib.ListN.{length, take}
use Rattle.lists.specs.Lists.{splice}
use Rattle.words.proofs.copy.Given as goal

abbrev pub invariant-loop-i : goal.invariant-loop-i
invariant-loop-i l = (l.dst ≡ splice l.initial.dst 0 (take l.i l.src)) × (length l.dst ≡ length l.initial.dst)
