-- So far the words below i fit, and stand in their places.
use Prim.Native.Nat.{◌+◌}
use mathlib.Core.Path.{◌≡◌}
use lib.ListN.{take, drop, replicate}
use Rattle.lists.specs.Lists.{splice}
use Rattle.states.specs.States.{fits_in}
use Rattle.states.proofs.held_words.Given as goal

abbrev pub invariant-loop-i : goal.invariant-loop-i
invariant-loop-i l = record {
  fit : fits_in (drop 4 l.words) ≡ fits_in (drop (4 + l.i) l.words);
  held : l.held ≡ splice (replicate 117 0) 0 (take l.i (drop 4 l.words));
}
