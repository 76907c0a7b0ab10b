-- The invariant: the buffer is as it was, with the bytes of the first i entries put over it from 76 on.
use mathlib.Core.Path.{◌≡◌}
use lib.ListN.{take}
use Rattle.lists.specs.Lists.{splice}
use Rattle.fields.specs.Fields.{list_bytes}
use Rattle.fields.proofs.entries.put_list.Given as goal

abbrev pub invariant-loop-i : goal.invariant-loop-i
invariant-loop-i l = l.buf ≡ splice l.initial.buf 76 (list_bytes (take l.i l.list))
