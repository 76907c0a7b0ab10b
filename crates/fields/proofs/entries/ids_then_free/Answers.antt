-- The list past its leading ids is lent as a part, and looked at to its end.
use Prim.Native.Nat.{◌≤◌}
use mathlib.Core.Path.{◌∙◌}
use native.Mathlib.Omega.{arith}
use lib.ListN.{length}
use Rattle.fields.proofs.Listed.{ids_within, rest_free_lem}
use Rattle.fields.proofs.entries.ids_then_free.Goals as goal
use Rattle.fields.proofs.entries.ids_then_free.Goals.{After-leading_ids-n}

-- the ids are within the list
within : (c : After-leading_ids-n) → c.leading_ids-n.result ≤ length c.args.list.now
within c = rw c.leading_ids-n.ensures (ids_within c.args.list.now)

pub offset_bounds-list-n : goal.offset_bounds-list-n
offset_bounds-list-n c = omega (arith, within c)

pub slice_bounds-all_free-count : goal.slice_bounds-all_free-count
slice_bounds-all_free-count c = within c

pub slice_bounds-all_free-start : goal.slice_bounds-all_free-start
slice_bounds-all_free-start c = omega (arith, within c)

pub returns : goal.returns
returns c = c.all_free.ensures ∙ rest_free_lem _ _ c.leading_ids-n.ensures
