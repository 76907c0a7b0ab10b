-- A place below 109 is the header's; a later one stands in a DIFAT sector, which is there once the place is held.
use Rattle.std.proofs.Common.{rules}
use Rattle.disk.specs.Disk.{list_place, store}
use Rattle.disk.proofs.Growing.{place_held, place_far}
use Rattle.disk.proofs.disk.Hand.list_place.Goals as goal

pub returns-then-p-lt109 : goal.returns-then-p-lt109
unfolding list_place store
returns-then-p-lt109 c = search rules

pub put_at-requires-clause-s_in_bounds : goal.put_at-requires-clause-s_in_bounds
put_at-requires-clause-s_in_bounds c = rw c.hold_place.ensures.same.len (place_held _ _ _ _ _ c.if-p-lt109.false c.requires c.hold_place.ensures.disk)

pub returns : goal.returns
returns c =
    let stored = rw c.hold_place.ensures.same.len at c.put_at.ensures in
    search (rules, place_far _ _ _ _ _ _ _ _ _ _ c.if-p-lt109.false c.hold_place.ensures.disk stored)
