-- The front of the scratch, as long as the FAT, holds the counts.
use mathlib.Core.Path.{sym}
use lib.Seq.{length-take-le}
use Rattle.points.proofs.points.same_points.Goals as goal

pub slice_bounds-points_right-end-2 : goal.slice_bounds-points_right-end-2
slice_bounds-points_right-end-2 c = sym (length-take-le _ _ c.requires.below)

pub points_right-requires : goal.points_right-requires
points_right-requires c =
    record { counts_lent = record { few = c.requires.few; each = length-take-le _ _ c.requires.below }; marks_len = c.requires.marked }

pub returns : goal.returns
returns c = c.points_right.ensures.0
