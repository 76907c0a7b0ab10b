-- The counts are those of the definition, so the sectors are right exactly when the entries and the marks are.
use Rattle.points.proofs.Pointing.{counts_tell}
use Rattle.points.proofs.points.points_right.Goals as goal

pub returns : goal.returns
returns c =
    (counts_tell _ _ c.requires.marks_len _ _ c.count_pointers.ensures c.sectors_right.ensures, c.count_pointers.ensures)
