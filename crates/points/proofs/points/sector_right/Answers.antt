-- The code joins the definition's tests.
use Rattle.points.proofs.Pointing.{right_joined}
use Rattle.points.proofs.points.sector_right.Goals as goal

pub returns : goal.returns
returns c = right_joined _ _ _
