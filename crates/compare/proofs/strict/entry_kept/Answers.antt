-- The code joins the definition's tests.
use Rattle.compare.proofs.Keeping.{kept_joined}
use Rattle.compare.proofs.strict.entry_kept.Goals as goal

pub returns : goal.returns
returns c = kept_joined _ _ _
