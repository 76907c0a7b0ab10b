-- The width that is read is the one that the table's row says.
use Rattle.std.proofs.Common.{rules}
use Rattle.fields.specs.Fields.{number_at}
use Rattle.fields.proofs.number_at.Goals as goal

pub returns-then-width-eq2 : goal.returns-then-width-eq2
unfolding number_at
returns-then-width-eq2 c = search rules

pub returns-else-width-eq2 : goal.returns-else-width-eq2
unfolding number_at
returns-else-width-eq2 c = search rules
