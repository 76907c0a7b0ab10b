-- The minima are the definition's, in its order.
use Rattle.std.proofs.Common.{rules}
use Rattle.lent.specs.Tables.{shortest}
use Rattle.lent.proofs.Tables.shortest.Goals as goal

pub returns : goal.returns
unfolding shortest
returns c = search rules
