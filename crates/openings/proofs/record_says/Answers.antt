-- `record_says` meets its contract: the comparisons of the record's kind, and of a chain the call's own. Assumes nothing.
use Rattle.openings.specs.Openings.{start_in, lent_ids, Says}
use Rattle.openings.proofs.Opened.{chain_told}
use Rattle.openings.proofs.record_says.Goals as goal

pub returns-in-67 : goal.returns-in-67
unfolding start_in lent_ids
returns-in-67 c =
    λ e.
    Says.chains c.in-67.is c.if-number-eq0.true (chain_told _ c.read-start.ensures c.open_chain-called.ensures (c.same_told.ensures e))
