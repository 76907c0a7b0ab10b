-- The listing tells whether all are below n and the chain ends, and only then is the list looked through for repeats: together the definition's test.
use Rattle.fat.proofs.Listing.{below_more, chain_not, chain_below, chain_loads}
use Rattle.fat.proofs.listed.load_difats.Goals as goal

pub different-requires-clause-list_value : goal.different-requires-clause-list_value
different-requires-clause-list_value c = below_more _ _ _ c.requires.difats_len_bound.1 (chain_below _ _ _ _ _ _ _ c.list_difats.ensures c.if-list_difats.true)

pub returns-then-list_difats : goal.returns-then-list_difats
returns-then-list_difats c = chain_loads _ _ _ _ _ _ _ _ c.list_difats.ensures c.if-list_difats.true c.different.ensures

pub returns-else-list_difats : goal.returns-else-list_difats
returns-else-list_difats c = chain_not _ _ _ _ _ _ _ c.list_difats.ensures c.if-list_difats.false
