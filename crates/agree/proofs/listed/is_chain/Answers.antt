-- The chain is listed into the room, and the room compared.
use mathlib.Core.Path.{◌∙◌}
use lib.ListN.{length}
use Rattle.fat.specs.Loaded.{ChainListed}
use Rattle.agree.proofs.Comparing.{slices_same}
use Rattle.agree.proofs.Listing.{chain_as_long, chain_unlisted, chain_compared}
use Rattle.agree.proofs.listed.is_chain.Goals as goal
use Rattle.agree.proofs.listed.is_chain.Goals.{After-list_difats}

listed : (c : After-list_difats) → ChainListed c.args.s c.args.image.now c.args.n c.args.first (length c.args.difats.now) c.list_difats.result c.list_difats.new.difats
listed c = chain_as_long _ _ _ _ _ _ _ _ c.requires.same c.list_difats.ensures

pub list_difats-requires : goal.list_difats-requires
list_difats-requires c = c.requires.holds

pub returns-then-not-list_difats : goal.returns-then-not-list_difats
returns-then-not-list_difats c =
    let passed = goal.at.returns-then-not-list_difats c in
    chain_unlisted _ _ _ _ _ _ _ _ (listed passed.After-list_difats) (c.if-not-list_difats.true)

pub returns : goal.returns
returns c =
    let passed = goal.at.returns c in
    chain_compared _ _ _ _ _ _ _ _ _ (listed passed.After-list_difats) (c.if-not-list_difats.false) (c.eq.ensures ∙ slices_same _ _)
