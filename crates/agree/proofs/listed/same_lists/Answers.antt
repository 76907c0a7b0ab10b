-- The counts, the DIFAT's list and the FAT's are tested in turn. The DIFAT's list is the chain, so the places are read from it.
use mathlib.Core.Path.{◌≡◌, sym, ◌∙◌}
use lib.ListN.{length}
use Rattle.agree.proofs.Listing.{lists_chained, lists_counts, lists_chain, lists_places, lists_told}
use borrow.Author.Rules.{rules}
use Rattle.agree.proofs.listed.same_lists.Goals as goal
use Rattle.agree.proofs.listed.same_lists.Goals.{After-list-2-1}

-- the header's list has its 109 entries
entries_there : (c : After-list-2-1) → length c.args.h.list ≡ 109
entries_there c = search rules

pub returns-then-not-counts_right : goal.returns-then-not-counts_right
returns-then-not-counts_right c = lists_counts _ _ _ _ _ _ _ _ c.requires (sym c.counts_right.ensures ∙ c.if-not-counts_right.true)

pub same_difats-requires : goal.same_difats-requires
same_difats-requires c = lists_chained _ _ _ _ _ _ c.requires

pub returns-then-not-same_difats : goal.returns-then-not-same_difats
returns-then-not-same_difats c =
    lists_chain _ _ _ _ _ _ _ _ c.requires _ c.same_difats.ensures (c.if-not-same_difats.true)

pub same_fats-requires : goal.same_fats-requires
same_fats-requires c =
    let passed = goal.at.same_fats-requires c in
    lists_places c.args.s c.args.image.now c.args.h c.args.n c.args.fats.now c.args.difats.now _ _ c.requires _ c.same_difats.ensures _ _ (entries_there passed.After-list-2-1) c.same_difats.auto.scratch (c.if-not-same_difats.false)

pub returns : goal.returns
returns c =
    lists_told _ _ _ _ _ _ _ _ c.requires _ c.same_difats.ensures _ (sym c.counts_right.ensures ∙ c.if-not-counts_right.false) (c.if-not-same_difats.false) c.same_fats.ensures
