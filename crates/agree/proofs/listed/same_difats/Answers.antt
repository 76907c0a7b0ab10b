-- The chain is compared, and then looked through for repeats: together the definition's test.
use mathlib.Core.Path.{sym}
use lib.Seq.{length-take-le}
use Rattle.fat.proofs.Listing.{below_more}
use Rattle.agree.proofs.Listing.{relent, chain_wrong, chain_low, chain_told}
use Rattle.agree.proofs.listed.same_difats.Goals as goal

pub slice_bounds-is_chain-end-2 : goal.slice_bounds-is_chain-end-2
slice_bounds-is_chain-end-2 c = sym (length-take-le _ _ c.requires.within)

pub is_chain-requires : goal.is_chain-requires
is_chain-requires c = record { holds = c.requires.holds; same = length-take-le _ _ c.requires.within }

pub returns-then-not-is_chain : goal.returns-then-not-is_chain
returns-then-not-is_chain c = chain_wrong _ _ _ _ _ _ _ c.is_chain.ensures (c.if-not-is_chain.true)

pub different-requires : goal.different-requires
different-requires c =
    record { list_value = below_more _ _ _ (relent c.is_chain.new.room c.args.scratch.now _ _ c.is_chain.auto.room c.requires.within c.requires.below) (chain_low _ _ _ _ _ _ _ c.is_chain.ensures (c.if-not-is_chain.false)); list_len_bound = c.requires.few }

pub returns : goal.returns
returns c =
    chain_told _ _ _ _ _ _ _ c.is_chain.ensures _ (c.if-not-is_chain.false) c.different.ensures
