-- The short list gives its first item, and goes on with the list of the entries past it. Assumes nothing.
use Rattle.std.proofs.Common.{rules}
use Rattle.consts.proofs.Listing.{item_first, item_within, item_none}
use Rattle.consts.proofs.ShortListIterator.next.Goals as goal

pub returns-in_err-item-clause-steps : goal.returns-in_err-item-clause-steps
returns-in_err-item-clause-steps c = let none = item_none _ c.in_err-item.ensures in search rules

pub split_at-requires : goal.split_at-requires
split_at-requires c = item_within _ c.in_ok-item.ensures

pub returns-clause-steps : goal.returns-clause-steps
returns-clause-steps c = item_first _ c.in_ok-item.ensures c.split_at.ensures.back

pub returns-clause-goes : goal.returns-clause-goes
returns-clause-goes c = let first = item_first _ c.in_ok-item.ensures c.split_at.ensures.back in search rules
