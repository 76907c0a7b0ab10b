-- `same_list` meets its contract: what `same_items` says of the entries and the text of the record. Assumes nothing.
use Rattle.std.proofs.Common.{sym, length-take-le, rules}
use Rattle.lists.specs.Lists.{part}
use Rattle.records.proofs.Held.{never}
use Rattle.answers.proofs.Agreed.{list_agrees}
use Rattle.answers.proofs.same_list.Goals as goal

pub returns-then-len-gt60 : goal.returns-then-len-gt60
returns-then-len-gt60 c = never

pub slice_bounds-same_items-end : goal.slice_bounds-same_items-end
slice_bounds-same_items-end c = sym (length-take-le _ _ (search rules))

pub returns : goal.returns
unfolding part
returns c =
    λ e. list_agrees c.args.case.now c.length_in-len.ensures c.take_numbers.ensures c.number_in.ensures (c.same_items.ensures e)
