-- `same_write` meets its contract: what `written_as` says of the record's buffer is the agreement. Assumes nothing.
use Rattle.std.proofs.Common.{sym, length-take-le, rules}
use Rattle.lists.specs.Lists.{part}
use Rattle.records.proofs.Held.{never}
use Rattle.answers.proofs.Agreed.{part_between, version_at, write_agrees}
use Rattle.answers.proofs.same_write.Goals as goal

pub returns-then-len-gt540 : goal.returns-then-len-gt540
returns-then-len-gt540 c = never

pub returns-in_default : goal.returns-in_default
returns-in_default c = never

pub slice_bounds-written_as-end : goal.slice_bounds-written_as-end
slice_bounds-written_as-end c = sym (length-take-le _ _ (search rules))

pub returns : goal.returns
unfolding part
returns c =
    let case = c.args.case.now in
    let version = version_at _ c.read.ensures c.try_from.ensures c.in-Ok.is in
    λ e.
    write_agrees case version c.length_in-len.ensures c.header_in-header.ensures c.number_in.ensures
    (length-take-le _ _ (search rules)) (part_between case 476 c.length_in-len.result) (c.written_as.ensures e)
