-- `same_read` meets its contract: the tests that are passed are the agreement. Assumes nothing.
use Rattle.std.proofs.Common.{sym, ap, ◌∙◌}
use Rattle.std.specs.Result.{result_unwrap_or}
use Rattle.lists.specs.Lists.{part}
use Rattle.header.specs.declared.Header.{Header}
use Rattle.records.proofs.Held.{never}
use Rattle.answers.proofs.Agreed.{part_between, version_at, read_agrees}
use Rattle.answers.proofs.same_read.Goals as goal

pub returns-then-len-gt544 : goal.returns-then-len-gt544
returns-then-len-gt544 c = never

pub returns-then-ends_with-number_in : goal.returns-then-ends_with-number_in
returns-then-ends_with-number_in c = never

pub returns-in_default : goal.returns-in_default
returns-in_default c = never

pub returns : goal.returns
unfolding part
returns c =
    let case = c.args.case.now in
    let version = version_at _ c.read.ensures c.try_from.ensures c.in-Ok.is in
    λ e.
    read_agrees case version c.length_in-len.ensures c.mode_in.ensures (part_between case 8 c.length_in-len.result) c.read_from-read.ensures
    (sym c.ends_with.ensures ∙ c.if-ends_with-number_in.false) c.number_in.ensures (sym (c.unwrap_or-header.ensures ∙ ap (λ (h : Header). result_unwrap_or c.read_from-read.result h) c.none.ensures) ∙ c.same_header.ensures e ∙ c.header_in.ensures)
