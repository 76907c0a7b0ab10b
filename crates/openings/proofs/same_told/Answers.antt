-- `same_told` meets its contract: each test that is passed is a number that agrees. Assumes nothing.
use mathlib.Core.Path.{◌∙◌, sym}
use borrow.Author.Tests.{ne_eqb}
use Rattle.std.proofs.lemmas.Bool.Decides.{Decides-eqb}
use Rattle.lists.specs.Lists.{part}
use Rattle.cfb.proofs.Answering.{number_told}
use Rattle.records.proofs.Held.{never}
use Rattle.openings.proofs.same_told.Goals as goal
use Rattle.openings.proofs.same_told.Goals.{then-ends_with-number_in, else-ends_with-number_in}

pub returns-then-ids_told-from : goal.returns-then-ids_told-from
unfolding part
returns-then-ids_told-from c =
    λ e.
    elim c.if-ends_with-number_in.branch [
      | else-ends_with-number_in w ↦ never (sym (ne_eqb _ _ w.if-ends_with-number_in.false) ∙ sym w.value-is ∙ c.if-ids_told-from.true)
      | then-ends_with-number_in w ↦ record {
        number = sym (number_told c.args.answer) ∙ sym c.ends_with.ensures ∙ w.if-ends_with-number_in.true ∙ c.number_in.ensures;
        count = sym w.ids_told.ensures ∙ (Decides-eqb _ _).0 (sym w.value-is ∙ c.if-ids_told-from.true) ∙ w.from.ensures;
        list = c.same_table.ensures e;
      }
    ]
